use Rattle.std.proofs.Common.{◌≡◌, length, subst, arith}
use Rattle.jo_prog.specs.TypingPaths.{HasHeightAt}
use Rattle.dependence.specs.declared.facts.InstKey.{InstKey}
use Rattle.fact_sets.specs.Seen.{Known, Listed, instance_seen}
use Rattle.fact_rules.specs.Adds.{Adds, FromBelow}
use Rattle.fact_rules.specs.Places.{instance_of}
use Rattle.fact_rules.specs.ValueSteps.{ValuesAt}
use Rattle.method_views.specs.InstanceRules.{ByValue}
use Rattle.fact_rules.proofs.AddsLemmas.{below_none, below_step, adds_alike}
use Rattle.fact_rules.proofs.ListLevel.{same_instance_named}
use Rattle.fact_rules.proofs.ValueLemmas.{by_nodes}
use Rattle.fact_rules.proofs.value_rules.follow_values.Goals as goal

pub loop-n-init : goal.loop-n-init
loop-n-init g c =
    let view = c.args.view.now in
    let list = g.X.Contexts.list in
    below_none (Listed list c.args.following.now.items)
    (ValuesAt view.program.now (g.X.Contexts.policy c.args.contexts.now) (Known list c.args.facts.now) (HasHeightAt view.program.now view.method) (instance_seen list (instance_of view.method c.context_of-context.result)) view.wide.now)

pub loop-n-preserved : goal.loop-n-preserved
loop-n-preserved g c =
    let view = c.args.view.now in
    let list = g.X.Contexts.list in
    below_step (Listed list c.args.following.now.items) (Listed list c.loop-n.following.items) (Listed list c.add_values.new.following.items) c.loop-n.n
    (ValuesAt view.program.now (g.X.Contexts.policy c.args.contexts.now) (Known list c.args.facts.now) (HasHeightAt view.program.now view.method) (instance_seen list (instance_of view.method c.context_of-context.result)) view.wide.now)
    c.loop-n.invariant c.in_ok-add_values.ensures

pub returns : goal.returns
returns g c = λ key is_key.
    let view = c.args.view.now in
    let program = view.program.now in
    let H = HasHeightAt program view.method in
    let list = g.X.Contexts.list in
    let policy = g.X.Contexts.policy c.args.contexts.now in
    let facts = Known list c.args.facts.now in
    let context = c.context_of-context.result in
    let own : InstKey g.row.X-C.Denot = instance_of view.method context in
    let i = instance_seen list (instance_of view.method context) in
    let old = Listed list c.args.following.now.items in
    let new = Listed list c.loop-n.following.items in
    let same : own ≡ key = same_instance_named list c.args.facts.now.instances c.args.instance own key c.context_of-context.ensures is_key in
    let past = c.loop-n-test.false in
    let within = c.loop-n.auto.n-end in
    let counted = c.len-n-end.ensures in
    let end : c.loop-n.n ≡ length view.wide.now = omega (arith, past, within, counted) in
    subst (λ k. Adds old new (ByValue program policy facts H (instance_seen list k))) same
    (adds_alike old new (FromBelow (length view.wide.now) (ValuesAt program policy facts H i view.wide.now)) (ByValue program policy facts H i)
    (subst (λ n. Adds old new (FromBelow n (ValuesAt program policy facts H i view.wide.now))) end c.loop-n.invariant)
    (by_nodes program view.method H view.wide.now c.requires.view.graph policy facts (list context)))
