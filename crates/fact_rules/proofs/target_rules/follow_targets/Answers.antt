use Rattle.std.proofs.Common.{◌≡◌, length, subst, arith}
use Rattle.jo_prog.specs.TypingPaths.{HasHeightAt}
use Rattle.dep_nodes.specs.declared.kinds.NodeKind.TheVariants.{Arg}
use Rattle.dependence.specs.declared.facts.InstKey.{InstKey}
use Rattle.fact_sets.specs.Seen.{Known, Listed, instance_seen}
use Rattle.method_views.specs.InstanceRules.{ByTarget}
use Rattle.fact_rules.specs.Adds.{Adds, FromBelow}
use Rattle.fact_rules.specs.Places.{instance_of}
use Rattle.fact_rules.specs.TargetRules.{NodeGives}
use Rattle.fact_rules.proofs.AddsLemmas.{adds_alike, below_none, below_step}
use Rattle.fact_rules.proofs.ListLevel.{same_instance_named}
use Rattle.fact_rules.proofs.NamedLemmas.{known_there, known_call}
use Rattle.fact_rules.proofs.TargetLemmas.{call_of}
use Rattle.fact_rules.proofs.TargetRuleLemmas.{targets_by_nodes}
use Rattle.fact_rules.proofs.target_rules.follow_targets.Goals as goal

pub loop-n-init : goal.loop-n-init
loop-n-init g c =
    let view = c.args.view.now in
    let list = g.X.Contexts.list in
    below_none (Listed list c.args.following.now.items)
    (NodeGives view.program.now (Known list c.args.facts.now) (instance_seen list (instance_of view.method c.context_of-context.result)) (g.X.Contexts.policy c.args.contexts.now) view.wide.now)

pub loop-n-preserved : goal.loop-n-preserved
loop-n-preserved g c =
    let view = c.args.view.now in
    let list = g.X.Contexts.list in
    below_step (Listed list c.args.following.now.items) (Listed list c.loop-n.following.items) (Listed list c.follow_node.new.following.items) c.loop-n.n
    (NodeGives view.program.now (Known list c.args.facts.now) (instance_seen list (instance_of view.method c.context_of-context.result)) (g.X.Contexts.policy c.args.contexts.now) view.wide.now)
    c.loop-n.invariant c.in_ok-follow_node.ensures

pub returns : goal.returns
returns g c = λ key is_key.
    let view = c.args.view.now in
    let program = view.program.now in
    let H = HasHeightAt program view.method in
    let list = g.X.Contexts.list in
    let tells = g.met.X.Contexts.equal_lists in
    let policy = g.X.Contexts.policy c.args.contexts.now in
    let lists = c.args.facts.now in
    let facts = Known list lists in
    let once = c.instances-count.ensures.once in
    let own : InstKey g.row.X-C.Denot = instance_of view.method c.context_of-context.result in
    let at = c.context_of-context.ensures in
    let i = instance_seen list own in
    let old = Listed list c.args.following.now.items in
    let new = Listed list c.loop-n.following.items in
    let same : own ≡ key = same_instance_named list lists.instances c.args.instance own key at is_key in
    let past = c.loop-n-test.false in
    let within = c.loop-n.auto.n-end in
    let counted = c.len-n-end.ensures in
    let end : c.loop-n.n ≡ length view.wide.now = omega (arith, past, within, counted) in
    subst (λ k. Adds old new (ByTarget program policy facts H (instance_seen list k))) same
    (adds_alike old new (FromBelow (length view.wide.now) (NodeGives program facts i policy view.wide.now)) (ByTarget program policy facts H i)
    (subst (λ n. Adds old new (FromBelow n (NodeGives program facts i policy view.wide.now))) end c.loop-n.invariant)
    (targets_by_nodes program policy facts H i view.wide.now c.requires.view.graph
    (λ pc j known. known_call list tells lists program c.requires.nodes c.args.instance pc own j once at known)
    (λ pc o has. call_of program H view.method pc 0 (known_there list tells lists program c.requires.nodes c.args.instance own (Arg pc 0) o once at has))))
