use Rattle.std.proofs.Common.{◌≡◌, length, subst, arith}
use Rattle.jo_prog.specs.TypingPaths.{HasHeightAt}
use Rattle.dependence.specs.declared.facts.InstKey.{InstKey}
use Rattle.fact_sets.specs.Seen.{Known, Listed, instance_seen}
use Rattle.fact_rules.specs.Adds.{Adds, FromBelow}
use Rattle.fact_rules.specs.Places.{instance_of}
use Rattle.fact_rules.specs.CellSteps.{CellsAt}
use Rattle.method_views.specs.InstanceRules.{ByCell}
use Rattle.fact_rules.proofs.AddsLemmas.{below_none, below_step, adds_alike}
use Rattle.fact_rules.proofs.ListLevel.{same_instance_named}
use Rattle.fact_rules.proofs.CellLemmas.{cells_by_nodes}
use Rattle.fact_rules.proofs.cell_rules.follow_cells.Goals as goal

pub loop-n-init : goal.loop-n-init
loop-n-init g c = λ list tells.
    let view = c.args.view.now in
    below_none (Listed list c.args.following.now.items)
    (CellsAt view.program.now (Known list c.args.facts.now) (HasHeightAt view.program.now view.method) (instance_seen list (instance_of view.method c.context_of-context.result)) view.wide.now)

pub loop-n-preserved : goal.loop-n-preserved
loop-n-preserved g c = λ list tells.
    let view = c.args.view.now in
    below_step (Listed list c.args.following.now.items) (Listed list c.loop-n.following.items) (Listed list c.add_cells.new.following.items) c.loop-n.n
    (CellsAt view.program.now (Known list c.args.facts.now) (HasHeightAt view.program.now view.method) (instance_seen list (instance_of view.method c.context_of-context.result)) view.wide.now)
    (c.loop-n.invariant list tells) (c.in_ok-add_cells.ensures list tells)

pub returns : goal.returns
returns g c = λ policy list key tells is_key.
    let view = c.args.view.now in
    let program = view.program.now in
    let H = HasHeightAt program view.method in
    let facts = Known list c.args.facts.now in
    let context = c.context_of-context.result in
    let own : InstKey g.row.C.Denot = instance_of view.method context in
    let i = instance_seen list (instance_of view.method context) in
    let old = Listed list c.args.following.now.items in
    let new = Listed list c.loop-n.following.items in
    let same : own ≡ key = same_instance_named list c.args.facts.now.instances c.args.instance own key c.context_of-context.ensures is_key in
    let past = c.loop-n-test.false in
    let within = c.loop-n.auto.n-end in
    let counted = c.len-n-end.ensures in
    let end : c.loop-n.n ≡ length view.wide.now = omega (arith, past, within, counted) in
    subst (λ k. Adds old new (ByCell program policy facts H (instance_seen list k))) same
    (adds_alike old new (FromBelow (length view.wide.now) (CellsAt program facts H i view.wide.now)) (ByCell program policy facts H i)
    (subst (λ n. Adds old new (FromBelow n (CellsAt program facts H i view.wide.now))) end (c.loop-n.invariant list tells))
    (cells_by_nodes program view.method H view.wide.now c.requires.view.graph policy facts (list context)))
