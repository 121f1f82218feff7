use Rattle.std.proofs.Common.{rules, ◌≡◌, ◌<◌, ℕ, List, length, Contains, sym, subst}
use Rattle.jo_prog.specs.TypingPaths.{HasHeightAt}
use Rattle.fact_sets.specs.FactLists.{of_static}
use Rattle.fact_sets.specs.Seen.{Known, instance_seen}
use Rattle.fact_rules.specs.Places.{instance_of}
use Rattle.fact_rules.specs.CellSteps.{AreSeen, HoldsBelow}
use Rattle.fact_rules.proofs.cell_rules.access_static.Goals as goal

pub access_cell-requires-clause-inside : goal.access_cell-requires-clause-inside
access_cell-requires-clause-inside g c =
    let is : c.as_slice.result.now ≡ c.in_ok-stored.stored.items = search rules in
    subst (λ (ns : List ℕ). (o : ℕ) → Contains ns o → o < length c.args.facts.now.objects) (sym is) c.in_ok-stored.ensures.inside

pub access_cell-requires-clause-stored : goal.access_cell-requires-clause-stored
access_cell-requires-clause-stored g c = λ stores list tells.
    let view = c.args.view.now in
    let is : c.as_slice.result.now ≡ c.in_ok-stored.stored.items = search rules in
    subst (λ (ns : List ℕ). AreSeen list c.args.facts.now.objects ns (HoldsBelow view.program.now (Known list c.args.facts.now) (HasHeightAt view.program.now view.method) (instance_seen list (instance_of view.method c.args.context)) c.args.pc 1))
    (sym is) (c.in_ok-stored.ensures.each stores list tells)

pub access_cell-requires-clause-named : goal.access_cell-requires-clause-named
access_cell-requires-clause-named g c = of_static c.args.field
