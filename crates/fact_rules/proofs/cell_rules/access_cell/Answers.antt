use Rattle.std.proofs.Common.{◌≡◌, true, false}
use Rattle.std.proofs.lemmas.Result.{on_ok_weaker}
use Rattle.jo_prog.specs.TypingPaths.{HasHeightAt}
use Rattle.dep_nodes.specs.declared.kinds.NodeKind.TheVariants.{Instr}
use Rattle.dependence.specs.declared.facts.Fact.TheVariants.{Holds, CellHolds}
use Rattle.fact_sets.specs.Seen.{Known, Listed, instance_seen, cell_seen}
use Rattle.fact_rules.specs.Adds.{From}
use Rattle.fact_rules.specs.Additions.{OfObject}
use Rattle.fact_rules.specs.Places.{instance_of}
use Rattle.fact_rules.specs.CellSteps.{CellGives, HoldsBelow}
use Rattle.fact_rules.proofs.AddsLemmas.{adds_alike}
use Rattle.fact_rules.proofs.CellLemmas.{from_seen, from_cell, at_value}
use Rattle.fact_rules.proofs.cell_rules.access_cell.Goals as goal

pub returns-then-store : goal.returns-then-store
returns-then-store g c =
    let view = c.args.view.now in
    let H = HasHeightAt view.program.now view.method in
    on_ok_weaker c.add_contents.result
    (λ adds list tells.
    let facts = Known list c.args.facts.now in
    let i = instance_seen list (instance_of view.method c.args.context) in
    let cell = cell_seen list c.args.cell in
    adds_alike (Listed list c.args.following.now.items) (Listed list c.add_contents.new.following.items) (From c.args.stored.now (OfObject list c.args.facts.now.objects (λ o f. f ≡ CellHolds cell o)))
    (CellGives view.program.now facts H i c.args.pc c.args.store cell) (adds list tells)
    (at_value (From c.args.stored.now (OfObject list c.args.facts.now.objects (λ o f. f ≡ CellHolds cell o))) (λ store. CellGives view.program.now facts H i c.args.pc store cell) c.args.store true c.if-store.true
    (from_seen list c.args.facts.now.objects c.args.stored.now (HoldsBelow view.program.now facts H i c.args.pc 1) (λ o f. f ≡ CellHolds cell o) (c.requires.stored c.if-store.true list tells))))
    c.add_contents.ensures

pub returns : goal.returns
returns g c =
    let view = c.args.view.now in
    let H = HasHeightAt view.program.now view.method in
    on_ok_weaker c.add_objects.result
    (λ adds list tells.
    let facts = Known list c.args.facts.now in
    let i = instance_seen list (instance_of view.method c.args.context) in
    let cell = cell_seen list c.args.cell in
    adds_alike (Listed list c.args.following.now.items) (Listed list c.add_objects.new.following.items) (From c.held-held.result.now (OfObject list c.args.facts.now.objects (λ o f. f ≡ Holds i (Instr c.args.pc) o)))
    (CellGives view.program.now facts H i c.args.pc c.args.store cell) (adds list tells)
    (at_value (From c.held-held.result.now (OfObject list c.args.facts.now.objects (λ o f. f ≡ Holds i (Instr c.args.pc) o))) (λ store. CellGives view.program.now facts H i c.args.pc store cell) c.args.store false c.if-store.false
    (from_cell list tells c.args.facts.now c.objects_once.ensures c.held-held.result.now c.args.number c.args.cell (λ o f. f ≡ Holds i (Instr c.args.pc) o) c.requires.named c.held-held.ensures.each)))
    c.add_objects.ensures
