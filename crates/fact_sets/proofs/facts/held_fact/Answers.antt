use Rattle.std.proofs.Common.{subst, sym}
use Rattle.dependence.specs.declared.facts.Fact.TheVariants.{Holds, CellHolds}
use Rattle.fact_sets.specs.declared.numbered.NumberedFact.TheVariants.{Holds as IsHeld}
use Rattle.fact_sets.specs.FactLists.{Says, held, in_cell}
use Rattle.fact_sets.proofs.facts.held_fact.Goals as goal

pub returns-in-Node : goal.returns-in-Node
returns-in-Node g c =
    subst (λ holder. Says c.args.instances.now c.args.objects.now (IsHeld holder c.args.o) (Holds c.instance_at.result c.in-Node.kind c.object_at.result)) (sym c.in-Node.is)
    (held c.in-Node.i c.args.o c.in-Node.kind c.instance_at.result c.object_at.result c.instance_at.ensures c.object_at.ensures)

pub returns-in-Cell : goal.returns-in-Cell
returns-in-Cell g c =
    subst (λ holder. Says c.args.instances.now c.args.objects.now (IsHeld holder c.args.o) (CellHolds c.cell_at.result c.object_at-in-Cell.result)) (sym c.in-Cell.is)
    (in_cell c.in-Cell.cell c.cell_at.result c.args.o c.object_at-in-Cell.result c.cell_at.ensures c.object_at-in-Cell.ensures)
