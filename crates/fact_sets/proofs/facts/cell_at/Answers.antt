use Rattle.std.proofs.Common.{subst, sym}
use Rattle.dependence.specs.declared.facts.FactCell.TheVariants.{Field, Elements, Static}
use Rattle.fact_sets.specs.FactLists.{IsCell, of_field, of_elements, of_static}
use Rattle.fact_sets.proofs.facts.cell_at.Goals as goal

pub returns-in-Field : goal.returns-in-Field
returns-in-Field g c =
    subst (λ cell. IsCell c.args.objects.now cell (Field c.in-Field.field c.object_at.result)) (sym c.in-Field.is)
    (of_field c.in-Field.field c.in-Field.o c.object_at.result c.object_at.ensures)

pub returns-in-Elements : goal.returns-in-Elements
returns-in-Elements g c =
    subst (λ cell. IsCell c.args.objects.now cell (Elements c.object_at-in-Elements.result)) (sym c.in-Elements.is)
    (of_elements c.in-Elements.o c.object_at-in-Elements.result c.object_at-in-Elements.ensures)

pub returns-in-Static : goal.returns-in-Static
returns-in-Static g c =
    subst (λ cell. IsCell c.args.objects.now cell (Static c.in-Static.field)) (sym c.in-Static.is) (of_static c.in-Static.field)
