use Rattle.std.proofs.Common.{subst, sym}
use Rattle.fact_sets.specs.declared.numbered.CellNumber.TheVariants.{Field as FieldOf, Elements as ElementsOf, Static as StaticOf}
use Rattle.fact_sets.specs.FactLists.{IsCell, of_field, of_elements, of_static, AppendsEach, objects_at, object_pair}
use Rattle.fact_sets.proofs.SayLemmas.{each_one}
use Rattle.fact_sets.proofs.facts.name_cell.Goals as goal

pub returns-in_ok-object-in-Field-clause-is : goal.returns-in_ok-object-in-Field-clause-is
returns-in_ok-object-in-Field-clause-is g c =
    subst (λ cell. IsCell c.name_object.new.objects (FieldOf c.in-Field.field c.in_ok-object-in-Field.object) cell) (sym c.in-Field.is)
    (of_field c.in-Field.field c.in_ok-object-in-Field.object c.in-Field.key c.in_ok-object-in-Field.ensures.is)

pub returns-in_ok-object-in-Field-clause-ok : goal.returns-in_ok-object-in-Field-clause-ok
returns-in_ok-object-in-Field-clause-ok g c =
    subst (λ cell. AppendsEach c.args.objects.now (objects_at cell) c.name_object.new.objects) (sym c.in-Field.is)
    (each_one c.args.objects.now c.name_object.new.objects (object_pair c.in-Field.key) c.in_ok-object-in-Field.ensures.ok)

pub returns-in_ok-object-in-Elements-clause-is : goal.returns-in_ok-object-in-Elements-clause-is
returns-in_ok-object-in-Elements-clause-is g c =
    subst (λ cell. IsCell c.name_object-in-Elements.new.objects (ElementsOf c.in_ok-object-in-Elements.object) cell) (sym c.in-Elements.is)
    (of_elements c.in_ok-object-in-Elements.object c.in-Elements.key c.in_ok-object-in-Elements.ensures.is)

pub returns-in-Static-clause-is : goal.returns-in-Static-clause-is
returns-in-Static-clause-is g c =
    subst (λ cell. IsCell c.args.objects.now (StaticOf c.in-Static.field) cell) (sym c.in-Static.is) (of_static c.in-Static.field)
