use Rattle.fact_sets.specs.FactLists.{in_cell, objects_at}
use Rattle.fact_sets.proofs.SayLemmas.{cell_on, each_last}
use Rattle.fact_sets.proofs.facts.name_content.Goals as goal

pub returns-clause-says : goal.returns-clause-says
returns-clause-says g c = λ instances.
    in_cell c.in_ok-number.number c.args.cell.now c.in_ok-held.held c.args.object.now
    (cell_on c.name_cell.new.objects c.name_object.new.objects c.in_ok-number.number c.args.cell.now c.name_object.ensures.grows c.in_ok-number.ensures.is) c.in_ok-held.ensures.is

pub returns-clause-objects : goal.returns-clause-objects
returns-clause-objects g c =
    each_last (objects_at c.args.cell.now) c.args.objects.now c.name_cell.new.objects c.name_object.new.objects c.args.object.now c.in_ok-number.ensures.ok c.in_ok-held.ensures.ok
