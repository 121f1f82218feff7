use Rattle.std.proofs.Common.{◌≡◌, ◌∙◌, map, ap, subst}
use Rattle.hierarchy.specs.Cycles.{IsFirstOnCycle}
use Rattle.hierarchy.specs.Hierarchies.{parent_list}
use Rattle.hierarchy.proofs.ProgramGraphs.{parents_lead_inside, is_cyclic, no_cycle}
use Rattle.hierarchy.proofs.Hierarchy.build.Goals as goal

pub first_on_cycle-requires-clause-inside : goal.first_on_cycle-requires-clause-inside
first_on_cycle-requires-clause-inside c =
    let lists : c.as_slice-lists.result.now ≡ map parent_list c.args.program.now.classes =
    c.as_slice-lists.ensures.value ∙ c.in_ok-parents.ensures ∙ ap (map parent_list) c.as_slice.ensures in
    parents_lead_inside c.args.program.now c.requires.there c.as_slice-lists.result.now lists

pub returns-in-Some-clause-fault : goal.returns-in-Some-clause-fault
returns-in-Some-clause-fault c =
    let lists : c.as_slice-lists.result.now ≡ map parent_list c.args.program.now.classes =
    c.as_slice-lists.ensures.value ∙ c.in_ok-parents.ensures ∙ ap (map parent_list) c.as_slice.ensures in
    is_cyclic c.args.program.now c.as_slice-lists.result.now c.in-Some.class lists (subst (λ o. IsFirstOnCycle c.as_slice-lists.result.now o) c.in-Some.is c.in_ok-found.ensures)

pub hierarchy_of-requires-clause-no_cycle : goal.hierarchy_of-requires-clause-no_cycle
hierarchy_of-requires-clause-no_cycle c =
    let lists : c.as_slice-lists.result.now ≡ map parent_list c.args.program.now.classes =
    c.as_slice-lists.ensures.value ∙ c.in_ok-parents.ensures ∙ ap (map parent_list) c.as_slice.ensures in
    no_cycle c.args.program.now c.as_slice-lists.result.now lists (subst (λ o. IsFirstOnCycle c.as_slice-lists.result.now o) c.in-None.is c.in_ok-found.ensures)
