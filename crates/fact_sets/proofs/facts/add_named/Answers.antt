use Rattle.fact_sets.specs.FactLists.{instances_in, objects_in}
use Rattle.fact_sets.proofs.TableLemmas.{ok_more}
use Rattle.fact_sets.proofs.SayLemmas.{each_once, if_ok_more, was_there, has_number, new_facts}
use Rattle.fact_sets.proofs.facts.add_named.Goals as goal

pub returns-clause-fresh : goal.returns-clause-fresh
returns-clause-fresh g c =
    let i = c.args.instances.now in
    let o = c.args.objects.now in
    let i2 = c.name_fact.new.instances in
    let o2 = c.name_fact.new.objects in
    let n = c.in_ok-numbered.numbered in
    let once_i = each_once (instances_in c.args.fact.now) i i2 c.in_ok-numbered.ensures.instances c.requires.instances in
    let once_o = each_once (objects_in c.args.fact.now) o o2 c.in_ok-numbered.ensures.objects c.requires.objects in
    if_ok_more c.add.result
    (λ fresh tells. (
      λ yes has. tells.0 yes (has_number c.args.table.now i o i2 o2 n c.args.fact.now c.name_fact.ensures.grows c.name_fact.ensures.grows_too once_i once_o c.in_ok-numbered.ensures.says has),
      λ lacks. tells.1 (λ there. lacks (was_there c.args.table.now i o i2 o2 n c.args.fact.now c.requires.facts c.name_fact.ensures.grows c.name_fact.ensures.grows_too c.in_ok-numbered.ensures.says there)),
    ))
    c.add.ensures.fresh

pub returns-clause-kept : goal.returns-clause-kept
returns-clause-kept g c =
    ok_more c.add.result
    (λ appends. new_facts c.args.table.now c.add.new.self c.args.instances.now c.args.objects.now c.name_fact.new.instances c.name_fact.new.objects c.in_ok-numbered.numbered c.args.fact.now c.requires.facts
    c.name_fact.ensures.grows c.name_fact.ensures.grows_too c.in_ok-numbered.ensures.instances c.in_ok-numbered.ensures.objects c.requires.few_instances c.requires.few_objects c.in_ok-numbered.ensures.says appends)
    c.add.ensures.ok
