use Rattle.std.proofs.Common.{get_or}
use Rattle.std.proofs.lemmas.List.Elements.{Contains-get_or}
use Rattle.std.proofs.lemmas.Result.{err_from_is_err_and}
use Rattle.dependence.specs.declared.flow.Place.TheVariants.{Local}
use Rattle.dependence.specs.declared.flows.Use.{Use}
use Rattle.fact_sets.specs.Seen.{Known, instance_seen}
use Rattle.heap_deps.specs.Accesses.{UseMakes}
use Rattle.heap_deps.proofs.GrowLemmas.{over_item, over_stops}
use Rattle.heap_deps.proofs.InstanceLemmas.{use_below, same_item}
use Rattle.heap_deps.proofs.instances.add_uses.Goals as goal

pub add_use_accesses-requires-clause-node : goal.add_use_accesses-requires-clause-node
add_use_accesses-requires-clause-node g c =
    let none : Use = record { node = 0; place = Local 0; from = 0 } in
    let i = c.loop-u.u-index in
    (use_below c.args.flow.now c.args.uses.now c.requires.uses (get_or c.args.uses.now i none) (Contains-get_or c.args.uses.now i none c.loop-u-test.true)).0

pub add_use_accesses-requires-clause-from : goal.add_use_accesses-requires-clause-from
add_use_accesses-requires-clause-from g c =
    let none : Use = record { node = 0; place = Local 0; from = 0 } in
    let i = c.loop-u.u-index in
    (use_below c.args.flow.now c.args.uses.now c.requires.uses (get_or c.args.uses.now i none) (Contains-get_or c.args.uses.now i none c.loop-u-test.true)).1

pub returns-in_err-add_use_accesses : goal.returns-in_err-add_use_accesses
returns-in_err-add_use_accesses g c =
    let p = err_from_is_err_and c.from_residual.result c.from_residual.ensures.1 in
    let none : Use = record { node = 0; place = Local 0; from = 0 } in
    let uses = c.args.uses.now in
    let i = c.loop-u.u-index in
    rw (p.1, p.2)
    (over_stops uses (UseMakes (Known g.X.Contexts.list c.args.facts.now) (instance_seen g.X.Contexts.list c.args.key.now) c.args.typed.now c.args.flow.now c.args.first) c.in_err-add_use_accesses.field-0.0 c.args.graph.now c.loop-u.graph c.add_use_accesses.new.graph i (get_or uses i none) c.loop-u-test.true
    (same_item uses i none c.loop-u-test.true) c.loop-u.invariant c.in_err-add_use_accesses.ensures)

pub loop-u-preserved : goal.loop-u-preserved
loop-u-preserved g c =
    let none : Use = record { node = 0; place = Local 0; from = 0 } in
    let uses = c.args.uses.now in
    let i = c.loop-u.u-index in
    over_item uses (UseMakes (Known g.X.Contexts.list c.args.facts.now) (instance_seen g.X.Contexts.list c.args.key.now) c.args.typed.now c.args.flow.now c.args.first) c.args.graph.now c.loop-u.graph c.add_use_accesses.new.graph i (get_or uses i none) c.loop-u-test.true
    (same_item uses i none c.loop-u-test.true) c.loop-u.invariant c.in_ok-add_use_accesses.ensures
