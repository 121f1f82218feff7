use Rattle.std.proofs.Common.{◌≡◌, ◌<◌, length, slice_get, slice_set, Some, ap, arith}
use Rattle.dependence.proofs.FlowLemmas.{found_row, if_ok, if_err, read_added, read_same, flow_with_places}
use Rattle.dependence.proofs.flows.Flow.add_read.Goals as goal

pub invariant_of-self : goal.invariant_of-self
invariant_of-self c =
    let rows = c.self.inside.rows.items in
    let row = c.index_mut.result.now in
    let below : c.args.n < length rows = omega (arith, ap length c.self.view_is, c.requires) in
    flow_with_places rows c.args.n row c.self.inside.rows.len c.add.new.self row.writes c.self.invariant (found_row rows c.args.n row below c.index_mut.ensures.value)

pub returns-clause-ok : goal.returns-clause-ok
returns-clause-ok c =
    let rows = c.self.inside.rows.items in
    let row = c.index_mut.result.now in
    let below : c.args.n < length rows = omega (arith, ap length c.self.view_is, c.requires) in
    if_ok c.add.result _ _ (read_added rows c.args.self.now c.args.n row c.self.view_is (found_row rows c.args.n row below c.index_mut.ensures.value) c.args.place c.add.new.self) c.add.ensures.ok

pub returns-clause-err : goal.returns-clause-err
returns-clause-err c =
    let rows = c.self.inside.rows.items in
    let row = c.index_mut.result.now in
    let below : c.args.n < length rows = omega (arith, ap length c.self.view_is, c.requires) in
    if_err c.add.result _ _ (read_same rows c.args.self.now c.args.n row c.self.view_is (found_row rows c.args.n row below c.index_mut.ensures.value) c.add.new.self) c.add.ensures.err
