use Rattle.std.proofs.Common.{◌≡◌, ◌<◌, length, slice_get, Some, Contains, inl, inr, ap, arith, refl}
use Rattle.dep_nodes.proofs.GrowingLemmas.{lacks}
use Rattle.dependence.proofs.FlowLemmas.{found_row, successor_added, flow_with_successor, flow_with_same}
use Rattle.dependence.proofs.flows.Flow.add_successor.Goals as goal
use Rattle.dependence.proofs.flows.Flow.add_successor.Goals.{in-Ok, in-Err}

pub invariant_of-self-2 : goal.invariant_of-self-2
invariant_of-self-2 c =
    let rows = c.self.inside.rows.items in
    let row = c.index_mut-row.result.now in
    let below : c.args.from < length rows = omega (arith, ap length c.self.view_is, c.requires.begins) in
    let to : c.args.to < length rows = omega (arith, ap length c.self.view_is, c.requires.ends) in
    let found : slice_get rows c.args.from ≡ Some row = found_row rows c.args.from row below c.index_mut-row.ensures.value in
    let new : Contains row.successors c.args.to → ⊥ = lacks c.is_among.result c.as_slice.result.now row.successors c.args.to c.as_slice.ensures c.is_among.ensures c.if-is_among.false in
    elim c.match-push.branch [
      | in-Ok w ↦ flow_with_successor rows c.args.from row c.self.inside.rows.len c.args.to c.push.new.self c.self.invariant found to (inr (new, w.in-Ok.ensures.ok))
      | in-Err w ↦ flow_with_same rows c.args.from row c.self.inside.rows.len c.push.new.self c.self.invariant found w.in-Err.ensures.err
    ]

pub returns-clause-ok : goal.returns-clause-ok
returns-clause-ok c =
    let rows = c.self.inside.rows.items in
    let row = c.index_mut-row.result.now in
    let below : c.args.from < length rows = omega (arith, ap length c.self.view_is, c.requires.begins) in
    let found : slice_get rows c.args.from ≡ Some row = found_row rows c.args.from row below c.index_mut-row.ensures.value in
    let new : Contains row.successors c.args.to → ⊥ = lacks c.is_among.result c.as_slice.result.now row.successors c.args.to c.as_slice.ensures c.is_among.ensures c.if-is_among.false in
    elim c.match-push.branch [
      | in-Ok w ↦ rw w.result-is (successor_added rows c.args.self.now c.args.from row c.self.view_is found c.args.to c.push.new.self (inr (new, w.in-Ok.ensures.ok)))
      | in-Err w ↦ rw w.result-is tt
    ]
