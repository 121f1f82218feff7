use Rattle.std.proofs.Common.{◌≡◌, ◌<◌, length, ap, ◌∙◌, arith}
use Rattle.dep_nodes.specs.OnceLists.{slot_of}
use Rattle.dep_nodes.proofs.OnceLemmas.{table_next}
use Rattle.dep_nodes.proofs.once_lists.table_of.Goals as goal

pub loop-place-preserved : goal.loop-place-preserved
loop-place-preserved g c =
    let was = c.loop-place.invariant in
    let below : c.loop-place.place < length c.args.items.now = omega (arith, c.loop-place-test.true) in
    let is : c.slot-slot.result ≡ slot_of c.args.slots (g.T.Keyed.key c.index-items-place.result) = c.slot-slot.ensures.value ∙ ap (slot_of c.args.slots) c.key.ensures in
    table_next g.T.Keyed.key c.args.slots c.args.items.now c.index-items-place.result c.loop-place.place c.slot-slot.result c.loop-place.table.last.items c.loop-place.table.before.items _ _ was.2 was.0 was.1 below c.requires.room is c.slot-slot.ensures.within c.index-items-place.is c.note.ensures.last c.note.ensures.before
