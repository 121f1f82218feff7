use Rattle.std.proofs.Common.{◌≡◌, length, take}
use Rattle.dep_nodes.specs.OnceLists.{IsTable, slots_of}
use Rattle.dep_nodes.proofs.once_lists.table_of.Given as goal

abbrev pub invariant-loop-place : goal.invariant-loop-place
invariant-loop-place g l = (length l.table.last.items ≡ l.slots) × (length l.table.before.items ≡ l.slots) × IsTable (slots_of g.T.Keyed.key l.slots (take l.place l.items)) l.table.last.items l.table.before.items
