use Rattle.std.proofs.Common.{arith}
use Rattle.dep_nodes.proofs.OnceLemmas.{list_with_table}
use Rattle.dep_nodes.proofs.once_lists.OnceList.make_room.Goals as goal

pub invariant_of-self : goal.invariant_of-self
invariant_of-self g c =
    list_with_table g.T.Keyed.key c.self.inside.items.items c.as_slice.result.now _ c.self.inside.table.last.items c.self.inside.table.before.items _ _ c.self.invariant c.as_slice.ensures.value c.in_ok-table.ensures.last c.in_ok-table.ensures.before (omega arith) c.in_ok-table.ensures.table
