-- What an arena ends as, where a `&mut` to one of its items is returned.
use Rattle.std.specs.Prelude.{ℕ, List, slice_set}
use Rattle.std.specs.Borrow.{Lends, Fml, RattleType, MutBor}
use Rattle.jo_ids.specs.contracts.arenas.Arena.{the_row}

-- once the borrow ends, the arena has the item that was written last at that number
abbrev pub LendsItem : (K T : RattleType) → MutBor (List T.Denot) → ℕ → MutBor T.Denot → Fml
LendsItem K T arena number item = Lends (the_row K T) T arena item (slice_set arena.now number)
