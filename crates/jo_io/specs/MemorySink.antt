-- What a `MemorySink` shows, and what a put leaves.
use Rattle.std.specs.Prelude.{◌≡◌, ℕ, ◌-◌, Bool, true, false, not, ◌&&◌, List, ◌++◌, length, take, min, nat_le, Result, Ok, Err, if◌then◌else◌}
use Rattle.jo_io.specs.Counts.{is_listed, next_count}
use Rattle.jo_io.specs.declared.sink.Failed.{Failed}

pub record StoredBytes : Type 0 where
  -- all that was taken
  pub bytes : List ℕ
  -- how many bytes it takes in all
  pub room : ℕ
  -- the numbers of the puts that are to fail
  pub failing : List ℕ
  pub puts : ℕ
  pub faults : ℕ

-- how many more bytes have room
abbrev pub room_left : StoredBytes → ℕ
room_left sink = sink.room - length sink.bytes

-- the next put is not to fail, and its piece has room
abbrev pub takes_all : StoredBytes → List ℕ → Bool
takes_all sink piece = not (is_listed sink.failing sink.puts) && nat_le (length piece) (room_left sink)

-- how many bytes the next put takes of a piece that it does not take whole
abbrev pub taken_at_most : StoredBytes → ℕ
taken_at_most sink = if is_listed sink.failing sink.puts then min (room_left sink) 1 else room_left sink

-- what a put leaves, and when it fails
abbrev pub PutEnds : StoredBytes → StoredBytes → List ℕ → Result (Unit {0}) Failed → Type 0
PutEnds old new piece (Ok done) =
    (takes_all old piece ≡ true) × (new ≡ record old { bytes = old.bytes ++ piece; puts = next_count old.puts })
PutEnds old new piece (Err failed) =
    (takes_all old piece ≡ false) × (new ≡ record old { bytes = old.bytes ++ take (taken_at_most old) piece; puts = next_count old.puts; faults = next_count old.faults })
