-- The schedule of a run (this project's own): the numbers of a run file, again and again.
use Rattle.std.specs.Prelude.{ℕ, ◌%◌, List, map, length, slice_index_or}
use Rattle.jo_prog.specs.Numbers.{count_from}

-- The number at a step, where steps count from 0: the schedule begins again at its end, and an empty one is all zeros.
abbrev pub picked : List ℕ → ℕ → ℕ
picked schedule step = slice_index_or schedule (step % length schedule) 0

-- the numbers of so many steps
abbrev pub repeated : List ℕ → ℕ → List ℕ
repeated schedule steps = map (picked schedule) (count_from 0 steps)
