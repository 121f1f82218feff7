use Rattle.std.proofs.Common.{◌≡◌, ◌++◌, take}
use Rattle.typing_heights.proofs.search.add_all.Given as goal

abbrev pub invariant-loop-pc : goal.invariant-loop-pc
invariant-loop-pc l = l.queue.items ≡ l.initial.queue.items ++ take l.pc-index l.found
