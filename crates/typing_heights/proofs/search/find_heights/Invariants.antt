use Rattle.std.proofs.Common.{◌<◌, ◌+◌, ◌-◌, length}
use Rattle.typing_heights.specs.Marks.{unknown}
use Rattle.typing_heights.specs.Subjects.{program_of, typable_of}
use Rattle.typing_heights.proofs.SearchState.{Searches}
use Rattle.typing_heights.proofs.search.find_heights.Given as goal

abbrev pub invariant-loop-done : goal.invariant-loop-done
invariant-loop-done l = record {
  searches : Searches (program_of l.subject) (typable_of l.subject) l.heights.items l.queue.items l.done;
  room : length l.subject.code.now.bytes < length l.heights.items;
}

abbrev pub decreases-loop-done : goal.decreases-loop-done
decreases-loop-done l = unknown l.heights.items + (length l.queue.items - l.done)
