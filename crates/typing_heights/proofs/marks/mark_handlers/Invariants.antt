use Rattle.std.proofs.Common.{◌≡◌, drop}
use Rattle.typing_heights.specs.Marks.{handlers_marked}
use Rattle.typing_heights.proofs.marks.mark_handlers.Given as goal

abbrev pub invariant-loop-row : goal.invariant-loop-row
invariant-loop-row l = handlers_marked l.pc (drop l.row-index l.rows) (record { heights = l.heights; found = l.found.items })
    ≡ handlers_marked l.pc l.rows (record { heights = l.initial.heights; found = l.initial.found.items })
