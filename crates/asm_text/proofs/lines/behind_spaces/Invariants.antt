use Rattle.std.proofs.Common.{◌≡◌, length}
use Rattle.asm_text.specs.Lines.{items_of}
use Rattle.asm_text.proofs.lines.behind_spaces.Given as goal

abbrev pub invariant-loop-rest : goal.invariant-loop-rest
invariant-loop-rest l = items_of l.rest ≡ items_of l.fn.line

abbrev pub decreases-loop-rest : goal.decreases-loop-rest
decreases-loop-rest l = length l.rest
