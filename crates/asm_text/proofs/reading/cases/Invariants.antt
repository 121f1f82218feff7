use Rattle.std.proofs.Common.{◌≡◌, length}
use Rattle.asm_text.specs.Lines.{items_of}
use Rattle.asm_text.specs.Statements.{cases}
use Rattle.asm_text.proofs.Behind.{with_front}
use Rattle.asm_text.proofs.reading.cases.Given as goal

abbrev pub invariant-loop-first : goal.invariant-loop-first
invariant-loop-first l = with_front l.cases (cases (items_of l.rest)) ≡ cases (items_of l.fn.rest)

abbrev pub decreases-loop-first : goal.decreases-loop-first
decreases-loop-first l = length (items_of l.rest)
