use Rattle.std.proofs.Common.{◌≡◌, ◌+◌, ◌++◌, length}
use Rattle.asm_text.specs.Lines.{lines_of}
use Rattle.asm_text.specs.Numbered.{numbered}
use Rattle.asm_text.proofs.texts.read_lines.Given as goal

abbrev pub invariant-loop-line : goal.invariant-loop-line
invariant-loop-line l = record {
  lines : l.lines.items ++ numbered (l.count + 1) (lines_of l.rest) ≡ numbered 1 (lines_of l.fn.text);
  count : l.count + length (lines_of l.rest) ≡ length (lines_of l.fn.text);
}

abbrev pub decreases-loop-line : goal.decreases-loop-line
decreases-loop-line l = length (lines_of l.rest)
