use Rattle.std.proofs.Common.{◌≡◌, ◌+◌, not, ◌==◌, drop}
use Rattle.std.specs.List.{prefix_len}
use Rattle.asm_text.proofs.lines.line_length.Given as goal

abbrev pub invariant-loop-place : goal.invariant-loop-place
invariant-loop-place l = l.place + prefix_len (λ b. not (b == 10)) (drop l.place l.text) ≡ prefix_len (λ b. not (b == 10)) l.text
