use Rattle.std.proofs.Common.{◌≡◌, drop}
use Rattle.asm_text.specs.Words.{has_byte}
use Rattle.asm_text.proofs.words.has_byte.Given as goal

abbrev pub invariant-loop-b : goal.invariant-loop-b
invariant-loop-b l = has_byte l.byte (drop l.b-index l.text) ≡ has_byte l.byte l.text
