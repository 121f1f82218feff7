use Rattle.std.proofs.Common.{◌≡◌, ◌≤◌, ◌^◌, min, drop}
use Rattle.asm_text.specs.Words.{magnitude_from, magnitude}
use Rattle.asm_text.proofs.words.magnitude.Given as goal

abbrev pub invariant-loop-digit : goal.invariant-loop-digit
invariant-loop-digit l = (l.high ≤ 2 ^ 32) × (min (magnitude_from l.high (drop l.digit-index l.digits)) (2 ^ 32) ≡ min (magnitude l.digits) (2 ^ 32))
