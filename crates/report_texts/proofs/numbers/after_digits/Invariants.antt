use Rattle.std.proofs.Common.{◌≡◌, length}
use Rattle.report_texts.specs.Reading.{digits}
use Rattle.report_texts.proofs.numbers.after_digits.Given as goal

abbrev pub invariant-loop-rest : goal.invariant-loop-rest
invariant-loop-rest l = digits l.rest ≡ digits l.text

abbrev pub decreases-loop-rest : goal.decreases-loop-rest
decreases-loop-rest l = length l.rest
