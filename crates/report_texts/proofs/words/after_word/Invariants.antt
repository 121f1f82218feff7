use Rattle.std.proofs.Common.{◌≡◌, length}
use Rattle.report_texts.specs.Reading.{word}
use Rattle.report_texts.proofs.words.after_word.Given as goal

abbrev pub invariant-loop-awaited : goal.invariant-loop-awaited
invariant-loop-awaited l = word l.awaited l.rest ≡ word l.word l.text

abbrev pub decreases-loop-awaited : goal.decreases-loop-awaited
decreases-loop-awaited l = length l.awaited
