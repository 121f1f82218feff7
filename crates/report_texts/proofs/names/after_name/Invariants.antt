use Rattle.std.proofs.Common.{◌≡◌, length}
use Rattle.report_texts.specs.Reading.{name_from}
use Rattle.report_texts.specs.declared.names.Escape.TheVariants.{Plain}
use Rattle.report_texts.proofs.names.after_name.Given as goal

abbrev pub invariant-loop-rest : goal.invariant-loop-rest
invariant-loop-rest l = name_from l.escape l.rest ≡ name_from Plain l.text

abbrev pub decreases-loop-rest : goal.decreases-loop-rest
decreases-loop-rest l = length l.rest
