use Rattle.report_texts.specs.declared.words.Awaited.TheVariants.{Title}
use Rattle.report_texts.proofs.OneReport.{same_lines}
use Rattle.report_texts.proofs.laws.one_report.Goals as goal

pub returns : goal.returns
returns c = λ text one other a b. same_lines one Title text other a b
