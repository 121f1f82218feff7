use Rattle.std.proofs.Common.{◌≡◌, map, drop}
use Rattle.report_texts.specs.Reading.{among}
use Rattle.report_texts.proofs.words.after_one_of.Given as goal

abbrev pub invariant-loop-row : goal.invariant-loop-row
invariant-loop-row g l = among l.stop (map (λ row. (row.word.now, row.given)) (drop l.row-index l.rows)) l.text ≡ among l.text (map (λ row. (row.word.now, row.given)) l.rows) l.text
