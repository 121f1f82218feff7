use Rattle.std.proofs.Common.{◌≡◌, map, drop}
use Rattle.joana_top.specs.Words.{kind_in}
use Rattle.joana_top.proofs.words.kind_in.Given as goal

-- the rows that are left decide
abbrev pub invariant-loop-row : goal.invariant-loop-row
invariant-loop-row l =
    kind_in (map (λ row. (row.0.now, row.1.now, row.2)) (drop l.row-index l.table)) l.word
    ≡ kind_in (map (λ row. (row.0.now, row.1.now, row.2)) l.table) l.word
