use Rattle.std.proofs.Common.{◌≡◌, ◌++◌, drop}
use Rattle.std.specs.List.{flat_map}
use Rattle.joana_top.specs.Help.{command_line}
use Rattle.joana_top.proofs.words.push_lines.Given as goal

-- the lines of the rows that are left are still to come
abbrev pub invariant-loop-row : goal.invariant-loop-row
invariant-loop-row l =
    l.out.items ++ flat_map (λ row. command_line row.0.now row.1.now) (drop l.row-index l.table)
    ≡ l.fn.out.items ++ flat_map (λ row. command_line row.0.now row.1.now) l.table
