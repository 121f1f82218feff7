use Rattle.std.proofs.Common.{◌≡◌, drop}
use Rattle.std.specs.List.{list_any}
use Rattle.jo_prog.specs.TypingPaths.{catches_wrong}
use Rattle.jvm_typing.proofs.kind_faults.any_catches_wrong.Given as goal

abbrev pub invariant-loop-row : goal.invariant-loop-row
invariant-loop-row l = list_any (catches_wrong l.program l.pc) (drop l.row-index l.rows) ≡ list_any (catches_wrong l.program l.pc) l.rows
