use Rattle.std.proofs.Common.{◌≡◌, drop}
use Rattle.std.specs.List.{position_from}
use Rattle.jo_prog.specs.Program.{is_class_named, class_named}
use Rattle.jo_prog.proofs.lookups.class_named.Given as goal

abbrev pub invariant-loop-place : goal.invariant-loop-place
invariant-loop-place l = position_from (is_class_named l.name) l.place (drop l.place l.program.classes) ≡ class_named l.program l.name
