use Rattle.std.proofs.Common.{◌≡◌, ◌++◌, drop}
use Rattle.linker.specs.Linking.{classes_from}
use Rattle.linker.proofs.programs.classes_of.Given as goal

abbrev pub invariant-loop-file : goal.invariant-loop-file
invariant-loop-file l = l.classes ++ classes_from l.names l.field l.method (drop l.file-index l.files) ≡ classes_from l.names 0 0 l.files
