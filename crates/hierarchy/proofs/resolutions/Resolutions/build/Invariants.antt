use Rattle.std.proofs.Common.{◌≡◌, map, take}
use Rattle.hierarchy.specs.Resolutions.{resolved_of_class}
use Rattle.hierarchy.proofs.resolutions.Resolutions.build.Given as goal

abbrev pub invariant-loop-class : goal.invariant-loop-class
invariant-loop-class l = l.members.items ≡ map (resolved_of_class l.program) (take l.class-index l.program.classes)
