use Rattle.std.proofs.Common.{◌≡◌, drop}
use Rattle.jo_prog.specs.Hierarchy.{first_field}
use Rattle.jo_prog.proofs.members.first_field.Given as goal

abbrev pub invariant-loop-f : goal.invariant-loop-f
invariant-loop-f l = first_field l.program l.name l.desc (drop l.f-index l.fields) ≡ first_field l.program l.name l.desc l.fields
