use Rattle.std.proofs.Common.{◌≡◌, drop}
use Rattle.jo_prog.specs.Hierarchy.{own_field}
use Rattle.jo_prog.specs.Walks.{first_found}
use Rattle.hierarchy.proofs.first_field.Given as goal

abbrev pub invariant-loop-class : goal.invariant-loop-class
invariant-loop-class l = first_found (own_field l.program l.name l.desc) (drop l.class-index l.order) ≡ first_found (own_field l.program l.name l.desc) l.order
