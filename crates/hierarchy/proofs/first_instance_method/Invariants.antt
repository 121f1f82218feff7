use Rattle.std.proofs.Common.{◌≡◌, drop}
use Rattle.jo_prog.specs.Hierarchy.{own_instance_method}
use Rattle.jo_prog.specs.Walks.{first_found}
use Rattle.hierarchy.proofs.first_instance_method.Given as goal

abbrev pub invariant-loop-class : goal.invariant-loop-class
invariant-loop-class l = first_found (own_instance_method l.program l.name l.desc) (drop l.class-index l.order) ≡ first_found (own_instance_method l.program l.name l.desc) l.order
