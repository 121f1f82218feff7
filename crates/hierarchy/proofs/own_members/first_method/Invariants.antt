use Rattle.std.proofs.Common.{◌≡◌, drop}
use Rattle.jo_prog.specs.Walks.{first_found}
use Rattle.hierarchy.specs.OwnMembers.{method_in}
use Rattle.hierarchy.proofs.own_members.first_method.Given as goal

abbrev pub invariant-loop-class : goal.invariant-loop-class
invariant-loop-class l = first_found (method_in l.tables l.signature) (drop l.class-index l.order) ≡ first_found (method_in l.tables l.signature) l.order
