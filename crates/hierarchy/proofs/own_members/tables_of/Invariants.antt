use Rattle.std.proofs.Common.{take}
use Rattle.hierarchy.specs.OwnMembers.{AreTables}
use Rattle.hierarchy.proofs.own_members.tables_of.Given as goal

abbrev pub invariant-loop-class : goal.invariant-loop-class
invariant-loop-class l = AreTables l.program (take l.class-index l.classes) l.tables.items
