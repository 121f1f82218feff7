use Rattle.std.proofs.Common.{take}
use Rattle.typing_heights.specs.FirstFaults.{IsFirstOf}
use Rattle.typing_heights.proofs.faults.first_of.Given as goal

abbrev pub invariant-loop-fault : goal.invariant-loop-fault
invariant-loop-fault l = IsFirstOf (take l.fault-index l.found) l.first
