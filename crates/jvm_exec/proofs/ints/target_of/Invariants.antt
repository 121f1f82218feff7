use Rattle.std.proofs.Common.{◌≡◌, map, drop}
use Rattle.machine.specs.Execution.{switched}
use Rattle.jvm_values.specs.Resolved.{case_of}
use Rattle.jvm_exec.proofs.ints.target_of.Given as goal

abbrev pub invariant-loop-case : goal.invariant-loop-case
invariant-loop-case l = switched l.z (map case_of (drop l.case-index l.cases)) l.other ≡ switched l.z (map case_of l.cases) l.other
