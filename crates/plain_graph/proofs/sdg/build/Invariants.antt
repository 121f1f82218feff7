use Rattle.std.proofs.Common.{◌-◌, ◌^◌}
use Rattle.plain_graph.proofs.PlainWalk.{IsWalked}
use Rattle.plain_graph.proofs.sdg.build.Given as goal

abbrev pub invariant-loop-operation : goal.invariant-loop-operation
invariant-loop-operation l = IsWalked l.program l.labels l.pc l.height l.builder

abbrev pub decreases-loop-operation : goal.decreases-loop-operation
decreases-loop-operation l = 2 ^ 16 - l.pc
