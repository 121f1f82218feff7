use Rattle.std.proofs.Common.{length, ◌≤◌, ◌-◌}
use Rattle.flow_graph.specs.Exploring.{Explores}
use Rattle.flow_graph.proofs.exploring.wide_nodes.Given as goal

abbrev pub invariant-loop-done : goal.invariant-loop-done
invariant-loop-done l = record {
  explores : Explores l.program l.method l.nodes l.done;
  few : length l.nodes ≤ 16384;
}

abbrev pub decreases-loop-done : goal.decreases-loop-done
decreases-loop-done l = 16384 - l.done
