use Rattle.std.proofs.Common.{◌≡◌, ◌+◌, ◌≤◌, length}
use Rattle.dep_nodes.specs.Graphs.{IsWalk, walk_end}
use Rattle.plain_graph.specs.Slices.{mark_at, IsMarkedAt, distance_of}
use Rattle.plain_graph.proofs.slicer.follow.Given as goal

abbrev pub invariant-loop-step : goal.invariant-loop-step
invariant-loop-step l =
    IsWalk l.graph l.fn.from l.steps × (walk_end l.fn.from l.steps ≡ l.at) × IsMarkedAt l.marks l.at
    × (length l.steps + distance_of (mark_at l.marks l.at) ≤ distance_of (mark_at l.marks l.fn.from))

abbrev pub decreases-loop-step : goal.decreases-loop-step
decreases-loop-step l = distance_of (mark_at l.marks l.at)
