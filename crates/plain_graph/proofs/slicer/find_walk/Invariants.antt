use Rattle.std.proofs.Common.{◌≡◌, ◌<◌, ℕ, slice_get, Some}
use Rattle.dep_nodes.specs.Graphs.{WalksTo}
use Rattle.plain_graph.proofs.slicer.find_walk.Given as goal

abbrev pub invariant-loop-node : goal.invariant-loop-node
invariant-loop-node l = (j m : ℕ) → j < l.node-index → slice_get l.from j ≡ Some m → WalksTo l.graph l.criteria m → ⊥
