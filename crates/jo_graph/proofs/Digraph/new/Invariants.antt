use Rattle.std.proofs.Common.{◌≡◌, ℕ, List, [], replicate}
use Rattle.jo_graph.proofs.Digraph.new.Given as goal

abbrev pub invariant-loop : goal.invariant-loop
invariant-loop l = l.successors.items ≡ replicate {A = List ℕ} l.counter []
