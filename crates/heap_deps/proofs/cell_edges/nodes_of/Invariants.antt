use Rattle.std.proofs.Common.{◌↔◌, ℕ, Contains, take}
use Rattle.heap_deps.proofs.cell_edges.nodes_of.Given as goal

abbrev pub invariant-loop-accessor : goal.invariant-loop-accessor
invariant-loop-accessor l = (n : ℕ) → Contains l.nodes n ↔ Contains (take l.accessor-index l.accessors) (record { node = n; write = l.write })
