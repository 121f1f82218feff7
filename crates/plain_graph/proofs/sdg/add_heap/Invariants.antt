use Rattle.std.proofs.Common.{◌≡◌, ◌++◌, take}
use Rattle.plain_graph.specs.Building.{heap_edges}
use Rattle.plain_graph.proofs.sdg.add_heap.Given as goal

abbrev pub invariant-loop-before : goal.invariant-loop-before
invariant-loop-before l = l.edges ≡ l.initial.edges ++ heap_edges (take l.before-index l.results) l.fn.source l.fn.node
