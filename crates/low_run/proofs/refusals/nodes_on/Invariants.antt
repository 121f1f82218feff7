use Rattle.std.proofs.Common.{◌≡◌, ◌++◌, drop}
use Rattle.low_run.specs.Sides.{is_on, places_from}
use Rattle.low_run.proofs.refusals.nodes_on.Given as goal

-- the numbers so far and those of the nodes that are left are those of all
abbrev pub invariant-loop-place : goal.invariant-loop-place
invariant-loop-place l =
    l.nodes.items ++ places_from (is_on l.side l.labels l.observer) l.place (drop l.place l.graph.nodes) ≡ places_from (is_on l.side l.labels l.observer) 0 l.graph.nodes
