use Rattle.std.specs.List.{AllZip}
use Rattle.std.proofs.Common.{take, length, ◌-◌}
use Rattle.flow_graph.specs.Rows.{IsRowOf}
use Rattle.flow_graph.proofs.wide.rows_of.Given as goal

abbrev pub invariant-loop-done : goal.invariant-loop-done
invariant-loop-done l = AllZip (IsRowOf l.program l.method l.typed l.nodes) (take l.done l.nodes) l.rows.items

abbrev pub decreases-loop-done : goal.decreases-loop-done
decreases-loop-done l = length l.nodes - l.done
