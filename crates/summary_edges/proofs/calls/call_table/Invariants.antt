use Rattle.summary_edges.specs.Calls.{IsTableBelow}
use Rattle.summary_edges.proofs.calls.call_table.Given as goal

abbrev pub invariant-loop-n : goal.invariant-loop-n
invariant-loop-n l = IsTableBelow l.graph l.n l.rows
