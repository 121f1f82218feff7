use Rattle.std.proofs.Common.{◌≡◌, ◌++◌, drop}
use Rattle.flow_graph.specs.Steps.{row_steps}
use Rattle.flow_graph.proofs.steps.add_rows.Given as goal

abbrev pub invariant-loop-k : goal.invariant-loop-k
invariant-loop-k l = l.steps.items ++ row_steps l.pc l.k (drop l.k l.rows) ≡ l.initial.steps.items ++ row_steps l.pc 0 l.rows
