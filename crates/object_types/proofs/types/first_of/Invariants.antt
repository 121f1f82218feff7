use Rattle.std.proofs.Common.{◌≡◌}
use Rattle.std.specs.Option.{option_copied}
use Rattle.dependence.specs.FlowGraph.{AnObject, type_of_object}
use Rattle.object_types.specs.Catching.{NoneCatches}
use Rattle.object_types.proofs.types.first_of.Given as goal

abbrev pub invariant-loop-k : goal.invariant-loop-k
invariant-loop-k l = (o : AnObject) → type_of_object l.program o ≡ option_copied l.own → NoneCatches l.program l.rows l.pc l.k o
