use Rattle.std.proofs.Common.{◌≡◌, replicate}
use Rattle.jo_prog.specs.declared.program.Operand.TheVariants.{Unused}
use Rattle.plain_graph.proofs.tests.unused.Given as goal

abbrev pub invariant-loop : goal.invariant-loop
invariant-loop l = l.operands ≡ replicate l.counter Unused
