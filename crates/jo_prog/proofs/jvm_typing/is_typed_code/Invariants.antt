use Rattle.std.proofs.Common.{◌-◌, ◌≤◌, length}
use Rattle.jo_prog.specs.Typing.{Arrives}
use Rattle.jo_prog.specs.IntShapes.{shape_of}
use Rattle.jo_prog.proofs.jvm_typing.is_typed_code.Given as goal

abbrev pub invariant-loop-operation : goal.invariant-loop-operation
invariant-loop-operation l = record {
  arrives : Arrives l.program l.method l.code l.pc (shape_of l.shape);
  low : l.shape.height ≤ l.code.max_stack;
}

abbrev pub decreases-loop-operation : goal.decreases-loop-operation
decreases-loop-operation l = length l.code.bytes - l.pc
