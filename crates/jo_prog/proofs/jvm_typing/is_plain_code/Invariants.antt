use Rattle.std.proofs.Common.{◌-◌, length}
use Rattle.std.specs.Prelude.{◌↔◌}
use Rattle.jo_prog.specs.PlainCode.{IsPlainFrom}
use Rattle.jo_prog.proofs.jvm_typing.is_plain_code.Given as goal

abbrev pub invariant-loop-operation : goal.invariant-loop-operation
invariant-loop-operation l = IsPlainFrom l.program l.labels l.labels.entry l.code 0 ↔ IsPlainFrom l.program l.labels l.labels.entry l.code l.pc

abbrev pub decreases-loop-operation : goal.decreases-loop-operation
decreases-loop-operation l = length l.code.bytes - l.pc
