use Rattle.std.proofs.Common.{Contains, Option, subst}
use Rattle.jo_prog.specs.declared.typed.TypeCode.{TypeCode}
use Rattle.typing_heights.specs.Adds.{Adds}
use Rattle.typing_heights.specs.Moves.{Tells}
use Rattle.typing_heights.proofs.faults.arrive.Goals as goal

pub returns : goal.returns
returns c =
    subst (λ (o : Option TypeCode). Adds (Contains c.args.found.now.items) (Contains c.add_fault.new.found.items) (Tells c.args.pc o)) c.fault_at-code.ensures c.in_ok-add_fault.ensures
