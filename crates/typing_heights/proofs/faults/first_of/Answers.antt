use Rattle.std.proofs.Common.{List, subst, refl}
use Rattle.std.proofs.lemmas.List.{take_all}
use Rattle.jo_prog.specs.declared.typed.TypeFault.{TypeFault}
use Rattle.jo_prog.specs.declared.typed.TypeCode.TheVariants.{Underflow}
use Rattle.typing_heights.specs.FirstFaults.{IsFirstOf}
use Rattle.typing_heights.proofs.FaultLemmas.{first_more}
use Rattle.typing_heights.proofs.faults.first_of.Goals as goal

pub loop-fault-init : goal.loop-fault-init
loop-fault-init c = refl

pub loop-fault-preserved : goal.loop-fault-preserved
loop-fault-preserved c =
    first_more c.args.found.now c.loop-fault.fault-index (record { code = Underflow; pc = 0 }) c.loop-fault.first c.sooner-first.result c.loop-fault-test.true c.loop-fault.invariant c.sooner-first.ensures

pub returns : goal.returns
returns c = subst (λ (l : List TypeFault). IsFirstOf l c.loop-fault.first) (take_all c.loop-fault.fault-index c.args.found.now c.loop-fault-test.false) c.loop-fault.invariant
