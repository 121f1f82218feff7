use Rattle.joana_base.proofs.FileClasses.{ReadsOn}
use Rattle.joana_base.proofs.classes.classes_in_order.Given as goal

abbrev pub invariant-loop-number : goal.invariant-loop-number
invariant-loop-number l = ReadsOn l.files l.classes.items l.number
