use Rattle.jo_insn.proofs.decoder.with_operands.Goals as goal

pub returns-in-LocalAndStep : goal.returns-in-LocalAndStep
returns-in-LocalAndStep c = rw c.in-LocalAndStep.is (c.local_and_step.ensures c.args.op)
