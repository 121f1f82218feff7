use Rattle.std.proofs.Common.{rules, ◌≡◌, ◌∙◌, ap, Some}
use Rattle.jo_prog.specs.Program.{operand_at}
use Rattle.resolved_insns.proofs.OperandLemmas.{text_has_address}
use Rattle.resolved_insns.proofs.operands.pooled.Goals as goal

pub of_operand-requires-clause-texts : goal.of_operand-requires-clause-texts
of_operand-requires-clause-texts c = λ text is.
    let found : operand_at c.args.program.now c.args.method c.args.index ≡ Some c.in-Some.operand.now = search rules in
    text_has_address c.args.program.now c.args.method c.args.index text c.strings_have_objects.ensures.each (found ∙ ap Some is)
