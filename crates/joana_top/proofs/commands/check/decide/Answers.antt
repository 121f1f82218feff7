use Rattle.std.proofs.Common.{◌∙◌, sym}
use Rattle.low_run.proofs.Verdicts.{true_not_false}
use Rattle.joana_top.proofs.Forms.{plain_of, short_code, decided}
use Rattle.joana_top.proofs.commands.check.decide.Goals as goal

pub returns-then-not-is_plain : goal.returns-then-not-is_plain
returns-then-not-is_plain c = λ form. true_not_false (sym (c.is_plain.ensures.1 form) ∙ c.if-not-is_plain.true)

pub verdict-requires-clause-plain : goal.verdict-requires-clause-plain
verdict-requires-clause-plain c =
    plain_of c.args.program.now c.args.labels.now c.requires.typed c.requires.well (c.is_plain.ensures.0 c.if-not-is_plain.false)

pub verdict-requires-clause-short : goal.verdict-requires-clause-short
verdict-requires-clause-short c =
    short_code c.args.program.now c.args.labels.now c.limits_are_short.ensures (c.is_plain.ensures.0 c.if-not-is_plain.false)

pub returns-in-Ok : goal.returns-in-Ok
returns-in-Ok c = decided c.args.program.now c.args.labels.now c.in-Ok.decision (c.is_plain.ensures.0 c.if-not-is_plain.false) c.in-Ok.ensures
