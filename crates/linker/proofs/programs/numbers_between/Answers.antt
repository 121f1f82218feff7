use Rattle.std.proofs.Common.{◌∙◌, arith}
use Rattle.std.proofs.lemmas.Grind.{common_steps}
use Rattle.linker.proofs.CountLemmas.{none_yet, one_number}
use Rattle.linker.proofs.programs.numbers_between.Goals as goal

pub loop-number-init : goal.loop-number-init
loop-number-init g c = (omega arith, c.new-numbers.ensures ∙ none_yet c.args.first)

pub loop-number-preserved : goal.loop-number-preserved
loop-number-preserved g c =
    let e = one_number c.args.first c.loop-number.number c.loop-number.invariant.0 in
    (omega (arith, c.loop-number.invariant.0), grind (arith, common_steps))
