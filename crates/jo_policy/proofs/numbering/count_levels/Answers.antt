use Rattle.std.proofs.Common.{arith}
use Rattle.std.proofs.lemmas.Grind.{common_steps}
use Rattle.jo_policy.proofs.PolicyParts.{count_from-step}
use Rattle.jo_policy.proofs.numbering.count_levels.Goals as goal

pub loop-level-preserved : goal.loop-level-preserved
loop-level-preserved c =
    let step = count_from-step c.loop-level.level c.args.count c.loop-level-test.true in
    grind (arith, common_steps)
