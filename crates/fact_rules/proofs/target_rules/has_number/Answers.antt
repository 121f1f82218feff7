use Rattle.std.proofs.Common.{refl, arith}
use Rattle.method_views.proofs.NodeLemmas.{never}
use Rattle.fact_rules.proofs.TargetLemmas.{no_number_more, no_number_all, number_there}
use Rattle.fact_rules.proofs.target_rules.has_number.Goals as goal

pub returns-then-is_number : goal.returns-then-is_number
returns-then-is_number c =
    (λ _. number_there c.args.targets.now c.loop-target.target-index c.args.instance c.target-item.result c.loop-target-test.true c.target-item.is (c.is_number.ensures.0 c.if-is_number.true), λ _. refl)

pub loop-target-preserved : goal.loop-target-preserved
loop-target-preserved c =
    no_number_more c.args.targets.now c.loop-target.target-index c.args.instance c.target-item.result c.loop-target-test.true c.target-item.is
    (λ e. (let has = c.is_number.ensures.1 e in let lacks = c.if-is_number.false in absurd (cc))) c.loop-target.invariant

pub returns : goal.returns
returns c = never (no_number_all c.args.targets.now c.loop-target.target-index c.args.instance (omega (arith, c.loop-target-test.false)) c.loop-target.invariant)
