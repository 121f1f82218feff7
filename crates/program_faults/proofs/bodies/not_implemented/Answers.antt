use Rattle.std.proofs.Common.{◌≡◌, ◌∙◌, length, sym, subst, ap, arith, below_more}
use Rattle.std.proofs.lemmas.Bool.{false≢true}
use Rattle.program_faults.specs.FirstFaults.{IsFirst}
use Rattle.program_faults.specs.BodyFaults.{IsNotImplemented}
use Rattle.program_faults.proofs.FirstLemmas.{is_first, none_at_all}
use Rattle.program_faults.proofs.BodyLemmas.{is_inside}
use Rattle.program_faults.proofs.bodies.not_implemented.Goals as goal

pub returns-then-lacks : goal.returns-then-lacks
returns-then-lacks c =
    subst (IsFirst (IsNotImplemented c.args.program.now)) (sym c.of-class.ensures)
    (is_first (IsNotImplemented c.args.program.now) c.loop-number.number
    (subst (IsNotImplemented c.args.program.now) c.of-class.ensures (c.in_ok-lacks.ensures.0 c.if-lacks.true)) c.loop-number.invariant)

pub loop-number-preserved : goal.loop-number-preserved
loop-number-preserved c =
    below_more _ _ c.loop-number.invariant
    (λ holds. false≢true (sym c.if-lacks.false
    ∙ c.in_ok-lacks.ensures.1 (subst (IsNotImplemented c.args.program.now) (sym c.of-class.ensures) holds)))

pub returns : goal.returns
returns c =
    let same : length c.as_slice.result.now ≡ length c.args.program.now.classes = ap length c.as_slice.ensures in
    none_at_all (IsNotImplemented c.args.program.now) (length c.args.program.now.classes) c.loop-number.number (omega (arith, same))
    (is_inside c.args.program.now) c.loop-number.invariant
