use Rattle.std.proofs.Common.{◌≡◌, ◌∙◌, length, true, sym, subst, ap, arith, below_more}
use Rattle.std.proofs.lemmas.Bool.{false≢true}
use Rattle.program_faults.specs.FirstFaults.{IsFirst}
use Rattle.program_faults.specs.MemberFaults.{lacks_member, LacksMember}
use Rattle.program_faults.proofs.FirstLemmas.{is_first, none_at_all}
use Rattle.program_faults.proofs.MemberLemmas.{lacks, is_lacking, is_inside}
use Rattle.program_faults.proofs.member_faults.missing_member.Goals as goal

pub returns-then-lacks : goal.returns-then-lacks
returns-then-lacks c =
    let here : lacks_member c.args.program.now c.of-class.result ≡ true = sym c.in_ok-lacks.ensures ∙ c.if-lacks.true in
    subst (IsFirst (LacksMember c.args.program.now)) (sym c.of-class.ensures)
    (is_first (LacksMember c.args.program.now) c.loop-number.number
    (subst (LacksMember c.args.program.now) c.of-class.ensures (lacks c.args.program.now c.of-class.result here)) c.loop-number.invariant)

pub loop-number-preserved : goal.loop-number-preserved
loop-number-preserved c =
    below_more _ _ c.loop-number.invariant
    (λ holds. false≢true (sym c.if-lacks.false ∙ c.in_ok-lacks.ensures
    ∙ is_lacking c.args.program.now c.of-class.result (subst (LacksMember c.args.program.now) (sym c.of-class.ensures) holds)))

pub returns : goal.returns
returns c =
    let same : length c.as_slice.result.now ≡ length c.args.program.now.classes = ap length c.as_slice.ensures in
    none_at_all (LacksMember c.args.program.now) (length c.args.program.now.classes) c.loop-number.number (omega (arith, same))
    (is_inside c.args.program.now) c.loop-number.invariant
