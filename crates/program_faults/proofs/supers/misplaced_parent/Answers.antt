use Rattle.std.proofs.Common.{◌≡◌, ◌∙◌, length, true, sym, subst, ap, arith, below_more}
use Rattle.std.proofs.lemmas.Bool.{false≢true}
use Rattle.jo_prog.specs.Program.{class_at}
use Rattle.program_faults.specs.FirstFaults.{IsFirst}
use Rattle.program_faults.specs.SuperFaults.{misplaces_parent, HasMisplacedParent}
use Rattle.program_faults.proofs.FirstLemmas.{is_first, none_at_all}
use Rattle.program_faults.proofs.SuperLemmas.{is_misplaced, is_tested, is_inside}
use Rattle.program_faults.proofs.supers.misplaced_parent.Goals as goal

pub returns-then-misplaces_parent : goal.returns-then-misplaces_parent
returns-then-misplaces_parent c =
    let here : misplaces_parent c.args.program.now (class_at c.args.program.now c.of-class.result) ≡ true = sym c.misplaces_parent.ensures ∙ c.if-misplaces_parent.true in
    subst (IsFirst (HasMisplacedParent c.args.program.now)) (sym c.of-class.ensures)
    (is_first (HasMisplacedParent c.args.program.now) c.loop-number.number
    (subst (HasMisplacedParent c.args.program.now) c.of-class.ensures (is_misplaced c.args.program.now c.of-class.result here)) c.loop-number.invariant)

pub loop-number-preserved : goal.loop-number-preserved
loop-number-preserved c =
    below_more _ _ c.loop-number.invariant
    (λ holds. false≢true (sym c.if-misplaces_parent.false ∙ c.misplaces_parent.ensures
    ∙ is_tested c.args.program.now c.of-class.result (subst (HasMisplacedParent c.args.program.now) (sym c.of-class.ensures) holds)))

pub returns : goal.returns
returns c =
    let same : length c.as_slice.result.now ≡ length c.args.program.now.classes = ap length c.as_slice.ensures in
    none_at_all (HasMisplacedParent c.args.program.now) (length c.args.program.now.classes) c.loop-number.number (omega (arith, same))
    (is_inside c.args.program.now) c.loop-number.invariant
