use Rattle.std.proofs.Common.{Contains, None, List, subst}
use Rattle.jo_prog.specs.declared.typed.TypeFault.{TypeFault}
use Rattle.typing_heights.specs.Adds.{Adds}
use Rattle.typing_heights.specs.Moves.{FaultAt, FaultBehind}
use Rattle.typing_heights.specs.Subjects.{program_of, typable_of}
use Rattle.typing_heights.proofs.AddsLemmas.{over_none, over_more, over_all}
use Rattle.typing_heights.proofs.FaultLemmas.{faults_exact}
use Rattle.typing_heights.proofs.faults.height_faults.Goals as goal

pub loop-step-init : goal.loop-step-init
loop-step-init c =
    let s = c.args.subject.now in
    over_none c.args.moves.now (FaultBehind (program_of s) (typable_of s) c.args.heights.now) (Contains c.arrive.new.found.items)

pub loop-step-preserved : goal.loop-step-preserved
loop-step-preserved c =
    let s = c.args.subject.now in
    over_more c.args.moves.now (FaultBehind (program_of s) (typable_of s) c.args.heights.now) (Contains c.arrive.new.found.items) (Contains c.loop-step.found.items) (Contains c.arrive-in-loop-step.new.found.items)
    c.loop-step.step-index (record { from = 0; row = None; to = 0; height = 0 }) c.loop-step-test.true c.loop-step.invariant c.in_ok-arrive-2.ensures

pub returns : goal.returns
returns c =
    let s = c.args.subject.now in
    let p = program_of s in
    let t = typable_of s in
    let first = subst (λ (l : List TypeFault). Adds (Contains l) (Contains c.arrive.new.found.items) (FaultAt p t c.args.heights.now 0 0)) c.new-found.ensures.items c.in_ok-arrive.ensures in
    let rest = over_all c.args.moves.now (FaultBehind p t c.args.heights.now) (Contains c.arrive.new.found.items) (Contains c.loop-step.found.items) c.loop-step.step-index c.loop-step-test.false c.loop-step.invariant in
    faults_exact p t c.args.heights.now c.args.moves.now c.loop-step.found.items (Contains c.arrive.new.found.items) c.requires.moves first rest
