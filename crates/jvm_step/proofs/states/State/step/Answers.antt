use Rattle.std.proofs.Common.{◌≡◌, subst, ℕ, List, slice_get, Ok}
use Rattle.jvm_frames.specs.declared.threads.Thread.{Thread}
use Rattle.jvm_step.specs.declared.moves.Moved.TheVariants.{Stuck}
use Rattle.jvm_step.specs.declared.states.Standing.{Standing}
use Rattle.jvm_step.specs.declared.states.Standing.TheVariants.{Ended, Thrown, Here}
use Rattle.jvm_step.specs.States.{state_of, threads_of}
use Rattle.jvm_step.specs.Standings.{StandsAs}
use Rattle.jvm_step.proofs.StepLemmas.{ended_stuck, method_here, thrown_has_frame, here_has_frame, thrown_steps, here_steps}
use Rattle.jvm_step.proofs.TypedLemmas.{goes_on_typed}
use Rattle.jvm_step.proofs.states.State.step.Goals as goal

-- in the list of the threads, as it was lent
in_state : (xs ys : List Thread) (t : ℕ) (standing : Standing) → xs ≡ ys → StandsAs (slice_get (threads_of xs) t) standing → StandsAs (slice_get (threads_of ys) t) standing
in_state xs ys t standing same stands = subst (λ (ts : List Thread). StandsAs (slice_get (threads_of ts) t) standing) same stands

pub returns-in-Ended-clause-steps : goal.returns-in-Ended-clause-steps
returns-in-Ended-clause-steps c =
    let setting = c.args.setting.now in
    ended_stuck setting.program.now setting.labels.now setting.inputs.now c.args.thread (state_of c.args.self.now) (in_state c.as_slice.result.now c.args.self.now.threads.items c.args.thread Ended c.as_slice.ensures.value c.in-Ended.ensures)

pub returns-in-Thrown-clause-ended : goal.returns-in-Thrown-clause-ended
returns-in-Thrown-clause-ended c = λ none.
    let setting = c.args.setting.now in
    thrown_has_frame setting.program.now setting.labels.now setting.inputs.now c.args.thread (state_of c.args.self.now) c.in-Thrown.exception (in_state c.as_slice.result.now c.args.self.now.threads.items c.args.thread (Thrown c.in-Thrown.exception) c.as_slice.ensures.value c.in-Thrown.ensures) none

pub returns-in-Thrown-clause-steps : goal.returns-in-Thrown-clause-steps
returns-in-Thrown-clause-steps c =
    let setting = c.args.setting.now in
    thrown_steps setting.program.now setting.labels.now setting.inputs.now c.args.thread (state_of c.args.self.now) (state_of c.unwind.new.self) c.unwind.result c.in-Thrown.exception (in_state c.as_slice.result.now c.args.self.now.threads.items c.args.thread (Thrown c.in-Thrown.exception) c.as_slice.ensures.value c.in-Thrown.ensures) c.unwind.ensures

pub returns-in-Here-clause-ended : goal.returns-in-Here-clause-ended
returns-in-Here-clause-ended c = λ none.
    let setting = c.args.setting.now in
    here_has_frame setting.program.now setting.labels.now setting.inputs.now c.args.thread (state_of c.args.self.now) c.in-Here.method c.in-Here.pc (in_state c.as_slice.result.now c.args.self.now.threads.items c.args.thread (Here c.in-Here.method c.in-Here.pc) c.as_slice.ensures.value c.in-Here.ensures) none

pub returns-in-Here-clause-steps : goal.returns-in-Here-clause-steps
returns-in-Here-clause-steps c =
    let setting = c.args.setting.now in
    here_steps setting.program.now setting.labels.now setting.inputs.now c.args.thread (state_of c.args.self.now) (state_of c.step_here.new.self) c.step_here.result c.in-Here.method c.in-Here.pc (in_state c.as_slice.result.now c.args.self.now.threads.items c.args.thread (Here c.in-Here.method c.in-Here.pc) c.as_slice.ensures.value c.in-Here.ensures) c.step_here.ensures

pub step_here-requires-clause-from : goal.step_here-requires-clause-from
step_here-requires-clause-from c =
    let setting = c.args.setting.now in
    method_here setting.program.now setting.labels.now setting.inputs.now c.args.thread (state_of c.args.self.now) c.in-Here.method c.in-Here.pc (in_state c.as_slice.result.now c.args.self.now.threads.items c.args.thread (Here c.in-Here.method c.in-Here.pc) c.as_slice.ensures.value c.in-Here.ensures)

pub returns-in-Ended-clause-typed : goal.returns-in-Ended-clause-typed
returns-in-Ended-clause-typed c = λ premises typed among.
    let setting = c.args.setting.now in
    goes_on_typed setting.program.now setting.labels.now setting.inputs.now c.args.thread (state_of c.args.self.now) (state_of c.args.self.now) (Ok Stuck) (returns-in-Ended-clause-steps c) premises typed among

pub returns-in-Thrown-clause-typed : goal.returns-in-Thrown-clause-typed
returns-in-Thrown-clause-typed c = λ premises typed among.
    let setting = c.args.setting.now in
    goes_on_typed setting.program.now setting.labels.now setting.inputs.now c.args.thread (state_of c.args.self.now) (state_of c.unwind.new.self) c.unwind.result (returns-in-Thrown-clause-steps c) premises typed among

pub returns-in-Here-clause-typed : goal.returns-in-Here-clause-typed
returns-in-Here-clause-typed c = λ premises typed among.
    let setting = c.args.setting.now in
    goes_on_typed setting.program.now setting.labels.now setting.inputs.now c.args.thread (state_of c.args.self.now) (state_of c.step_here.new.self) c.step_here.result (returns-in-Here-clause-steps c) premises typed among
