use Rattle.std.proofs.Common.{rules, ◌≡◌, sym, subst, ℕ, ◌∷◌, drop, List, Some, None, Result}
use Rattle.std.specs.Int.{w32}
use Rattle.std.specs.Int.RustNames.{FitsSigned}
use Rattle.std.proofs.lemmas.Int.{to_z-of_z}
use Rattle.std.specs.declared.alloc.AllocError.{AllocError}
use Rattle.jo_prog.specs.declared.program.Program.{Program}
use Rattle.jo_prog.specs.declared.runs.SourceInput.{SourceInput}
use Rattle.jo_prog.specs.declared.runs.Event.TheVariants.{Out}
use Rattle.jo_prog.specs.Machine.{Frame, State}
use Rattle.machine.specs.Steps.{at_pc, invoked_step}
use Rattle.jvm_calls.specs.declared.invocation.Invoked.{Invoked}
use Rattle.jvm_calls.specs.Invokes.{invoked_of}
use Rattle.jvm_step.specs.declared.moves.Moved.{Moved}
use Rattle.jvm_step.specs.States.{state_of, threads_of}
use Rattle.jvm_step.specs.Moves.{Steps}
use Rattle.jvm_step.specs.Fetches.{values_of}
use Rattle.jvm_step.proofs.CallLemmas.{framed_step}
use Rattle.jvm_step.proofs.states.State.apply_call.Goals as goal

-- what is invoked is this
comes : (program : Program) (inputs : List SourceInput) (s new : State) (t next count : ℕ) (f : Frame) (below : List Frame) (result : Result Moved AllocError) (invoked is : Invoked) → invoked ≡ is
    → Steps s new (invoked_step program inputs s t f below next (drop count f.stack) (Some (invoked_of (values_of count f) is))) result
    → Steps s new (invoked_step program inputs s t f below next (drop count f.stack) (Some (invoked_of (values_of count f) invoked))) result
comes program inputs s new t next count f below result invoked is same steps =
    subst (λ (i : Invoked). Steps s new (invoked_step program inputs s t f below next (drop count f.stack) (Some (invoked_of (values_of count f) i))) result) (sym same) steps

pub returns-in-Enters : goal.returns-in-Enters
returns-in-Enters c = λ f below top.
    comes c.args.setting.now.program.now c.args.setting.now.inputs.now (state_of c.args.self.now) (state_of c.enter.new.self) c.args.place c.args.next c.args.count f below c.enter.result c.args.invoked.now _ c.in-Enters.is (c.enter.ensures f below top)

pub returns-in-Begins : goal.returns-in-Begins
returns-in-Begins c = λ f below top.
    comes c.args.setting.now.program.now c.args.setting.now.inputs.now (state_of c.args.self.now) (state_of c.begin.new.self) c.args.place c.args.next c.args.count f below c.begin.result c.args.invoked.now _ c.in-Begins.is (c.begin.ensures f below top)

pub returns-in-Asks : goal.returns-in-Asks
returns-in-Asks c = λ f below top.
    comes c.args.setting.now.program.now c.args.setting.now.inputs.now (state_of c.args.self.now) (state_of c.ask.new.self) c.args.place c.args.next c.args.count f below c.ask.result c.args.invoked.now _ c.in-Asks.is (c.ask.ensures f below top)

pub returns-in-Releases : goal.returns-in-Releases
returns-in-Releases c = λ f below top.
    let fits : FitsSigned w32 c.in-Releases.value = search rules in
    let goes = rw (to_z-of_z w32 c.in-Releases.value fits) at (c.go_on.ensures f below top) in
    comes c.args.setting.now.program.now c.args.setting.now.inputs.now (state_of c.args.self.now) (state_of c.go_on.new.self) c.args.place c.args.next c.args.count f below c.go_on.result c.args.invoked.now _ c.in-Releases.is goes

pub returns-in-Fails : goal.returns-in-Fails
returns-in-Fails c = λ f below top.
    comes c.args.setting.now.program.now c.args.setting.now.inputs.now (state_of c.args.self.now) (state_of c.raise.new.self) c.args.place c.args.next c.args.count f below c.raise.result c.args.invoked.now _ c.in-Fails.is (c.raise.ensures f below top)

pub returns-in-Joins : goal.returns-in-Joins
returns-in-Joins c = λ f below top.
    let s = state_of c.args.self.now in
    let goes = framed_step s c.args.place (at_pc f c.args.next (drop c.args.count f.stack) ∷ below) None None (threads_of c.jump_at.new.threads.items) (c.jump_at.ensures f below top) in
    rw c.in-Joins.is goes

pub returns-in-Shows : goal.returns-in-Shows
returns-in-Shows c = λ f below top.
    let s = state_of c.args.self.now in
    let goes = framed_step s c.args.place (at_pc f c.args.next (drop c.args.count f.stack) ∷ below) None (Some (Out c.in-Shows.sink c.in-Shows.value)) (threads_of c.jump_at-in-Shows.new.threads.items) (c.jump_at-in-Shows.ensures f below top) in
    let fits : FitsSigned w32 c.in-Shows.value = search rules in
    rw c.in-Shows.is (rw (to_z-of_z w32 c.in-Shows.value fits) goes)
