-- What comes of a call, as the program holds it (JVM Specification SE 8, 6.5, the four calls).
use Rattle.std.specs.Prelude.{ℕ, ℤ, Bool, true, false, if◌then◌else◌, List, Option, Some, None, option_map, slice_get}
use Rattle.jo_prog.specs.declared.program.Program.{Program}
use Rattle.jo_prog.specs.declared.labels.Labels.{Labels}
use Rattle.jo_prog.specs.declared.sites.Cause.TheVariants.{NullBase, MissingInterface}
use Rattle.jo_prog.specs.Values.{Value, Info}
use Rattle.jo_prog.specs.Machine.{HeapObject}
use Rattle.machine.specs.Heaps.{is_marked}
use Rattle.machine.specs.Invocation as machine
use Rattle.machine.specs.Invocation.{enters, begins, joins, asks, shows, releases, fails, Callee, callee, begun, by_taken}
pub use Rattle.jvm_values.specs.Types.{info_in}
use Rattle.jvm_calls.specs.declared.invocation.Invoked.{Invoked}
use Rattle.jvm_calls.specs.declared.invocation.Invoked.TheVariants.{Enters, Begins, Joins, Asks, Shows, Releases, Fails}
use Rattle.jvm_calls.specs.declared.invocation.Call.{Call}

-- with these values
abbrev pub invoked_of : List (Value ℕ) → Invoked → machine.Invoked ℕ
invoked_of values (Enters m) = enters m values
invoked_of values (Begins a m) = begins a m
invoked_of values (Joins a) = joins a
invoked_of values (Asks m) = asks m
invoked_of values (Shows m z) = shows m z
invoked_of values (Releases m z) = releases m z
invoked_of values (Fails cause) = fails cause

abbrev pub marked_in : List HeapObject → ℕ → Bool
marked_in heap a = is_marked (slice_get heap a)

abbrev pub callee_of : Program → Labels → Call → Callee
callee_of program labels call = callee program labels call.current call.op call.owner.now call.method

-- ---- by the shapes of the values

abbrev pub asked : ℕ → Bool → Option (machine.Invoked ℕ)
asked m true = Some (asks m)
asked m false = None

abbrev pub shown : ℕ → Option ℤ → Option (machine.Invoked ℕ)
shown m z = option_map (λ z. shows m z) z

abbrev pub released : ℕ → Option ℤ → Option (machine.Invoked ℕ)
released m z = option_map (λ z. releases m z) z

abbrev pub starting : Callee → (ℕ → Info) → (ℕ → Bool) → Option ℕ → Option (machine.Invoked ℕ)
starting callee info started None = None
starting callee info started (Some a) = begun a (started a) (callee.run (info a))

abbrev pub joining : Option ℕ → Option (machine.Invoked ℕ)
joining a = option_map (λ a. joins a) a

-- with a receiver, or null
abbrev pub received : Callee → (ℕ → Info) → (ℕ → Bool) → List (Value ℕ) → Option (Option ℕ) → Option (machine.Invoked ℕ)
received callee info started values None = None
received callee info started values (Some None) = Some (fails NullBase)
received callee info started values (Some (Some a)) =
    if callee.implements (info a) then by_taken callee info started (callee.taken (info a)) values else Some (fails MissingInterface)
