-- What a call does with its values, as one pure function over any type of addresses (JVM Specification SE 8, 6.5, the four calls). A
-- source, a sink and a release are what the policy says, and starting and joining threads are those of java/lang/Thread (this project's own).
use Rattle.std.specs.Prelude.{ℕ, ◌+◌, Bool, true, false, ◌==◌, not, if◌then◌else◌, ℤ, List, [], ◌∷◌, Option, Some, None}
use Rattle.jo_prog.specs.declared.program.Program.{Program}
use Rattle.jo_prog.specs.declared.program.TypeRef.{TypeRef}
use Rattle.jo_prog.specs.declared.program.TypeRef.TheVariants.{Class as OfClass, Array as OfArray}
use Rattle.jo_prog.specs.declared.labels.Label.{Label}
use Rattle.jo_prog.specs.declared.labels.Label.TheVariants.{Source, Sink, Release}
use Rattle.jo_prog.specs.declared.labels.Labels.{Labels}
use Rattle.jo_prog.specs.declared.calls.Taken.{Taken}
use Rattle.jo_prog.specs.declared.calls.Taken.TheVariants.{Code, Start, Join, Native, Nothing}
use Rattle.jo_prog.specs.declared.sites.Cause.{Cause}
use Rattle.jo_prog.specs.declared.sites.Cause.TheVariants.{NullBase, SecondStart, MissingInterface}
use Rattle.jo_prog.specs.PreludeClasses.{object_number}
use Rattle.jo_prog.specs.Calls.{takes, run_of}
use Rattle.jo_prog.specs.Labels.{label_of}
use Rattle.jo_prog.specs.Types.{type_fits}
use Rattle.jo_prog.specs.Values.{Value, int, null, ref, Info, object, array}

-- ---- what a call names, looked up

pub record Callee : Type 0 where
  -- whether the first value is a receiver
  pub has_receiver : Bool
  -- whether an object implements what is named; each does but for invokeinterface
  pub implements : Info → Bool
  -- what is taken for a receiver
  pub taken : Info → Taken
  -- with what the thread of an object begins
  pub run : Info → Taken
  pub label : ℕ → Option Label

-- an array selects as java/lang/Object does
abbrev pub class_of : Info → ℕ
class_of (object c) = c
class_of (array type length) = object_number

-- the type of an object or array
abbrev pub type_of : Info → TypeRef
type_of (object c) = OfClass c
type_of (array type length) = OfArray (record { dims = type.dims + 1; base = type.base })

-- a call with this opcode in a class, of a method of a named type: 184 invokestatic, 185 invokeinterface
abbrev pub callee : Program → Labels → ℕ → ℕ → TypeRef → ℕ → Callee
callee program labels current op owner m = record {
  has_receiver = not (op == 184);
  implements = λ info. if op == 185 then type_fits program (type_of info) owner else true;
  taken = λ info. takes program op current m (class_of info);
  run = λ info. run_of program (class_of info);
  label = label_of labels;
}

-- ---- what comes of the call

pub data Invoked (A : Type 0) : Type 0 where
  -- a method with code, with its values in order, the receiver first
  enters : ℕ → List (Value A) → Invoked A
  -- the thread of an object begins in a method
  begins : A → ℕ → Invoked A
  -- waits for the thread of an object
  joins : A → Invoked A
  -- the next int of a source; an int at a sink, or that a release lets out
  asks : ℕ → Invoked A
  shows : ℕ → ℤ → Invoked A
  releases : ℕ → ℤ → Invoked A
  fails : Cause → Invoked A

abbrev pub natively : {A : Type 0} → ℕ → Option Label → List (Value A) → Option (Invoked A)
natively m (Some (Source level)) [] = Some (asks m)
natively m (Some (Sink level)) (int z ∷ []) = Some (shows m z)
natively m (Some (Release from to)) (int z ∷ []) = Some (releases m z)
natively m label values = None

abbrev pub begun : {A : Type 0} → A → Bool → Taken → Option (Invoked A)
begun a true run = Some (fails SecondStart)
begun a false (Code m) = Some (begins a m)
begun a false run = None

abbrev pub by_taken : {A : Type 0} → Callee → (A → Info) → (A → Bool) → Taken → List (Value A) → Option (Invoked A)
by_taken callee info started (Code m) values = Some (enters m values)
by_taken callee info started Start (ref a ∷ []) = begun a (started a) (callee.run (info a))
by_taken callee info started Join (ref a ∷ []) = Some (joins a)
by_taken callee info started (Native m) values = natively m (callee.label m) values
by_taken callee info started taken values = None

-- a null receiver first, then a missing interface
abbrev pub by_receiver : {A : Type 0} → Callee → (A → Info) → (A → Bool) → List (Value A) → Option (Invoked A)
by_receiver callee info started (null ∷ values) = Some (fails NullBase)
by_receiver callee info started (ref a ∷ values) =
    if callee.implements (info a) then by_taken callee info started (callee.taken (info a)) (ref a ∷ values)
    else Some (fails MissingInterface)
by_receiver callee info started values = None

-- What a call does with its values in order, where some thread objects were started. None where the values aren't those that it needs,
-- which typed code never comes to.
abbrev pub invoked : {A : Type 0} → Callee → (A → Info) → (A → Bool) → List (Value A) → Option (Invoked A)
invoked callee info started values =
    if callee.has_receiver then by_receiver callee info started values
    else by_taken callee info started (callee.taken (object object_number)) values
