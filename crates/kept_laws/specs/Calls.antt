-- What comes of a call in a typed state (JVM Specification SE 8, 2.6 and 6.5, the four calls; the form is this project's own).
use Rattle.std.specs.Prelude.{◌≡◌, ℕ, false, ℤ, List, [], ◌∷◌, ◌++◌, map, Option, Some, None, FitsSigned}
use Rattle.std.specs.Int.{w32}
use Rattle.jo_text.specs.declared.descriptors.Base.TheVariants.{Int as IntBase}
use Rattle.jo_text.specs.declared.descriptors.FieldDesc.{FieldDesc}
use Rattle.jo_prog.specs.declared.program.Program.{Program}
use Rattle.jo_prog.specs.declared.program.Code.{Code}
use Rattle.jo_prog.specs.declared.program.Method.{Method}
use Rattle.jo_prog.specs.declared.program.TypeRef.TheVariants.{Class as OfClass}
use Rattle.jo_prog.specs.declared.sites.Cause.{Cause}
use Rattle.jo_prog.specs.InsnTyping.{receiver_kinds, param_kinds}
use Rattle.jo_prog.specs.MethodTypes.{method_desc_in}
use Rattle.jo_prog.specs.PreludeClasses.{thread_number}
use Rattle.jo_prog.specs.Program.{method_at}
use Rattle.jo_prog.specs.Values.{Value, ref}
use Rattle.jo_prog.specs.Machine.{HeapObject, State}
use Rattle.machine.specs.Instructions.{method_desc, result_of}
use Rattle.machine.specs.Invocation.{Invoked, enters, begins, joins, asks, shows, releases, fails}
use Rattle.machine.specs.Heaps.{was_started}
use Rattle.step_laws.specs.TypedStates.{PlaceHasKind, Pairwise, StandsAt}

-- a method with code takes the values: they are its receiver, where it has one, and its parameters
pub record TakesValues (program : Program) (heap : List HeapObject) (m : ℕ) (values : List (Value ℕ)) : Type 0 where
  pub method : Method
  pub code : Code
  pub is_method : method_at program m ≡ Some method
  pub has_code : method.code ≡ Some code
  pub kinds : Pairwise (PlaceHasKind program heap) (receiver_kinds method ++ param_kinds program (method_desc_in method.desc)) (map (λ v. Some v) values)

abbrev pub int_type : FieldDesc
int_type = record { dims = 0; base = IntBase }

-- What comes of a call whose descriptor says this type of a result: a method with code begins with its values and has a result of that
-- type, a thread begins that wasn't started, a native asks, shows or releases an int, or the machine raises.
pub data IsInvoked (program : Program) (s : State) (type : Option FieldDesc) : Invoked ℕ → Type 0 where
  by_enter : (m : ℕ) (values : List (Value ℕ)) → TakesValues program s.heap m values → result_of (method_desc (method_at program m)) ≡ type → IsInvoked program s type (enters m values)
  by_begin : (a m : ℕ) → StandsAt program s.heap a (OfClass thread_number) → was_started s a ≡ false → TakesValues program s.heap m (ref a ∷ []) → type ≡ None
      → IsInvoked program s type (begins a m)
  by_join : (a : ℕ) → type ≡ None → IsInvoked program s type (joins a)
  by_ask : (source : ℕ) → type ≡ Some int_type → IsInvoked program s type (asks source)
  by_show : (sink : ℕ) (z : ℤ) → type ≡ None → IsInvoked program s type (shows sink z)
  by_release : (m : ℕ) (z : ℤ) → FitsSigned w32 z → type ≡ Some int_type → IsInvoked program s type (releases m z)
  by_fail : (cause : Cause) → IsInvoked program s type (fails cause)

-- the call comes to something, as typing says
pub record ComesTo (program : Program) (s : State) (type : Option FieldDesc) (invoked : Option (Invoked ℕ)) : Type 0 where
  pub outcome : Invoked ℕ
  pub is_outcome : invoked ≡ Some outcome
  pub follows : IsInvoked program s type outcome
