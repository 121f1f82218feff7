-- What an operation fetches from a frame of slots.
use Rattle.std.proofs.Common.{◌≡◌, ℕ, zero, suc, List, [], ◌∷◌, replicate, Option, Some, None, refl, ap, sym, ◌∙◌}
use Rattle.std.specs.Prelude.{option_map, slice_get, slice_set}
use Rattle.std.specs.Option.{option_flatten}
use Rattle.std.proofs.lemmas.Option.{none-some, same_Some}
use Rattle.std.proofs.lemmas.List.{map-set}
use Rattle.jo_prog.specs.declared.program.Program.{Program}
use Rattle.jo_prog.specs.declared.runner.Slot.{Slot}
use Rattle.jo_prog.specs.declared.runner.Slot.TheVariants.{Arguments}
use Rattle.jo_prog.specs.Values.{Value, ref}
use Rattle.jo_prog.specs.Constants.{arguments_address}
use Rattle.jo_prog.specs.Machine.{fetched_local}
use Rattle.jo_prog.specs.Running.{value_of, locals_of}

module _ (program : Program) where
  pub fetched_local-some : (locals : List (Option Slot)) (k : ℕ) (v : Slot) (stack : List (Value ℕ)) → Some v ≡ option_flatten (slice_get locals k) → fetched_local (slice_get (locals_of program locals) k) stack ≡ Some (value_of program v ∷ [], stack)
  fetched_local-some [] k v stack e = absurd (none-some v (sym e))
  fetched_local-some (None ∷ locals) zero v stack e = absurd (none-some v (sym e))
  fetched_local-some (Some w ∷ locals) zero v stack e = ap (λ (x : Slot). Some (value_of program x ∷ [], stack)) (sym (same_Some v w e))
  fetched_local-some (o ∷ locals) (suc k) v stack e = fetched_local-some locals k v stack e

  pub fetched_local-none : (locals : List (Option Slot)) (k : ℕ) (stack : List (Value ℕ)) → ((x : Slot) → option_flatten (slice_get locals k) ≡ Some x → ⊥) → fetched_local (slice_get (locals_of program locals) k) stack ≡ None
  fetched_local-none [] k stack e = refl
  fetched_local-none (None ∷ locals) zero stack e = refl
  fetched_local-none (Some w ∷ locals) zero stack e = absurd (e w refl)
  fetched_local-none (o ∷ locals) (suc k) stack e = fetched_local-none locals k stack e

  pub locals_of-unset : (n : ℕ) → locals_of program (replicate n None) ≡ replicate n None
  locals_of-unset zero = refl
  locals_of-unset (suc n) = ap (λ vs. None ∷ vs) (locals_of-unset n)

  pub locals_of-arguments : (n : ℕ) (locals : List (Option Slot)) → locals ≡ replicate n None
      → locals_of program (slice_set locals 0 (Some Arguments)) ≡ slice_set (replicate n None) 0 (Some (ref (arguments_address program)))
  locals_of-arguments n locals e =
      map-set (option_map (value_of program)) locals 0 (Some Arguments)
      ∙ ap (λ (vs : List (Option (Value ℕ))). slice_set vs 0 (Some (ref (arguments_address program)))) (ap (locals_of program) e ∙ locals_of-unset n)
