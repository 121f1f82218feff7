-- The unwinding of a frame.
use Rattle.std.proofs.Common.{◌≡◌, sym, ap, refl, ℕ, List, [], ◌∷◌, Option, Some, None, option_map}
use Rattle.std.proofs.lemmas.Option.{none-some, same_Some}
use Rattle.jo_prog.specs.declared.program.Row.{Row}
use Rattle.jo_prog.specs.Values.{ref}
use Rattle.jo_prog.specs.Machine.{Frame, State}
use Rattle.machine.specs.Steps.{with_frames, at_pc, silently, caught}

module _ (s : State) (t : ℕ) (f : Frame) (below : List Frame) (a : ℕ) where
  pub caught_is : (found : Option (ℕ × Row)) (handler : ℕ) → option_map (λ found. found.1.handler) found ≡ Some handler → caught s t f below a found ≡ silently (with_frames s t (at_pc f handler (ref a ∷ []) ∷ below) None)
  caught_is None handler is = absurd (none-some handler is)
  caught_is (Some found) handler is = ap (λ (pc : ℕ). silently (with_frames s t (at_pc f pc (ref a ∷ []) ∷ below) None)) (same_Some found.1.handler handler is)

  pub dropped_is : (found : Option (ℕ × Row)) → option_map (λ found. found.1.handler) found ≡ None → caught s t f below a found ≡ silently (with_frames s t below (Some a))
  dropped_is None is = refl
  dropped_is (Some found) is = absurd (none-some found.1.handler (sym is))
