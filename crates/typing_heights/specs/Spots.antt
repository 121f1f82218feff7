-- What stands at a pc, as the code has it (this project's own).
use Rattle.std.specs.Prelude.{◌≡◌, ℕ, true, false, not, ◌||◌, ◌&&◌, ◌==◌, nat_lt, Bool, ℤ, pos, List, map, Option, Some, None, is_some}
use Rattle.std.specs.List.{list_any}
use Rattle.jo_prog.specs.declared.program.Program.{Program}
use Rattle.jo_prog.specs.declared.program.Code.{Code}
use Rattle.jo_prog.specs.InsnTyping.{insn_at, is_inside}
use Rattle.jo_prog.specs.TypingPaths.{Typable, effect_at, successors_at, leads_outside, handler_outside, is_covered, height_after, ends_at}
use Rattle.typing_heights.specs.declared.spots.Spot.{Spot}
use Rattle.typing_heights.specs.declared.spots.Onward.{Onward}
use Rattle.typing_heights.specs.declared.sizes.Size.{Size}
use Rattle.typing_heights.specs.Sizes.{size_of, grown}

-- these pcs are the targets, all of them in the code; or one is outside
abbrev pub AreInside : Code → List ℤ → Option (List ℕ) → Type 0
AreInside code targets None = leads_outside code targets ≡ true
AreInside code targets (Some pcs) = (leads_outside code targets ≡ false) × (map pos pcs ≡ targets)

abbrev pub IsInside : Code → ℤ → Option ℕ → Type 0
IsInside code target None = is_inside code target ≡ false
IsInside code target (Some pc) = (is_inside code target ≡ true) × (pos pc ≡ target)

-- no instruction stands there, or it may go on outside of the code without an exception
abbrev pub plain_outside : Code → ℕ → Bool
plain_outside code pc = not (is_some (insn_at code pc)) || leads_outside code (successors_at code pc)

abbrev pub IsPlain : Code → ℕ → Option (List ℕ) → Type 0
IsPlain code pc None = plain_outside code pc ≡ true
IsPlain code pc (Some pcs) = (plain_outside code pc ≡ false) × (map pos pcs ≡ successors_at code pc)

pub record IsSpot (program : Program) (t : Typable) (pc : ℕ) (spot : Spot) : Type 0 where
  pub same_size : spot.size ≡ size_of (effect_at program t pc)
  pub is_plain : IsPlain t.code pc spot.plain

abbrev pub handlers_outside : Code → ℕ → Bool
handlers_outside code pc = list_any (handler_outside code pc) code.rows

abbrev pub grows_over : Code → Size → ℕ → ℕ → Bool
grows_over code size pc height = nat_lt code.max_stack (grown size height) || (is_covered code pc && code.max_stack == 0)

pub record GoesOnward (program : Program) (t : Typable) (pc height : ℕ) (onward : Onward) : Type 0 where
  pub live : ends_at program t pc height ≡ false
  pub plain : map pos onward.plain ≡ successors_at t.code pc
  pub same_height : onward.height ≡ height_after (effect_at program t pc) height

-- where the code goes on from a pc at this height, if it does
abbrev pub IsOnward : Program → Typable → ℕ → ℕ → Option Onward → Type 0
IsOnward program t pc height None = ends_at program t pc height ≡ true
IsOnward program t pc height (Some onward) = GoesOnward program t pc height onward
