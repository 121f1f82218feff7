-- The pcs from which typing paths go on (this project's own).
use Rattle.std.specs.Prelude.{◌≡◌, ◌↔◌, ℕ, ◌≤◌, List, length, Contains, Option, Some, None, slice_index_or}
use Rattle.jo_prog.specs.declared.program.Program.{Program}
use Rattle.jo_prog.specs.TypingPaths.{Typable, effect_at}
use Rattle.jvm_typing.specs.declared.stops.Stop.{Stop}
use Rattle.typing_effects.specs.Effects.{effect_in}
use Rattle.typing_heights.specs.declared.moves.Move.{Move}
use Rattle.typing_heights.specs.Moves.{IsMove}
use Rattle.typing_heights.specs.Searches.{height_at}

-- it is that step, and leads to a pc at the height that this has
abbrev pub LeadsOn : List (Option ℕ) → Move → Move → Type 0
LeadsOn heights step m = (m ≡ step) × (height_at heights m.to ≡ Some m.height)

-- the same of a step of the code from that pc
pub record GoesFrom (program : Program) (t : Typable) (heights : List (Option ℕ)) (pc : ℕ) (m : Move) : Type 0 where
  pub is_move : IsMove program t heights m
  pub from_it : m.from ≡ pc
  pub to_height : height_at heights m.to ≡ Some m.height

pub record IsStop (program : Program) (t : Typable) (heights : List (Option ℕ)) (pc : ℕ) (stop : Stop) : Type 0 where
  pub at_height : height_at heights pc ≡ Some stop.height
  pub same_effect : effect_in stop.effect ≡ effect_at program t pc
  pub pops_there : length stop.effect.pops.items ≤ stop.height
  pub moves : (m : Move) → Contains stop.moves.items m ↔ GoesFrom program t heights pc m

abbrev pub IsStopAt : Program → Typable → List (Option ℕ) → ℕ → Option Stop → Type 0
IsStopAt program t heights pc None = (m : Move) → GoesFrom program t heights pc m → ⊥
IsStopAt program t heights pc (Some stop) = IsStop program t heights pc stop

abbrev pub AreStops : Program → Typable → List (Option ℕ) → List (Option Stop) → Type 0
AreStops program t heights stops = (pc : ℕ) → IsStopAt program t heights pc (slice_index_or stops pc None)
