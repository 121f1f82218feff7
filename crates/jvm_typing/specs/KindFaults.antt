-- Where a place has not what it is asked for, and what typing a method answers (this project's own).
use Rattle.std.specs.Prelude.{◌≡◌, ◌↔◌, ◌⊎◌, ℕ, ◌-◌, Bool, true, false, not, ◌||◌, ◌&&◌, ◌==◌, nat_lt, if◌then◌else◌, List, length, Option, Some, None, is_some, Result, Ok, Err, slice_get}
use Rattle.std.specs.List.{list_any}
use Rattle.jo_prog.specs.declared.program.Program.{Program}
use Rattle.jo_prog.specs.declared.typed.TypeCode.TheVariants.{WrongKind}
use Rattle.jo_prog.specs.declared.typed.TypeFault.{TypeFault}
use Rattle.jo_prog.specs.Typing.{Kind}
use Rattle.jo_prog.specs.Shapes.{Need, passes, Effect}
use Rattle.jo_prog.specs.TypingPaths.{Typable, effect_at, catches_wrong, IsTypedMethod, IsLeastFault, HasHeightAt}
use Rattle.jvm_typing.specs.declared.facts.Fact.{Fact}
use Rattle.jvm_typing.specs.declared.kind_faults.Asked.{Asked}
use Rattle.typing_effects.specs.Effects.{effect_in}
use Rattle.typing_heights.specs.FirstPaths.{HasFirstPaths}
use Rattle.typing_heights.specs.Adds.{From, FromBelow}
use Rattle.jvm_typing.specs.KindPasses.{Item, item_in}
use Rattle.typing_heights.specs.Searches.{height_at}

-- a local is read that has not what it is asked for
abbrev pub read_fails : Program → Option (ℕ × Need) → ℕ → Kind → Bool
read_fails program None place kind = false
read_fails program (Some (k, need)) place kind = k == place && not (passes program need kind)

abbrev pub pop_fails : Program → Option Need → Kind → Bool
pop_fails program None kind = false
pop_fails program (Some need) kind = not (passes program need kind)

-- a place that has that kind hasn't what the instruction asks it for
abbrev pub place_fails : Program → ℕ → Effect → ℕ → Kind → Bool
place_fails program locals effect place kind =
    if nat_lt place locals then read_fails program effect.reads place kind else pop_fails program (slice_get effect.pops (place - locals)) kind

-- the instruction is wrong whatever the places hold, or a row over it catches what is no Throwable
abbrev pub is_wrong : Program → Typable → ℕ → Bool
is_wrong program t pc = (effect_at program t pc).wrong || list_any (catches_wrong program pc) t.code.rows

abbrev pub kind_fault : ℕ → TypeFault
kind_fault pc = record { code = WrongKind; pc = pc }

abbrev pub FailsAt : Program → Typable → Item → TypeFault → Type 0
FailsAt program t x fault = (place_fails program t.code.max_locals (effect_at program t x.pc) x.place x.kind ≡ true) × (fault ≡ kind_fault x.pc)

abbrev pub FailsBy : Program → Typable → Fact → TypeFault → Type 0
FailsBy program t fact fault = FailsAt program t (item_in fact) fault

-- it is what the instruction at that pc does
pub record IsAskedAt (program : Program) (t : Typable) (pc : ℕ) (asked : Asked) : Type 0 where
  pub at_pc : asked.pc ≡ pc
  pub same_effect : effect_in asked.effect ≡ effect_at program t pc

abbrev pub WrongAt : Program → Typable → List (Option ℕ) → ℕ → TypeFault → Type 0
WrongAt program t heights pc fault = (is_some (height_at heights pc) ≡ true) × (is_wrong program t pc ≡ true) × (fault ≡ kind_fault pc)

abbrev pub IsKindFault : Program → Typable → List (Option ℕ) → List Fact → TypeFault → Type 0
IsKindFault program t heights facts fault = From facts (FailsBy program t) fault ⊎ FromBelow (length heights) (WrongAt program t heights) fault

abbrev pub IsTypeAnswer : Program → ℕ → Result (List (Option ℕ)) TypeFault → Type 0
IsTypeAnswer program m (Ok heights) = IsTypedMethod program m × HasFirstPaths program m × ((pc h : ℕ) → (height_at heights pc ≡ Some h) ↔ HasHeightAt program m pc h)
IsTypeAnswer program m (Err fault) = IsLeastFault program m fault

abbrev pub IsFirstAnswer : Program → ℕ → Option TypeFault → Type 0
IsFirstAnswer program m None = IsTypedMethod program m
IsFirstAnswer program m (Some fault) = IsLeastFault program m fault
