-- The rules that go from no facts: with what a program begins. Over lists of sites they are those of the same names of ByRule (this
-- project's own form).
use Rattle.std.specs.Prelude.{◌≡◌, ℕ, ◌<◌, true, codes, List, [], slice_get, Some}
use Rattle.jo_insn.specs.AccessFlags.{has_flag, static_flag}
use Rattle.jo_prog.specs.declared.program.Program.{Program}
use Rattle.jo_prog.specs.declared.program.Field.{Field}
use Rattle.dep_nodes.specs.declared.kinds.NodeKind.TheVariants.{Param}
use Rattle.dependence.specs.declared.facts.FactCell.TheVariants.{Static}
use Rattle.dependence.specs.declared.facts.Fact.{Fact}
use Rattle.dependence.specs.declared.facts.Fact.TheVariants.{Reached, Holds, CellHolds}
use Rattle.dependence.specs.NodePlaces.{HasParameters}
use Rattle.dependence.specs.FactRules.{instance_at, string_object, args_object, is_text, IsTextField}

-- the entry runs, on an array of strings where it has a parameter, and fields have their first values
pub data ByFirst (program : Program) (entry : ℕ) : Fact (List ℕ) → Type 0 where
  enters : ByFirst program entry (Reached (instance_at entry []))
  is_given : (count : ℕ) → HasParameters program entry count → 0 < count → ByFirst program entry (Holds (instance_at entry []) (Param 0) args_object)
  begins_with : (f : ℕ) → IsTextField program f → ByFirst program entry (CellHolds (Static f) string_object)

-- ---- one after the other

abbrev pub HasParameter : Program → ℕ → Type 0
HasParameter program m = (count : ℕ) × HasParameters program m count × (0 < count)

-- a static field of type String with a first value
pub record IsText (field : Field) : Type 0 where
  pub is_static : has_flag static_flag field.flags ≡ true
  pub desc : field.desc ≡ codes "Ljava/lang/String;"
  pub has_value : is_text field.constant ≡ true

abbrev pub EntryGives : Program → ℕ → Fact (List ℕ) → Type 0
EntryGives program entry g = HasParameter program entry × (g ≡ Holds (instance_at entry []) (Param 0) args_object)

abbrev pub FieldGives : Program → ℕ → Fact (List ℕ) → Type 0
FieldGives program f g = IsTextField program f × (g ≡ CellHolds (Static f) string_object)
