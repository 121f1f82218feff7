-- What at a pc decides which faults a path meets there, by its height alone (this project's own).
use Rattle.std.specs.Prelude.{◌≡◌, ℕ, Bool, List, Option, Some, None, slice_index_or}
use Rattle.jo_prog.specs.declared.program.Program.{Program}
use Rattle.jo_prog.specs.TypingPaths.{Typable, effect_at, is_covered, falls_off, out_of_range}
use Rattle.typing_heights.specs.declared.gauges.Gauge.{Gauge}
use Rattle.typing_heights.specs.Sizes.{size_of}

pub record IsGauge (program : Program) (t : Typable) (pc : ℕ) (gauge : Gauge) : Type 0 where
  pub same_size : gauge.size ≡ size_of (effect_at program t pc)
  pub same_cover : gauge.covered ≡ is_covered t.code pc
  pub same_fall : gauge.falls_off ≡ falls_off t.code pc
  pub same_range : gauge.out_of_range ≡ out_of_range program t pc

abbrev pub IsGaugeIf : Program → Typable → ℕ → Option Gauge → Type 0
IsGaugeIf program t pc None = Unit {0}
IsGaugeIf program t pc (Some gauge) = IsGauge program t pc gauge

abbrev pub AreGauges : Program → Typable → List (Option Gauge) → Type 0
AreGauges program t gauges = (pc : ℕ) → IsGaugeIf program t pc (slice_index_or gauges pc None)
