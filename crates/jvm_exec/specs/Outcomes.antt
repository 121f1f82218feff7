-- What comes of an instruction, as the program holds it (JVM Specification SE 8, 2.11).
use Rattle.std.specs.Prelude.{ℕ, option_map}
use Rattle.jo_prog.specs.Values as values
use Rattle.jo_prog.specs.Values.{field, element, static}
use Rattle.machine.specs.Execution as machine
use Rattle.machine.specs.Execution.{pushes, puts, jumps, raises, throws_at, allocates, returns}
use Rattle.jvm_values.specs.Values.{value_of, info_seen}
use Rattle.jvm_exec.specs.declared.outcomes.Cell.{Cell}
use Rattle.jvm_exec.specs.declared.outcomes.Cell.TheVariants.{Field, Element, Static}
use Rattle.jvm_exec.specs.declared.outcomes.Write.{Write}
use Rattle.jvm_exec.specs.declared.outcomes.Effect.{Effect}
use Rattle.jvm_exec.specs.declared.outcomes.Effect.TheVariants.{Pushes, Puts, Jumps, Raises, ThrowsAt, Allocates, Returns}
use Rattle.jvm_exec.specs.declared.outcomes.Outcome.{Outcome}

abbrev pub cell_of : Cell → values.Cell ℕ
cell_of (Field a f) = field a f
cell_of (Element a i) = element a i
cell_of (Static f) = static f

abbrev pub written_of : Write → values.Cell ℕ × values.Value ℕ
written_of change = (cell_of change.cell, value_of change.value)

abbrev pub effect_of : Effect → machine.Effect ℕ
effect_of (Pushes values) = pushes values
effect_of (Puts k v) = puts k (value_of v)
effect_of (Jumps target) = jumps target
effect_of (Raises cause) = raises cause
effect_of (ThrowsAt a) = throws_at a
effect_of (Allocates info) = allocates (info_seen info)
effect_of (Returns result) = returns (option_map value_of result)

abbrev pub outcome_of : Outcome → machine.Outcome ℕ
outcome_of o = record { effect = effect_of o.effect; written = option_map written_of o.written }
