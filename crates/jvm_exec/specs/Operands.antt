-- Values that were popped, as the program holds them (this project's own).
use Rattle.std.specs.Prelude.{ℕ, ℤ, Option}
use Rattle.jo_prog.specs.Values.{Value}
use Rattle.jvm_values.specs.Values.{value_of}
use Rattle.jvm_exec.specs.declared.shapes.Stored.{Stored}
use Rattle.jvm_exec.specs.declared.shapes.Put.{Put}

abbrev pub stored_of : Stored → Value ℕ × (ℤ × Option ℕ)
stored_of found = (value_of found.value, (found.index, found.array))

abbrev pub put_of : Put → Value ℕ × Option ℕ
put_of found = (value_of found.value, found.object)
