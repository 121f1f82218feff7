-- Values and what stands at an address, as the program holds them (JVM Specification SE 8, 2.2 to 2.4).
use Rattle.std.specs.Prelude.{ℕ, List, map, reverse}
use Rattle.jo_prog.specs.Values as machine
use Rattle.jo_prog.specs.Values.{int, null, ref, object, array}
use Rattle.jvm_values.specs.declared.values.Value.{Value}
use Rattle.jvm_values.specs.declared.values.Value.TheVariants.{Int, Null, Ref}
use Rattle.jvm_values.specs.declared.values.Info.{Info}
use Rattle.jvm_values.specs.declared.values.Info.TheVariants.{Object, Array}
use Rattle.jvm_values.specs.declared.values.InfoView.{InfoView}
use Rattle.jvm_values.specs.declared.values.InfoView.TheVariants.{Object as ObjectView, Array as ArrayView}

abbrev pub value_of : Value → machine.Value ℕ
value_of (Int z) = int z
value_of Null = null
value_of (Ref a) = ref a

-- the last of some values was on top of the stack, which comes first
abbrev pub popped_values : List Value → List (machine.Value ℕ)
popped_values values = map value_of (reverse values)

abbrev pub info_of : Info → machine.Info
info_of (Object class) = object class
info_of (Array desc length) = array desc length

abbrev pub info_seen : InfoView → machine.Info
info_seen (ObjectView class) = object class
info_seen (ArrayView desc length) = array desc.now length
