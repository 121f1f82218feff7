-- Shapes whose places hold ints alone.
use Rattle.std.specs.Prelude.{Bool, true, false, map, replicate}
use Rattle.jo_prog.specs.declared.jvm_typing.IntShape.{IntShape}
use Rattle.jo_prog.specs.Typing.{Kind, Int, Unset, Shape}

abbrev pub kind_of : Bool → Kind
kind_of true = Int
kind_of false = Unset

abbrev pub shape_of : IntShape → Shape
shape_of s = record { locals = map kind_of s.is_set.items; stack = replicate s.height Int }
