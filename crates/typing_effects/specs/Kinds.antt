-- What the kinds, needs and effects of this crate stand for.
use Rattle.std.specs.Prelude.{ℕ, Bool, List}
use Rattle.std.specs.Str.{bytes_eq}
use Rattle.jo_prog.specs.declared.program.Class.{Class}
use Rattle.jo_prog.specs.Typing.{Kind, Int, Null, Ref, Unset}
use Rattle.jo_prog.specs.Shapes.{Change, Same, Reference, Element}
use Rattle.typing_effects.specs.declared.kinds.Kind.{Kind as KindHere}
use Rattle.typing_effects.specs.declared.kinds.Kind.TheVariants.{Int as IntHere, Null as NullHere, Ref as RefHere, Unset as UnsetHere}
use Rattle.typing_effects.specs.declared.kinds.Change.{Change as ChangeHere}
use Rattle.typing_effects.specs.declared.kinds.Change.TheVariants.{Same as SameHere, Reference as ReferenceHere, Element as ElementHere}

abbrev pub kind_in : KindHere → Kind
kind_in IntHere = Int
kind_in NullHere = Null
kind_in (RefHere type) = Ref type
kind_in UnsetHere = Unset

abbrev pub change_in : ChangeHere → Change
change_in SameHere = Same
change_in ReferenceHere = Reference
change_in ElementHere = Element
