use Rattle.std.proofs.Common.{◌≡◌, ◌++◌, map, take}
use Rattle.jo_prog.specs.Shapes.{kind_of_type}
use Rattle.typing_effects.specs.Kinds.{kind_in}
use Rattle.jvm_typing.proofs.starts.add_params.Given as goal

abbrev pub invariant-loop-desc : goal.invariant-loop-desc
invariant-loop-desc l = map kind_in l.kinds.items ≡ map kind_in l.initial.kinds.items ++ map (kind_of_type l.program) (take l.desc-index l.params)
