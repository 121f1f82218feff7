use Rattle.std.proofs.Common.{◌≡◌, ◌++◌, map, replicate}
use Rattle.jo_prog.specs.Typing.{Kind, Unset}
use Rattle.typing_effects.specs.Kinds.{kind_in}
use Rattle.jvm_typing.proofs.starts.add_unset.Given as goal

abbrev pub invariant-loop : goal.invariant-loop
invariant-loop l = map kind_in l.kinds.items ≡ map kind_in l.initial.kinds.items ++ replicate {A = Kind} l.counter Unset
