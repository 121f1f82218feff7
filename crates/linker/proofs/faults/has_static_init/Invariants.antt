use Rattle.std.proofs.Common.{◌≡◌, drop}
use Rattle.std.specs.List.{list_any}
use Rattle.linker.specs.LinkFaults.{is_static_init}
use Rattle.linker.proofs.faults.has_static_init.Given as goal

-- what is left decides
abbrev pub invariant-loop-method : goal.invariant-loop-method
invariant-loop-method l = list_any (is_static_init l.class) (drop l.method-index l.class.methods) ≡ list_any (is_static_init l.class) l.class.methods
