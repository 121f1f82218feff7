use Rattle.std.proofs.Common.{◌≡◌, drop}
use Rattle.std.specs.List.{list_any}
use Rattle.linker.specs.LinkFaults.{has_code}
use Rattle.linker.proofs.faults.some_code.Given as goal

-- what is left decides
abbrev pub invariant-loop-method : goal.invariant-loop-method
invariant-loop-method l = list_any has_code (drop l.method-index l.methods) ≡ list_any has_code l.methods
