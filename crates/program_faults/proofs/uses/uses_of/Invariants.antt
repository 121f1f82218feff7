use Rattle.std.proofs.Common.{◌≡◌, ◌++◌, drop}
use Rattle.std.specs.List.{flat_map}
use Rattle.program_faults.specs.UsedOperands.{used_in_method, methods_of}
use Rattle.program_faults.proofs.uses.uses_of.Given as goal

-- what is collected, and what is left
abbrev pub invariant-loop-method : goal.invariant-loop-method
invariant-loop-method l =
    l.uses ++ flat_map (used_in_method l.program) (drop l.method-index (methods_of l.program l.fn.class))
    ≡ flat_map (used_in_method l.program) (methods_of l.program l.fn.class)
