use Rattle.std.proofs.Common.{◌≡◌, ℕ, drop}
use Rattle.std.specs.List.{list_any}
use Rattle.jo_prog.specs.Hierarchy.{is_subtype}
use Rattle.jo_policy.proofs.threads.has_subtype.Given as goal

-- the classes that are left decide
abbrev pub invariant-loop-class : goal.invariant-loop-class
invariant-loop-class l =
    list_any (λ (k : ℕ). is_subtype l.program k l.named) (drop l.class-index l.classes) ≡ list_any (λ (k : ℕ). is_subtype l.program k l.named) l.classes
