use Rattle.std.proofs.Common.{◌≡◌, ℕ, List, [], replicate}
use Rattle.jvm_typing.proofs.fact_tables.no_numbers.Given as goal

abbrev pub invariant-loop : goal.invariant-loop
invariant-loop l = l.numbers.items ≡ replicate {A = List ℕ} l.counter []
