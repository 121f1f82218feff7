use Rattle.std.proofs.Common.{◌≡◌, ◌++◌, drop, map, List, ℕ, Bor, string_bytes}
use Rattle.joana_tests.proofs.runs.owned.Given as goal

-- the words before this one are there
abbrev pub invariant-loop-word : goal.invariant-loop-word
invariant-loop-word l = map string_bytes l.owned.items ++ map (λ (word : Bor (List ℕ)). word.now) (drop l.word-index l.words) ≡ map (λ (word : Bor (List ℕ)). word.now) l.words
