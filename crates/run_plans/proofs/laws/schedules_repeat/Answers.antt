use Rattle.std.proofs.Common.{◌≡◌, ℕ, zero, suc, ◌<◌, List, [], ◌∷◌, length, Some, refl, sym, ap, ◌∙◌, arith}
use Rattle.std.specs.Prelude.{slice_get, slice_index_or}
use Rattle.std.proofs.Math.Nat.{add-mod_right, mod-eq_of_lt}
use Rattle.std.proofs.lemmas.List.{length-map}
use Rattle.jo_prog.specs.Numbers.{count_from}
use Rattle.run_plans.specs.Schedules.{picked}
use Rattle.run_plans.proofs.laws.schedules_repeat.Goals as goal

count_length : (first n : ℕ) → length (count_from first n) ≡ n
count_length first zero = refl
count_length first (suc n) = ap suc (count_length (suc first) n)

at_place : (xs : List ℕ) (k : ℕ) → k < length xs → slice_get xs k ≡ Some (slice_index_or xs k 0)
at_place [] k below = absurd (omega arith)
at_place (x ∷ xs) zero below = refl
at_place (x ∷ xs) (suc k) below = at_place xs k (omega arith)

pub returns-clause-steps : goal.returns-clause-steps
returns-clause-steps c = λ schedule steps. length-map (count_from 0 steps) (picked schedule) ∙ count_length 0 steps

pub returns-clause-begins : goal.returns-clause-begins
returns-clause-begins c = λ schedule step below. at_place schedule step below ∙ ap (λ k. Some (slice_index_or schedule k 0)) (sym (mod-eq_of_lt below))

pub returns-clause-again : goal.returns-clause-again
returns-clause-again c = λ schedule step. ap (λ k. slice_index_or schedule k 0) (add-mod_right step (length schedule))

pub returns-clause-zeros : goal.returns-clause-zeros
returns-clause-zeros c = λ step. refl
