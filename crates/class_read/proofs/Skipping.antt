-- Loops over attributes of which nothing is kept.
use Rattle.std.proofs.Common.{◌≡◌, ℕ, suc, ◌-◌, ◌+◌, ◌≤◌, ◌<◌, List, ◌∷◌, Result, Ok, Err, refl, sym, ap, ◌∙◌, arith}
use Rattle.class_pool.specs.declared.faults.ClassFault.{ClassFault}
use Rattle.class_pool.specs.declared.faults.Stop.{Stop}
use Rattle.class_pool.specs.declared.faults.Stop.TheVariants.{Fault, Memory}
use Rattle.class_pool.specs.Items.{◌>>=◌, many}
use Rattle.class_pool.specs.Outcomes.{Fails}

-- what follows what was read
abbrev pub behind_of : {X : Type 0} → Result (X × List ℕ) ClassFault → Result (List ℕ) ClassFault
behind_of read = read >>= λ o. Ok o.1

passes_first : {X : Type 0} (x : X) (others : Result (List X × List ℕ) ClassFault) → behind_of (others >>= λ o. Ok (x ∷ o.0, o.1)) ≡ behind_of others
passes_first x (Ok o) = refl
passes_first x (Err fault) = refl

-- the loop `for _ in 0..count` at counter i: an iteration, its stop and its end
module _ {X : Type 0} (read : List ℕ → Result (X × List ℕ) ClassFault) (count i : ℕ) (rest : List ℕ) (total : Result (List ℕ) ClassFault) (so_far : behind_of (many read (count - i) rest) ≡ total) where
  pub passes : (x : X) (after : List ℕ) → i < count → read rest ≡ Ok (x, after) → behind_of (many read (count - (i + 1)) after) ≡ total
  unfolding many
  passes x after more e =
      let one_more : count - i ≡ suc (count - (i + 1)) = omega arith in
      sym (passes_first x (many read (count - (i + 1)) after)) ∙ (let at_now : behind_of (many read (suc (count - (i + 1))) rest) ≡ total = rw one_more at so_far in rw e at at_now)

  pub stops : (stop : Stop) → i < count → Fails stop (read rest) → Fails stop total
  unfolding many
  stops Memory more e = tt
  stops (Fault fault) more e =
      let one_more : count - i ≡ suc (count - (i + 1)) = omega arith in
      let at_now : behind_of (many read (suc (count - (i + 1))) rest) ≡ total = rw one_more at so_far in
      sym at_now ∙ ap (λ (r : Result (X × List ℕ) ClassFault). behind_of (r >>= λ first. many read (count - (i + 1)) first.1 >>= λ others. Ok (first.0 ∷ others.0, others.1))) e

  pub is_done : count ≤ i → total ≡ Ok rest
  unfolding many
  is_done all = let none : count - i ≡ 0 = omega arith in sym so_far ∙ rw none refl
