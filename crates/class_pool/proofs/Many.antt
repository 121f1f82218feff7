-- Loops that read items one after another, against a recursion that reads them.
use Rattle.std.proofs.Common.{◌≡◌, ℕ, suc, ◌-◌, ◌+◌, ◌≤◌, ◌<◌, List, [], ◌∷◌, ◌++◌, Result, Ok, Err, refl, sym, ap, ◌∙◌, append_assoc, arith}
use Rattle.std.proofs.lemmas.List.{append-nil}
use Rattle.class_pool.specs.declared.faults.ClassFault.{ClassFault}
use Rattle.class_pool.specs.declared.faults.Stop.{Stop}
use Rattle.class_pool.specs.declared.faults.Stop.TheVariants.{Fault, Memory}
use Rattle.class_pool.specs.Items.{◌>>=◌, many}
use Rattle.class_pool.specs.Outcomes.{Fails}

-- what was read before, and what is still read
abbrev pub with_front : {X : Type 0} → List X → Result (List X × List ℕ) ClassFault → Result (List X × List ℕ) ClassFault
with_front front read = read >>= λ o. Ok (front ++ o.0, o.1)

-- an item, and what is read behind it
abbrev pub with_first : {X : Type 0} → X → Result (List X × List ℕ) ClassFault → Result (List X × List ℕ) ClassFault
with_first x read = read >>= λ o. Ok (x ∷ o.0, o.1)

regroup : {X : Type 0} (front : List X) (x : X) (others : Result (List X × List ℕ) ClassFault) → with_front front (with_first x others) ≡ with_front (front ++ x ∷ []) others
regroup {X} front x (Ok o) = ap (λ (xs : List X). Ok (xs, o.1)) (sym (append_assoc front (x ∷ []) o.0))
regroup front x (Err fault) = refl

-- An iteration of any such loop, its stop and its end. `now` is what the recursion gives for what is still to be read.
module _ {X : Type 0} (front : List X) (now total : Result (List X × List ℕ) ClassFault) (so_far : with_front front now ≡ total) where
  pub takes : (x : X) (others : Result (List X × List ℕ) ClassFault) → now ≡ with_first x others → with_front (front ++ x ∷ []) others ≡ total
  takes x others e = sym (regroup front x others) ∙ sym (ap (with_front front) e) ∙ so_far

  pub stops : (fault : ClassFault) → now ≡ Err fault → total ≡ Err fault
  stops fault e = sym so_far ∙ ap (with_front front) e

  pub is_done : (rest : List ℕ) → now ≡ Ok ([], rest) → total ≡ Ok (front, rest)
  is_done rest e = sym so_far ∙ ap (with_front front) e ∙ ap (λ (xs : List X). Ok (xs, rest)) (append-nil front)

-- the same of the loop `for _ in 0..count` over many, at counter i
module _ {X : Type 0} (read : List ℕ → Result (X × List ℕ) ClassFault) (front : List X) (count i : ℕ) (rest : List ℕ) (total : Result (List X × List ℕ) ClassFault) (so_far : with_front front (many read (count - i) rest) ≡ total) where
  pub many_takes : (x : X) (after : List ℕ) → i < count → read rest ≡ Ok (x, after) → with_front (front ++ x ∷ []) (many read (count - (i + 1)) after) ≡ total
  unfolding many
  many_takes x after more e =
      let one_more : count - i ≡ suc (count - (i + 1)) = omega arith in
      takes front _ total so_far x (many read (count - (i + 1)) after) (rw (one_more, e) refl)

  pub many_stops : (stop : Stop) → i < count → Fails stop (read rest) → Fails stop total
  unfolding many
  many_stops Memory more e = tt
  many_stops (Fault fault) more e =
      let one_more : count - i ≡ suc (count - (i + 1)) = omega arith in
      stops front _ total so_far fault (rw (one_more, e) refl)

  pub many_done : count ≤ i → total ≡ Ok (front, rest)
  unfolding many
  many_done all = let none : count - i ≡ 0 = omega arith in is_done front _ total so_far rest (rw none refl)
