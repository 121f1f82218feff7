-- The loop over the attributes of a method.
use Rattle.std.proofs.Common.{◌≡◌, ℕ, suc, ◌-◌, ◌+◌, ◌≤◌, ◌<◌, Bool, true, false, List, ◌++◌, Option, Result, Ok, Err, refl, sym, ap, ◌∙◌, append_assoc, arith}
use Rattle.std.specs.Prelude.{codes}
use Rattle.class_pool.specs.declared.entries.PoolEntry.{PoolEntry}
use Rattle.class_pool.specs.declared.classes.CodeInfo.{CodeInfo}
use Rattle.class_pool.specs.declared.faults.ClassFault.{ClassFault}
use Rattle.class_pool.specs.declared.faults.Stop.{Stop}
use Rattle.class_pool.specs.declared.faults.Stop.TheVariants.{Fault, Memory}
use Rattle.class_pool.specs.Items.{◌>>=◌, place_of, number, bytes_of}
use Rattle.class_pool.specs.Pool.{utf8_at}
use Rattle.class_pool.specs.ClassOrder.{text_index, is_named, read_code, method_attributes}
use Rattle.class_pool.specs.ClassGrammar.{codes_in}
use Rattle.class_pool.specs.Outcomes.{Fails}
use Rattle.class_pool.proofs.GrammarNumbers.{by_answer}
use Rattle.class_pool.proofs.Many.{with_front, is_done}
use Rattle.class_read.specs.Methods.{method_attribute}

by_test : (P : Type 0) (test : Bool) → (test ≡ true → P) → (test ≡ false → P) → P
by_test P true passed failed = passed refl
by_test P false passed failed = failed refl

abbrev after_one : ℕ → List PoolEntry → ℕ → Result (Option CodeInfo × List ℕ) ClassFault → Result (List CodeInfo × List ℕ) ClassFault
after_one size pool n first = first >>= λ x. with_front (codes_in x.0) (method_attributes size pool n x.1)

pub first_attribute : (size : ℕ) (pool : List PoolEntry) (n : ℕ) (rest : List ℕ) → method_attributes size pool (suc n) rest ≡ after_one size pool n (method_attribute size pool rest)
unfolding method_attributes method_attribute
first_attribute size pool n rest =
    by_answer (text_index size pool rest) (λ f failed. rw failed refl) (λ name named.
    by_answer (number size 4 name.1) (λ f failed. rw (named, failed) refl) (λ count counted.
    by_test _ (is_named (codes "Code") (utf8_at pool name.0))
    (λ is_code. by_answer (read_code size pool (place_of size name.1) count.0 count.1) (λ f failed. rw (named, counted, is_code, failed) refl) (λ c is. rw (named, counted, is_code, is) refl))
    (λ other. by_answer (bytes_of size count.0 count.1) (λ f failed. rw (named, counted, other, failed) refl) (λ content is. rw (named, counted, other, is) refl))))

joins : (front more : List CodeInfo) (others : Result (List CodeInfo × List ℕ) ClassFault) → with_front front (with_front more others) ≡ with_front (front ++ more) others
joins front more (Ok o) = ap (λ (xs : List CodeInfo). Ok (xs, o.1)) (sym (append_assoc front more o.0))
joins front more (Err fault) = refl

-- an iteration, its stop and its end, at counter i
module _ (size : ℕ) (pool : List PoolEntry) (front : List CodeInfo) (count i : ℕ) (rest : List ℕ) (total : Result (List CodeInfo × List ℕ) ClassFault) (so_far : with_front front (method_attributes size pool (count - i) rest) ≡ total) where
  one_attribute : i < count → with_front front (after_one size pool (count - (i + 1)) (method_attribute size pool rest)) ≡ total
  one_attribute more =
      let one_more : count - i ≡ suc (count - (i + 1)) = omega arith in
      sym (ap (with_front front) (ap (λ (n : ℕ). method_attributes size pool n rest) one_more ∙ first_attribute size pool (count - (i + 1)) rest)) ∙ so_far

  pub takes_attribute : (found : Option CodeInfo) (behind : List ℕ) → i < count → method_attribute size pool rest ≡ Ok (found, behind) → with_front (front ++ codes_in found) (method_attributes size pool (count - (i + 1)) behind) ≡ total
  takes_attribute found behind more e = sym (joins front (codes_in found) _) ∙ sym (ap (λ (r : Result (Option CodeInfo × List ℕ) ClassFault). with_front front (after_one size pool (count - (i + 1)) r)) e) ∙ one_attribute more

  pub stops_at_attribute : (stop : Stop) → i < count → Fails stop (method_attribute size pool rest) → Fails stop total
  stops_at_attribute Memory more e = tt
  stops_at_attribute (Fault fault) more e = sym (one_attribute more) ∙ ap (λ (r : Result (Option CodeInfo × List ℕ) ClassFault). with_front front (after_one size pool (count - (i + 1)) r)) e

  pub attributes_done : count ≤ i → total ≡ Ok (front, rest)
  unfolding method_attributes
  attributes_done all = let none : count - i ≡ 0 = omega arith in is_done front _ total so_far rest (rw none refl)
