-- The loop over the attributes of a field.
use Rattle.std.proofs.Common.{◌≡◌, ℕ, suc, ◌-◌, ◌+◌, ◌≤◌, ◌<◌, List, Option, Result, Ok, refl, sym, ap, ◌∙◌, arith}
use Rattle.class_pool.specs.declared.entries.PoolEntry.{PoolEntry}
use Rattle.class_pool.specs.declared.faults.ClassFault.{ClassFault}
use Rattle.class_pool.specs.declared.faults.Stop.{Stop}
use Rattle.class_pool.specs.declared.faults.Stop.TheVariants.{Fault, Memory}
use Rattle.class_pool.specs.Items.{◌>>=◌}
use Rattle.class_pool.specs.ClassOrder.{field_attribute, field_attributes}
use Rattle.class_pool.specs.Outcomes.{Fails}

-- an iteration, its stop and its end, at counter i
module _ (size : ℕ) (pool : List PoolEntry) (head : ℕ × ℕ × ℕ) (count i : ℕ) (known : Option ℕ) (rest : List ℕ) (total : Result (Option ℕ × List ℕ) ClassFault) (so_far : field_attributes size pool head (count - i) known rest ≡ total) where
  after_first : Result (Option ℕ × List ℕ) ClassFault → Result (Option ℕ × List ℕ) ClassFault
  after_first first = first >>= λ x. field_attributes size pool head (count - (i + 1)) x.0 x.1

  one_attribute : i < count → after_first (field_attribute size pool head known rest) ≡ total
  unfolding field_attributes after_first
  one_attribute more =
      let one_more : count - i ≡ suc (count - (i + 1)) = omega arith in
      rw one_more at so_far

  pub takes_attribute : (next : Option ℕ × List ℕ) → i < count → field_attribute size pool head known rest ≡ Ok next → field_attributes size pool head (count - (i + 1)) next.0 next.1 ≡ total
  unfolding after_first
  takes_attribute next more e = sym (ap after_first e) ∙ one_attribute more

  pub stops_at_attribute : (stop : Stop) → i < count → Fails stop (field_attribute size pool head known rest) → Fails stop total
  unfolding after_first
  stops_at_attribute Memory more e = tt
  stops_at_attribute (Fault fault) more e = sym (one_attribute more) ∙ ap after_first e

  pub attributes_done : count ≤ i → total ≡ Ok (known, rest)
  unfolding field_attributes
  attributes_done all = let none : count - i ≡ 0 = omega arith in sym so_far ∙ rw none refl
