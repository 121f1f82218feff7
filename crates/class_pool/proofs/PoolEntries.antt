-- The loop that reads the entries of the pool, at counter i.
use Rattle.std.proofs.Common.{◌≡◌, ℕ, suc, ◌-◌, ◌+◌, ◌≤◌, ◌<◌, true, false, List, [], ◌∷◌, ◌++◌, Option, Some, None, Result, Ok, Err, refl, arith}
use Rattle.std.specs.Option.{is_some}
use Rattle.class_pool.specs.declared.entries.PoolEntry.{PoolEntry}
use Rattle.class_pool.specs.declared.entries.PoolEntry.TheVariants.{Second}
use Rattle.class_pool.specs.declared.faults.ClassCode.TheVariants.{PoolIndex}
use Rattle.class_pool.specs.declared.faults.ClassFault.{ClassFault}
use Rattle.class_pool.specs.declared.faults.Stop.{Stop}
use Rattle.class_pool.specs.declared.faults.Stop.TheVariants.{Fault, Memory}
use Rattle.class_pool.specs.Items.{place_of, fault}
use Rattle.class_pool.specs.Outcomes.{Fails}
use Rattle.class_pool.specs.Pool.{read_entry, read_entries, owed_by}
use Rattle.class_pool.proofs.Many.{with_front, takes, stops, is_done}

module _ (size count i : ℕ) (front : List PoolEntry) (rest : List ℕ) (total : Result (List PoolEntry × List ℕ) ClassFault) where
  pub second_taken : (owed : Option ℕ) → is_some owed ≡ true → i < count → with_front front (read_entries size owed (count - i) rest) ≡ total
      → with_front (front ++ Second ∷ []) (read_entries size None (count - (i + 1)) rest) ≡ total
  unfolding read_entries
  second_taken None is more so_far = cc
  second_taken (Some place) is more so_far =
      let one_more : count - i ≡ suc (count - (i + 1)) = omega arith in
      takes front _ total so_far Second (read_entries size None (count - (i + 1)) rest) (rw one_more refl)

  pub entry_taken : (owed : Option ℕ) (entry : PoolEntry) (after : List ℕ) → is_some owed ≡ false → i < count → read_entry size rest ≡ Ok (entry, after)
      → with_front front (read_entries size owed (count - i) rest) ≡ total
      → with_front (front ++ entry ∷ []) (read_entries size (owed_by entry (place_of size rest)) (count - (i + 1)) after) ≡ total
  unfolding read_entries
  entry_taken (Some place) entry after is more e so_far = cc
  entry_taken None entry after is more e so_far =
      let one_more : count - i ≡ suc (count - (i + 1)) = omega arith in
      takes front _ total so_far entry (read_entries size (owed_by entry (place_of size rest)) (count - (i + 1)) after) (rw (one_more, e) refl)

  pub entry_stops : (owed : Option ℕ) (stop : Stop) → is_some owed ≡ false → i < count → Fails stop (read_entry size rest)
      → with_front front (read_entries size owed (count - i) rest) ≡ total → Fails stop total
  unfolding read_entries
  entry_stops owed Memory is more e so_far = tt
  entry_stops (Some place) (Fault f) is more e so_far = cc
  entry_stops None (Fault f) is more e so_far =
      let one_more : count - i ≡ suc (count - (i + 1)) = omega arith in
      stops front _ total so_far f (rw (one_more, e) refl)

  pub owed_at_end : (owed : Option ℕ) (place : ℕ) → owed ≡ Some place → count ≤ i → with_front front (read_entries size owed (count - i) rest) ≡ total
      → total ≡ Err (fault PoolIndex place)
  unfolding read_entries
  owed_at_end owed place is all so_far = let none : count - i ≡ 0 = omega arith in stops front _ total so_far (fault PoolIndex place) (rw (is, none) refl)

  pub entries_done : (owed : Option ℕ) → owed ≡ None → count ≤ i → with_front front (read_entries size owed (count - i) rest) ≡ total → total ≡ Ok (front, rest)
  unfolding read_entries
  entries_done owed is all so_far = let none : count - i ≡ 0 = omega arith in is_done front _ total so_far rest (rw (is, none) refl)
