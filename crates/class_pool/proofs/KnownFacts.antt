-- What is known of a text stands at its entry's index.
use Rattle.std.proofs.Common.{◌≡◌, ℕ, zero, suc, List, Option, Some, None, option_map, refl, ap, ◌∙◌}
use Rattle.std.proofs.lemmas.Option.{slice_get-map}
use Rattle.class_pool.specs.declared.entries.PoolEntry.{PoolEntry}
use Rattle.class_pool.specs.declared.known.TextFacts.{TextFacts}
use Rattle.class_pool.specs.Pool.{entry_at, utf8_of, utf8_at}
use Rattle.class_pool.specs.Known.{facts_of, entry_facts, all_facts, at_index}

at_entry : (pool : List PoolEntry) (index : ℕ) → at_index (all_facts pool) index ≡ option_map entry_facts (entry_at pool index)
at_entry pool zero = refl
at_entry pool (suc k) = slice_get-map entry_facts pool k

found_of : (entry : Option PoolEntry) (found : TextFacts) → Some found ≡ option_map entry_facts entry → found ≡ facts_of (utf8_of entry)
found_of None found is = absurd (cc)
found_of (Some entry) found is = cc

none_of : (entry : Option PoolEntry) → None ≡ option_map entry_facts entry → facts_of None ≡ facts_of (utf8_of entry)
none_of None is = refl
none_of (Some entry) is = absurd (cc)

module _ (pool : List PoolEntry) (facts : List TextFacts) (known : facts ≡ all_facts pool) (index : ℕ) where
  here : at_index facts index ≡ option_map entry_facts (entry_at pool index)
  here = ap (λ (xs : List TextFacts). at_index xs index) known ∙ at_entry pool index

  pub found_at : (found : TextFacts) → Some found ≡ at_index facts index → found ≡ facts_of (utf8_at pool index)
  found_at found is = found_of (entry_at pool index) found (is ∙ here)

  pub none_at : None ≡ at_index facts index → facts_of None ≡ facts_of (utf8_at pool index)
  none_at is = none_of (entry_at pool index) (is ∙ here)
