-- The keys of tables (this project's own).
use Rattle.std.specs.Prelude.{ℕ, Bool, List, [], ◌∷◌, codes}
use Rattle.std.specs.List.{list_any}
use Rattle.std.specs.Str.{bytes_eq}
use Rattle.toml.specs.Data.{Members, no_members, member}
use Rattle.policy_tree.specs.declared.keys.KeySet.{KeySet}
use Rattle.policy_tree.specs.declared.keys.KeySet.TheVariants.{Policy, Release, Run}

-- the keys of a table, in its order: they ascend as bytes
abbrev pub keys_of : Members → List (List ℕ)
keys_of no_members = []
keys_of (member key value rest) = key ∷ keys_of rest

abbrev pub known_in : KeySet → List (List ℕ)
known_in Policy = codes "levels" ∷ codes "flows" ∷ codes "observers" ∷ codes "contexts" ∷ codes "entry" ∷ codes "sources" ∷ codes "sinks" ∷ codes "releases" ∷ []
known_in Release = codes "from" ∷ codes "to" ∷ []
known_in Run = codes "steps" ∷ codes "schedule" ∷ codes "inputs" ∷ []

abbrev pub is_known : KeySet → List ℕ → Bool
is_known keys key = list_any (λ known. bytes_eq known key) (known_in keys)
