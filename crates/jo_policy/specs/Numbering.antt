-- Numbers of levels in the place of their names (this project's own). The names are looked at in the order
-- of `numbered_of`, and the first that is no level's is the fault.
use Rattle.std.specs.Prelude.{ℕ, suc, if◌then◌else◌, List, [], ◌∷◌, length, Option, Some, None, Ok}
use Rattle.std.specs.Str.{bytes_eq}
use Rattle.jo_prog.specs.declared.labels.Label.{Label}
use Rattle.jo_prog.specs.declared.labels.Label.TheVariants as labels
use Rattle.jo_prog.specs.Numbers.{count_from}
use Rattle.policy_tree.specs.declared.faults.PolicyFault.TheVariants.{UnknownLevel}
use Rattle.policy_tree.specs.declared.written.NamedLabel.{NamedLabel}
use Rattle.policy_tree.specs.declared.written.NamedLabel.TheVariants.{Source, Sink, Release}
use Rattle.policy_tree.specs.declared.written.WrittenLabel.{WrittenLabel}
use Rattle.policy_tree.specs.declared.written.WrittenPolicy.{WrittenPolicy}
use Rattle.policy_tree.specs.Outcomes.{◌>>=◌, or_fault}
use Rattle.policy_tree.specs.PolicyTree.{Read}
use Rattle.jo_policy.specs.declared.numbering.NumberedLabel.{NumberedLabel}
use Rattle.jo_policy.specs.declared.numbering.NumberedPolicy.{NumberedPolicy}

-- the number of the first name that is a text, where the names have numbers from a first one on
abbrev pub place_from : ℕ → List (List ℕ) → List ℕ → Option ℕ
place_from first [] text = None
place_from first (name ∷ names) text = if bytes_eq name text then Some first else place_from (suc first) names text

-- the level with a name, by its place among the levels
abbrev pub level_named : List (List ℕ) → List ℕ → Read ℕ
level_named levels name = or_fault (UnknownLevel name) (place_from 0 levels name)

abbrev pub pairs_numbered : List (List ℕ) → List (List ℕ × List ℕ) → Read (List (ℕ × ℕ))
pairs_numbered levels [] = Ok []
pairs_numbered levels (pair ∷ pairs) = do
  low ← level_named levels pair.0
  high ← level_named levels pair.1
  more ← pairs_numbered levels pairs
  Ok ((low, high) ∷ more)

abbrev pub levels_numbered : List (List ℕ) → List (List ℕ) → Read (List ℕ)
levels_numbered levels [] = Ok []
levels_numbered levels (name ∷ names) = do
  level ← level_named levels name
  more ← levels_numbered levels names
  Ok (level ∷ more)

-- where the policy names no observers, all levels are
abbrev pub observers_numbered : List (List ℕ) → Option (List (List ℕ)) → Read (List ℕ)
observers_numbered levels None = Ok (count_from 0 (length levels))
observers_numbered levels (Some names) = levels_numbered levels names

unfoldable pub label_numbered : List (List ℕ) → NamedLabel → Read Label
label_numbered levels (Source name) = do
  level ← level_named levels name
  Ok (labels.Source level)
label_numbered levels (Sink name) = do
  level ← level_named levels name
  Ok (labels.Sink level)
label_numbered levels (Release from to) = do
  low ← level_named levels from
  high ← level_named levels to
  Ok (labels.Release low high)

abbrev pub labels_numbered : List (List ℕ) → List WrittenLabel → Read (List NumberedLabel)
labels_numbered levels [] = Ok []
labels_numbered levels (written ∷ more) = do
  label ← label_numbered levels written.label
  others ← labels_numbered levels more
  Ok (record { method = written.method; label = label } ∷ others)

abbrev pub numbered_of : WrittenPolicy → Read NumberedPolicy
numbered_of written = do
  flows ← pairs_numbered written.levels written.flows
  observers ← observers_numbered written.levels written.observers
  labels ← labels_numbered written.levels written.labels
  Ok (record { flows = flows; observers = observers; labels = labels })
