-- What the TOML tree of a policy says (this project's own). A part that isn't there, or isn't of its kind, is a fault that
-- names the innermost key at which it should stand; what stands in an array belongs to the array's key. The keys are looked at
-- in the order of `written_of`, those of a table in its order, and unknown keys behind all others.
use Rattle.std.specs.Prelude.{ℕ, ◌==◌, not, if◌then◌else◌, List, [], ◌∷◌, length, Option, Some, None, option_map, option_and_then, Result, Ok, Err, find, codes}
use Rattle.std.specs.Str.{bytes_eq}
use Rattle.toml.specs.Data.{Data, Items, no_items, item, Members, no_members, member, get_member, get_item, as_str, as_array, as_table}
use Rattle.policy_tree.specs.declared.faults.PolicyFault.{PolicyFault}
use Rattle.policy_tree.specs.declared.faults.PolicyFault.TheVariants.{Key}
use Rattle.policy_tree.specs.declared.keys.KeySet.{KeySet}
use Rattle.policy_tree.specs.declared.keys.KeySet.TheVariants.{Policy, Release as ReleaseKeys}
use Rattle.policy_tree.specs.declared.written.ContextsKey.{ContextsKey}
use Rattle.policy_tree.specs.declared.written.ContextsKey.TheVariants.{NoContext, Object1, Object2}
use Rattle.policy_tree.specs.declared.written.NamedLabel.{NamedLabel}
use Rattle.policy_tree.specs.declared.written.NamedLabel.TheVariants.{Source, Sink, Release}
use Rattle.policy_tree.specs.declared.written.WrittenLabel.{WrittenLabel}
use Rattle.policy_tree.specs.declared.written.WrittenPolicy.{WrittenPolicy}
use Rattle.policy_tree.specs.declared.written.LabelTable.{LabelTable}
use Rattle.policy_tree.specs.declared.written.LabelTable.TheVariants.{Sources, Sinks}
use Rattle.policy_tree.specs.Outcomes.{◌>>=◌, refused, or_fault, behind}
use Rattle.policy_tree.specs.TreeKeys.{keys_of, is_known}

abbrev pub Read : Type 0 → Type 0
Read A = Result A PolicyFault

-- the value of a key, where it is of its kind
abbrev pub of_kind : {A : Type 0} → List ℕ → Option A → Read A
of_kind key value = or_fault (Key key) value

-- no key besides the known ones
abbrev pub no_other : KeySet → Members → Read (Unit {0})
no_other keys table = refused Key (find (λ key. not (is_known keys key)) (keys_of table))

-- ---- texts

abbrev pub text_of : List ℕ → Option Data → Read (List ℕ)
text_of key value = of_kind key (option_and_then as_str value)

abbrev pub texts_in : List ℕ → Items → Read (List (List ℕ))
texts_in key no_items = Ok []
texts_in key (item value rest) = do
  text ← text_of key (Some value)
  texts ← texts_in key rest
  Ok (text ∷ texts)

abbrev pub array_of : List ℕ → Option Data → Read Items
array_of key value = of_kind key (option_and_then as_array value)

-- an array of one or more texts
abbrev pub some_texts : List ℕ → Option Data → Read (List (List ℕ))
some_texts key value = do
  items ← array_of key value
  texts ← texts_in key items
  if length texts == 0 then Err (Key key) else Ok texts

-- ---- pairs of texts

-- the first two items, where there is no third
abbrev pub two_only : Data → Data → Option Data → Option (Data × Data)
two_only a b None = Some (a, b)
two_only a b (Some c) = None

abbrev pub two_of : Items → Option (Data × Data)
two_of items = option_and_then (λ a. option_and_then (λ b. two_only a b (get_item 2 items)) (get_item 1 items)) (get_item 0 items)

abbrev pub pair_in : List ℕ → Items → Read (List ℕ × List ℕ)
pair_in key items = do
  two ← of_kind key (two_of items)
  first ← text_of key (Some two.0)
  second ← text_of key (Some two.1)
  Ok (first, second)

abbrev pub pairs_in : List ℕ → Items → Read (List (List ℕ × List ℕ))
pairs_in key no_items = Ok []
pairs_in key (item value rest) = do
  items ← array_of key (Some value)
  pair ← pair_in key items
  pairs ← pairs_in key rest
  Ok (pair ∷ pairs)

-- ---- the keys of a policy

abbrev pub flows_of : Option Data → Read (List (List ℕ × List ℕ))
flows_of None = Ok []
flows_of (Some value) = do
  items ← array_of (codes "flows") (Some value)
  pairs_in (codes "flows") items

abbrev pub observers_of : Option Data → Read (Option (List (List ℕ)))
observers_of None = Ok None
observers_of (Some value) = do
  texts ← some_texts (codes "observers") (Some value)
  Ok (Some texts)

abbrev pub contexts_named : List ℕ → Option ContextsKey
contexts_named text =
    if bytes_eq text (codes "none") then Some NoContext
    else (if bytes_eq text (codes "object1") then Some Object1 else (if bytes_eq text (codes "object2") then Some Object2 else None))

abbrev pub contexts_of : Option Data → Read ContextsKey
contexts_of None = Ok Object1
contexts_of (Some value) = of_kind (codes "contexts") (option_and_then contexts_named (as_str value))

-- ---- the tables of labels

-- a table, where no key stands for an empty one
abbrev pub table_of : List ℕ → Option Data → Read Members
table_of key None = Ok no_members
table_of key (Some value) = of_kind key (as_table value)

abbrev pub label_at : LabelTable → List ℕ → NamedLabel
label_at Sources level = Source level
label_at Sinks level = Sink level

-- the methods of a table, each with its level
abbrev pub labels_in : LabelTable → Members → Read (List WrittenLabel)
labels_in table no_members = Ok []
labels_in table (member key value rest) = do
  level ← text_of key (Some value)
  more ← labels_in table rest
  Ok (record { method = key; label = label_at table level } ∷ more)

unfoldable pub release_of : List ℕ → Data → Read NamedLabel
release_of key value = do
  table ← of_kind key (as_table value)
  from ← text_of (codes "from") (get_member (codes "from") table)
  to ← text_of (codes "to") (get_member (codes "to") table)
  nothing ← no_other ReleaseKeys table
  Ok (Release from to)

abbrev pub releases_in : Members → Read (List WrittenLabel)
releases_in no_members = Ok []
releases_in (member key value rest) = do
  label ← release_of key value
  more ← releases_in rest
  Ok (record { method = key; label = label } ∷ more)

abbrev pub name_of : LabelTable → List ℕ
name_of Sources = codes "sources"
name_of Sinks = codes "sinks"

abbrev pub labels_of : LabelTable → Members → Read (List WrittenLabel)
labels_of table tree = do
  labels ← table_of (name_of table) (get_member (name_of table) tree)
  labels_in table labels

abbrev pub releases_of : Members → Read (List WrittenLabel)
releases_of tree = do
  labels ← table_of (codes "releases") (get_member (codes "releases") tree)
  releases_in labels

-- ---- the policy

abbrev pub written_of : Members → Read WrittenPolicy
written_of tree = do
  levels ← some_texts (codes "levels") (get_member (codes "levels") tree)
  flows ← flows_of (get_member (codes "flows") tree)
  observers ← observers_of (get_member (codes "observers") tree)
  contexts ← contexts_of (get_member (codes "contexts") tree)
  entry ← text_of (codes "entry") (get_member (codes "entry") tree)
  labels ← behind [] (labels_of Sources tree)
  labels ← behind labels (labels_of Sinks tree)
  labels ← behind labels (releases_of tree)
  nothing ← no_other Policy tree
  Ok (record { levels = levels; flows = flows; observers = observers; contexts = contexts; entry = entry; labels = labels })
