-- What the TOML tree of a run file says (this project's own). A part that isn't there, or isn't of its kind, is a fault; a number
-- out of its range is none.
use Rattle.std.specs.Prelude.{◌≡◌, ℕ, ℤ, pos, negsuc, ◌^◌, ◌-ℤ◌, not, ◌&&◌, nat_le, int_lt, if◌then◌else◌, List, [], ◌∷◌, Option, Some, None, option_map, option_and_then, Result, Ok, Err, find, codes}
use Rattle.toml.specs.Data.{Data, Items, no_items, item, Members, no_members, member, get_member, as_integer, as_array, as_table}
use Rattle.policy_tree.specs.declared.keys.KeySet.TheVariants.{Run}
use Rattle.policy_tree.specs.declared.runs.RunFileFault.{RunFileFault}
use Rattle.policy_tree.specs.declared.runs.RunFileFault.TheVariants.{Key, Memory}
use Rattle.policy_tree.specs.declared.runs.WrittenInput.{WrittenInput}
use Rattle.policy_tree.specs.declared.runs.WrittenRun.{WrittenRun}
use Rattle.policy_tree.specs.Outcomes.{◌>>=◌}
use Rattle.policy_tree.specs.TreeKeys.{keys_of, is_known}

abbrev pub RunRead : Type 0 → Type 0
RunRead A = Result A RunFileFault

-- a value, or else the fault of its key
abbrev pub key_or : {A : Type 0} → Option A → RunRead A
key_or None = Err Key
key_or (Some x) = Ok x

-- ---- numbers

-- a number from 0 to the most
abbrev pub natural_in : ℕ → ℤ → Option ℕ
natural_in most (pos n) = if nat_le n most then Some n else None
natural_in most (negsuc n) = None

-- a number of 32 bits
abbrev pub int_in : ℤ → Option ℤ
int_in z = if not (int_lt z (pos 0 -ℤ pos (2 ^ 31))) && int_lt z (pos (2 ^ 31)) then Some z else None

abbrev pub naturals_in : Items → RunRead (List (Option ℕ))
naturals_in no_items = Ok []
naturals_in (item value rest) = do
  number ← key_or (option_and_then as_integer (Some value))
  more ← naturals_in rest
  Ok (natural_in 2147483647 number ∷ more)

abbrev pub ints_in : Items → RunRead (List (Option ℤ))
ints_in no_items = Ok []
ints_in (item value rest) = do
  number ← key_or (option_and_then as_integer (Some value))
  more ← ints_in rest
  Ok (int_in number ∷ more)

-- ---- the keys of a run file

abbrev pub steps_of : Members → RunRead (Option ℕ)
steps_of tree = do
  number ← key_or (option_and_then as_integer (get_member (codes "steps") tree))
  Ok (natural_in 10000000 number)

abbrev pub schedule_of : Option Data → RunRead (List (Option ℕ))
schedule_of None = Ok []
schedule_of (Some value) = do
  items ← key_or (as_array value)
  naturals_in items

abbrev pub inputs_in : Members → RunRead (List WrittenInput)
inputs_in no_members = Ok []
inputs_in (member key value rest) = do
  items ← key_or (as_array value)
  values ← ints_in items
  more ← inputs_in rest
  Ok (record { source = key; values = values } ∷ more)

abbrev pub inputs_of : Option Data → RunRead (List WrittenInput)
inputs_of None = Ok []
inputs_of (Some value) = do
  table ← key_or (as_table value)
  inputs_in table

abbrev pub nothing_or_key : Option (List ℕ) → RunRead (Unit {0})
nothing_or_key None = Ok tt
nothing_or_key (Some key) = Err Key

abbrev pub no_other_run_key : Members → RunRead (Unit {0})
no_other_run_key tree = nothing_or_key (find (λ key. not (is_known Run key)) (keys_of tree))

abbrev pub written_run : Members → RunRead WrittenRun
written_run tree = do
  steps ← steps_of tree
  schedule ← schedule_of (get_member (codes "schedule") tree)
  inputs ← inputs_of (get_member (codes "inputs") tree)
  nothing ← no_other_run_key tree
  Ok (record { steps = steps; schedule = schedule; inputs = inputs })

-- ---- answers

-- a fault is that of reading; want of memory says nothing
abbrev pub RunFails : {Y : Type 0} → RunFileFault → RunRead Y → Type 0
RunFails Memory read = Unit {0}
RunFails fault read = read ≡ Err fault

-- what a reader returned, seen by view, is what reading gives
abbrev pub RunGives : {X Y : Type 0} → (X → Y) → RunRead X → RunRead Y → Type 0
RunGives view (Ok x) read = read ≡ Ok (view x)
RunGives view (Err fault) read = RunFails fault read
