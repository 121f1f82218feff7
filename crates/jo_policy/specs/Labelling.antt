-- The labels of a program's methods (this project's own). Each thing that may be wrong is a test of one
-- label or method, and the first in order for which it holds is the fault: labels in the order of the
-- tables, in a table in the order of keys.
use Rattle.std.specs.Prelude.{ℕ, suc, Bool, true, false, not, ◌&&◌, ◌==◌, if◌then◌else◌, List, [], ◌∷◌, length, map, Option, Some, None, is_none, option_map, option_and_then, Ok, find, slice_get}
use Rattle.std.specs.List.{list_any}
use Rattle.std.specs.Str.{bytes_eq}
use Rattle.jo_insn.specs.AccessFlags.{has_flag, static_flag, native_flag}
use Rattle.jo_prog.specs.declared.labels.Label.{Label}
use Rattle.jo_prog.specs.declared.labels.Label.TheVariants.{Source, Sink, Release}
use Rattle.jo_prog.specs.declared.program.Program.{Program}
use Rattle.jo_prog.specs.declared.program.Method.{Method}
use Rattle.jo_prog.specs.FileClasses.{is_of_files}
use Rattle.jo_prog.specs.Labels.{label_among}
use Rattle.jo_prog.specs.Numbers.{count_from}
use Rattle.jo_prog.specs.PlainCode.{desc_for}
use Rattle.jo_prog.specs.Program.{method_at}
use Rattle.policy_tree.specs.declared.faults.PolicyFault.TheVariants.{MissingMethod, TwiceLabelled, WrongShape, UnlabelledNative, ReleaseUpward}
use Rattle.policy_tree.specs.Outcomes.{◌>>=◌, or_fault, refused}
use Rattle.policy_tree.specs.PolicyTree.{Read}
use Rattle.jo_policy.specs.declared.numbering.NumberedLabel.{NumberedLabel}
use Rattle.jo_policy.specs.FileMethods.{method_named}

abbrev pub Item : Type 0
Item = ℕ × Label

-- the methods that the labels spell, each with its label; a spelling that no method of the files has is a fault
abbrev pub placed_by : Program → List NumberedLabel → Read (List Item)
placed_by program [] = Ok []
placed_by program (label ∷ labels) = do
  method ← or_fault (MissingMethod label.method) (method_named program label.method)
  more ← placed_by program labels
  Ok ((method, label.label) ∷ more)

-- the first method that stands in a later table, too: in one table no key stands twice
abbrev pub first_twice : List Item → Option ℕ
first_twice [] = None
first_twice (item ∷ items) =
    if list_any (λ (other : Item). other.0 == item.0) items then Some item.0 else first_twice items

-- the method is a static native of its label's descriptor
abbrev pub fits_label : Method → Label → Bool
fits_label m label = has_flag static_flag m.flags && (has_flag native_flag m.flags && (is_none m.code && bytes_eq m.desc (desc_for label)))

abbrev pub misshapen_by : Option Method → Label → Bool
misshapen_by None label = true
misshapen_by (Some method) label = not (fits_label method label)

abbrev pub is_misshapen : Program → Item → Bool
is_misshapen program item = misshapen_by (method_at program item.0) item.1

abbrev pub method_of : Option Item → Option ℕ
method_of found = option_map (λ (item : Item). item.0) found

abbrev pub first_misshapen : Program → List Item → Option ℕ
first_misshapen program placed = method_of (find (is_misshapen program) placed)

-- a native method of the files without a label
abbrev pub is_unlabelled : Program → Method → Option Label → Bool
is_unlabelled program method label =
    is_of_files program method && (has_flag native_flag method.flags && is_none label)

-- the first of these methods that is one, where the methods have numbers from a first one on
abbrev pub unlabelled_from : Program → (ℕ → Option Label) → ℕ → List Method → Option ℕ
unlabelled_from program label n [] = None
unlabelled_from program label n (method ∷ methods) =
    if is_unlabelled program method (label n) then Some n else unlabelled_from program label (suc n) methods

abbrev pub first_unlabelled : Program → List Item → Option ℕ
first_unlabelled program placed =
    unlabelled_from program (label_among placed) 0 program.methods

-- a release whose `to` doesn't flow to its `from`
abbrev pub is_upward : (ℕ → ℕ → Bool) → Label → Bool
is_upward flows (Source level) = false
is_upward flows (Sink level) = false
is_upward flows (Release from to) = not (flows to from)

abbrev pub first_upward : (ℕ → ℕ → Bool) → List Item → Option ℕ
first_upward flows placed = method_of (find (λ (item : Item). is_upward flows item.1) placed)

-- the label of each method below a count, by the first item that names it
abbrev pub table_of : ℕ → List Item → List (Option Label)
table_of count placed = map (label_among placed) (count_from 0 count)

abbrev pub table_at : List (Option Label) → ℕ → Option Label
table_at table method = option_and_then (λ label. label) (slice_get table method)

abbrev pub with_label : ℕ → Option Label → List (ℕ × Label) → List (ℕ × Label)
with_label number None items = items
with_label number (Some label) items = (number, label) ∷ items

-- the methods with a label, in order, where the labels begin with that of a first method
abbrev pub ordered_from : ℕ → List (Option Label) → List Item
ordered_from first [] = []
ordered_from first (label ∷ labels) = with_label first label (ordered_from (suc first) labels)

-- the labelled methods in order
abbrev pub labelled_of : (ℕ → ℕ → Bool) → Program → List NumberedLabel → Read (List Item)
labelled_of flows program labels = do
  placed ← placed_by program labels
  nothing ← refused TwiceLabelled (first_twice placed)
  nothing ← refused WrongShape (first_misshapen program placed)
  nothing ← refused UnlabelledNative (first_unlabelled program placed)
  nothing ← refused ReleaseUpward (first_upward flows placed)
  Ok (ordered_from 0 (table_of (length program.methods) placed))
