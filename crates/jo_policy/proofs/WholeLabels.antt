-- A policy without a fault labels its program well.
use Rattle.std.proofs.Common.{◌≡◌, ℕ, zero, suc, ◌+◌, ◌<◌, ◌==◌, ◌&&◌, Bool, true, false, not, cond, List, [], ◌∷◌, length, map, Option, Some, None, IfSome, IsSome, is_some, is_none, refl, sym, ap, ◌∙◌, subst, arith}
use Rattle.std.specs.Prelude.{Result, Ok, Err, IfOk, find, option_and_then}
use Rattle.std.specs.List.{AllByRecursion, list_any, slice_get}
use Rattle.std.specs.List.Sorted.{IsStrictlyIncreasing}
use Rattle.std.specs.Str.{bytes_eq}
use Rattle.std.proofs.lemmas.Bool.{and_parts, false≢true}
use Rattle.std.proofs.lemmas.Bool.Decides.{nat_tests}
use Rattle.std.proofs.lemmas.Slice.Eq.{bytes_eq-Decides}
use Rattle.std.proofs.lemmas.Option.{IfSome_then, slice_get_within}
use Rattle.jo_insn.specs.AccessFlags.{has_flag, static_flag, native_flag}
use Rattle.jo_order.specs.Orders.{GiveOrder}
use Rattle.jo_prog.specs.declared.labels.Label.{Label}
use Rattle.jo_prog.specs.declared.labels.Label.TheVariants.{Source, Sink, Release}
use Rattle.jo_prog.specs.declared.labels.Labels.{Labels}
use Rattle.jo_prog.specs.declared.program.Program.{Program}
use Rattle.jo_prog.specs.declared.program.Method.{Method}
use Rattle.jo_prog.specs.declared.program.Code.{Code}
use Rattle.jo_prog.specs.FileClasses.{is_of_files}
use Rattle.jo_prog.specs.Labels.{label_among, flows_by}
use Rattle.jo_prog.specs.Numbers.{count_from}
use Rattle.jo_prog.specs.PlainCode.{IsLabelledNative, IsEntry, IsWellLabelled, is_release, is_entry_desc, HasGoodLevels, desc_for}
use Rattle.jo_prog.specs.Program.{method_at}
use Rattle.jo_prog.specs.Starts.{first_start}
use Rattle.policy_tree.specs.declared.faults.PolicyFault.{PolicyFault}
use Rattle.policy_tree.specs.declared.faults.PolicyFault.TheVariants.{Entry, TwiceLabelled, WrongShape, UnlabelledNative, ReleaseUpward, MissingMethod, UnknownLevel}
use Rattle.policy_tree.specs.declared.written.NamedLabel.{NamedLabel}
use Rattle.policy_tree.specs.declared.written.NamedLabel.TheVariants as named
use Rattle.policy_tree.specs.declared.written.WrittenLabel.{WrittenLabel}
use Rattle.policy_tree.specs.declared.written.WrittenPolicy.{WrittenPolicy}
use Rattle.policy_tree.specs.Outcomes.{◌>>=◌, or_fault, refused}
use Rattle.jo_policy.specs.declared.numbering.NumberedPolicy.{NumberedPolicy}
use Rattle.jo_policy.specs.declared.numbering.NumberedLabel.{NumberedLabel}
use Rattle.jo_policy.specs.FileMethods.{is_spelled, is_entry, entry_with, named_from, method_named, entry_named}
use Rattle.jo_policy.specs.Labelling.{Item, fits_label, with_label, placed_by, labelled_of, first_twice, first_misshapen, misshapen_by, is_misshapen, first_unlabelled, is_unlabelled, first_upward, is_upward, unlabelled_from, table_of, ordered_from, method_of}
use Rattle.jo_policy.specs.Numbering.{place_from, level_named, levels_numbered, observers_numbered, label_numbered, labels_numbered, pairs_numbered, numbered_of}
use Rattle.jo_policy.specs.Policies.{labels_of, labels_with}
use Rattle.jo_policy.specs.Threads.{start_beside, with_threads}
use Rattle.jo_policy.proofs.OrderedLevels.{names_apart, no_mutual, pairs_known}
use Rattle.jo_policy.proofs.PolicyParts.{if_then_some, place_from-below, count_from-below, Ascends, ascends_before, in_order}
use Rattle.jo_policy.proofs.Tables.{ok_then, at_ok, label_in_order, table_at-among}

-- ---- a reader that answers Ok

pub bind_ok : {A B : Type 0} (read : Result A PolicyFault) (f : A → Result B PolicyFault) (y : B) → read >>= f ≡ Ok y → (x : A) × (read ≡ Ok x) × (f x ≡ Ok y)
bind_ok (Err fault) f y e = absurd (cc)
bind_ok (Ok x) f y e = (x, refl, e)

refused_ok : {X : Type 0} (fault : X → PolicyFault) (o : Option X) (u : Unit {0}) → refused fault o ≡ Ok u → o ≡ None
refused_ok fault None u e = refl
refused_ok fault (Some x) u e = absurd (cc)

or_fault_found : {X : Type 0} (fault : PolicyFault) (o : Option X) (x : X) → or_fault fault o ≡ Ok x → o ≡ Some x
or_fault_found fault None x e = absurd (cc)
or_fault_found fault (Some y) x e = let same : y ≡ x = cc in ap Some same

-- what a program's labels are made of
pub record IsMadeOf (flows : ℕ → ℕ → Bool) (program : Program) (labels : List NumberedLabel) (labelled : List Item) : Type 0 where
  pub placed : List Item
  pub are_placed : placed_by program labels ≡ Ok placed
  pub shaped : first_misshapen program placed ≡ None
  pub each_labelled : first_unlabelled program placed ≡ None
  pub down : first_upward flows placed ≡ None
  pub is : ordered_from 0 (table_of (length program.methods) placed) ≡ labelled

same_ok : {A : Type 0} (x y : A) → (let read : Result A PolicyFault = Ok x in read) ≡ Ok y → x ≡ y
same_ok x y e = cc

pub made_of : (flows : ℕ → ℕ → Bool) (program : Program) (labels : List NumberedLabel) (labelled : List Item) → labelled_of flows program labels ≡ Ok labelled
    → IsMadeOf flows program labels labelled
made_of flows program labels labelled e =
    let (placed, is, e1) = bind_ok (placed_by program labels) _ labelled e in
    let (u1, twice, e2) = bind_ok (refused TwiceLabelled (first_twice placed)) _ labelled e1 in
    let (u2, shaped, e3) = bind_ok (refused WrongShape (first_misshapen program placed)) _ labelled e2 in
    let (u3, each, e4) = bind_ok (refused UnlabelledNative (first_unlabelled program placed)) _ labelled e3 in
    let (u4, down, e5) = bind_ok (refused ReleaseUpward (first_upward flows placed)) _ labelled e4 in
    record {
      placed = placed;
      are_placed = is;
      shaped = refused_ok WrongShape (first_misshapen program placed) u2 shaped;
      each_labelled = refused_ok UnlabelledNative (first_unlabelled program placed) u3 each;
      down = refused_ok ReleaseUpward (first_upward flows placed) u4 down;
      is = same_ok _ labelled e5;
    }

-- ---- numbers of levels

abbrev pub HasLevels : ℕ → Label → Type 0
HasLevels count (Source level) = level < count
HasLevels count (Sink level) = level < count
HasLevels count (Release from to) = (from < count) × (to < count)

or_fault_all : (P : ℕ → Type 0) (fault : PolicyFault) (o : Option ℕ) → IfSome o P → IfOk (or_fault fault o) P
or_fault_all P fault None p = tt
or_fault_all P fault (Some x) p = p

level_below : (levels : List (List ℕ)) (name : List ℕ) → IfOk (level_named levels name) (λ n. n < length levels)
level_below levels name =
    or_fault_all (λ n. n < length levels) (UnknownLevel name) (place_from 0 levels name)
    (IfSome_then (place_from 0 levels name) (place_from-below 0 levels name) (λ n below. omega arith))

levels_below : (levels names : List (List ℕ)) → IfOk (levels_numbered levels names) (AllByRecursion (λ n. n < length levels))
levels_below levels [] = tt
levels_below levels (name ∷ names) =
    ok_then (λ n. n < length levels) (AllByRecursion (λ n. n < length levels)) (level_named levels name) _ (level_below levels name)
    (λ n below. ok_then (AllByRecursion (λ n. n < length levels)) (AllByRecursion (λ n. n < length levels)) (levels_numbered levels names) _ (levels_below levels names) (λ more all. (below, all)))

observers_below : (levels : List (List ℕ)) (observers : Option (List (List ℕ))) → IfOk (observers_numbered levels observers) (AllByRecursion (λ n. n < length levels))
observers_below levels None = count_from-below 0 (length levels) (length levels) (omega arith)
observers_below levels (Some names) = levels_below levels names

label_below : (levels : List (List ℕ)) (label : NamedLabel) → IfOk (label_numbered levels label) (HasLevels (length levels))
unfolding label_numbered
label_below levels (named.Source name) = ok_then (λ n. n < length levels) (HasLevels (length levels)) (level_named levels name) _ (level_below levels name) (λ n below. below)
label_below levels (named.Sink name) = ok_then (λ n. n < length levels) (HasLevels (length levels)) (level_named levels name) _ (level_below levels name) (λ n below. below)
label_below levels (named.Release from to) =
    ok_then (λ n. n < length levels) (HasLevels (length levels)) (level_named levels from) _ (level_below levels from)
    (λ n below. ok_then (λ n. n < length levels) (HasLevels (length levels)) (level_named levels to) _ (level_below levels to) (λ m under. (below, under)))

abbrev pub HaveLevels : ℕ → List NumberedLabel → Type 0
HaveLevels count labels = AllByRecursion (λ (l : NumberedLabel). HasLevels count l.label) labels

labels_below : (levels : List (List ℕ)) (labels : List WrittenLabel) → IfOk (labels_numbered levels labels) (HaveLevels (length levels))
labels_below levels [] = tt
labels_below levels (label ∷ labels) =
    ok_then (HasLevels (length levels)) (HaveLevels (length levels)) (label_numbered levels label.label) _ (label_below levels label.label)
    (λ l has. ok_then (HaveLevels (length levels)) (HaveLevels (length levels)) (labels_numbered levels labels) _ (labels_below levels labels) (λ more all. (has, all)))

-- the numbers of a policy are there
pub record HasNumbers (count : ℕ) (numbered : NumberedPolicy) : Type 0 where
  pub observers : AllByRecursion (λ n. n < count) numbered.observers
  pub labels : HaveLevels count numbered.labels

pub numbers_there : (written : WrittenPolicy) (numbered : NumberedPolicy) → numbered_of written ≡ Ok numbered → HasNumbers (length written.levels) numbered
numbers_there written numbered e =
    let (flows, is_flows, e1) = bind_ok (pairs_numbered written.levels written.flows) _ numbered e in
    let (observers, is_observers, e2) = bind_ok (observers_numbered written.levels written.observers) _ numbered e1 in
    let (labels, is_labels, e3) = bind_ok (labels_numbered written.levels written.labels) _ numbered e2 in
    let same : record { flows = flows; observers = observers; labels = labels } ≡ numbered = same_ok _ numbered e3 in
    subst (HasNumbers (length written.levels)) same (record {
      observers = at_ok (AllByRecursion (λ n. n < length written.levels)) (observers_numbered written.levels written.observers) observers (observers_below written.levels written.observers) is_observers;
      labels = at_ok (HaveLevels (length written.levels)) (labels_numbered written.levels written.labels) labels (labels_below written.levels written.labels) is_labels;
    })

-- ---- methods of the files

abbrev pub NamedAt : Program → List Method → ℕ → ℕ → Type 0
NamedAt program methods n m = (k : ℕ) × (m ≡ n + k) × IfSome (slice_get methods k) (λ method. is_of_files program method ≡ true)

named_files : (program : Program) (text : List ℕ) (n : ℕ) (methods : List Method) → IfSome (named_from program text n methods) (NamedAt program methods n)
named_files program text n [] = tt
named_files program text n (x ∷ xs) =
    if_then_some (NamedAt program (x ∷ xs) n) (is_spelled program text x) (Some n) (named_from program text (suc n) xs)
    (λ spelled. (0, omega arith, (and_parts (is_of_files program x) _ spelled).0))
    (IfSome_then (named_from program text (suc n) xs) (named_files program text (suc n) xs) (λ m at. (suc at.0, omega (arith, at.1), at.2)))

-- a method of the files has this number
abbrev pub IsOfFilesAt : Program → ℕ → Type 0
IsOfFilesAt program m = IfSome (method_at program m) (λ method. is_of_files program method ≡ true)

named_of_files : (program : Program) (text : List ℕ) → IfSome (method_named program text) (IsOfFilesAt program)
named_of_files program text =
    IfSome_then (method_named program text) (named_files program text 0 program.methods)
    (λ m at. let same : at.0 ≡ m = omega (arith, at.1) in subst (IsOfFilesAt program) same at.2)

or_fault_some : (P : ℕ → Type 0) (fault : PolicyFault) (o : Option ℕ) → IfSome o P → IfOk (or_fault fault o) P
or_fault_some P fault None p = tt
or_fault_some P fault (Some x) p = p

abbrev pub ItemOfFiles : Program → Item → Type 0
ItemOfFiles program item = IsOfFilesAt program item.0

placed_of_files : (program : Program) (labels : List NumberedLabel) → IfOk (placed_by program labels) (AllByRecursion (ItemOfFiles program))
placed_of_files program [] = tt
placed_of_files program (label ∷ labels) =
    ok_then (IsOfFilesAt program) (AllByRecursion (ItemOfFiles program)) (or_fault (MissingMethod label.method) (method_named program label.method)) _
    (or_fault_some (IsOfFilesAt program) (MissingMethod label.method) (method_named program label.method) (named_of_files program label.method))
    (λ m files. ok_then (AllByRecursion (ItemOfFiles program)) (AllByRecursion (ItemOfFiles program)) (placed_by program labels) _ (placed_of_files program labels) (λ more all. (files, all)))

-- ---- each labelled method

abbrev pub ItemHasLevels : ℕ → Item → Type 0
ItemHasLevels count item = HasLevels count item.1

placed_levels : (count : ℕ) (program : Program) (labels : List NumberedLabel) → HaveLevels count labels → IfOk (placed_by program labels) (AllByRecursion (ItemHasLevels count))
placed_levels count program [] h = tt
placed_levels count program (label ∷ labels) h =
    ok_then (λ m. Unit {0}) (AllByRecursion (ItemHasLevels count)) (or_fault (MissingMethod label.method) (method_named program label.method)) _ (any_number _)
    (λ m _. ok_then (AllByRecursion (ItemHasLevels count)) (AllByRecursion (ItemHasLevels count)) (placed_by program labels) _ (placed_levels count program labels h.1) (λ more all. (h.0, all)))
  where
    any_number : (read : Result ℕ PolicyFault) → IfOk read (λ m. Unit {0})
    any_number (Err fault) = tt
    any_number (Ok m) = tt

none_of : {X : Type 0} (test : X → Bool) (o : Option X) (x : X) (b : Bool) → cond b (Some x) o ≡ None → (b ≡ false) × (o ≡ None)
none_of test o x true e = absurd (cc)
none_of test o x false e = (refl, e)

all_pass : {X : Type 0} (test : X → Bool) (xs : List X) → find test xs ≡ None → AllByRecursion (λ x. test x ≡ false) xs
all_pass test [] e = tt
all_pass test (x ∷ xs) e = let parts = none_of test (find test xs) x (test x) e in (parts.0, all_pass test xs parts.1)

no_method : (o : Option Item) → method_of o ≡ None → o ≡ None
no_method None e = refl
no_method (Some x) e = absurd (cc)

both : {X : Type 0} (P Q : X → Type 0) (xs : List X) → AllByRecursion P xs → AllByRecursion Q xs → AllByRecursion (λ x. P x × Q x) xs
both P Q [] p q = tt
both P Q (x ∷ xs) p q = ((p.0, q.0), both P Q xs p.1 q.1)

-- what holds of each placed label holds of each label that is found
first_holds : (P : Item → Type 0) (b : Bool) (item : Item) (m : ℕ) (more : Option Label) → (b ≡ true → item.0 ≡ m) → P item → IfSome more (λ l. P (m, l)) → IfSome (cond b (Some item.1) more) (λ l. P (m, l))
first_holds P true item m more same p q = let is : item.0 ≡ m = same refl in subst (λ n. P (n, item.1)) is p
first_holds P false item m more same p q = q

number_is : (a b : ℕ) → (a == b) ≡ true → a ≡ b
number_is a b e = grind (arith, nat_tests)

found_holds : (P : Item → Type 0) (items : List Item) (m : ℕ) → AllByRecursion P items → IfSome (label_among items m) (λ l. P (m, l))
found_holds P [] m all = tt
found_holds P (item ∷ items) m all = first_holds P (item.0 == m) item m (label_among items m) (λ e. number_is item.0 m e) all.0 (found_holds P items m all.1)

with_holds : (P : Item → Type 0) (first : ℕ) (o : Option Label) (more : List Item) → IfSome o (λ l. P (first, l)) → AllByRecursion P more → AllByRecursion P (with_label first o more)
with_holds P first None more p all = all
with_holds P first (Some l) more p all = (p, all)

ordered_holds : (P : Item → Type 0) (items : List Item) (first n : ℕ) → AllByRecursion P items → AllByRecursion P (ordered_from first (map (label_among items) (count_from first n)))
ordered_holds P items first zero all = tt
ordered_holds P items first (suc n) all = with_holds P first (label_among items first) _ (found_holds P items first all) (ordered_holds P items (suc first) n all)

ordered_ascends : (first : ℕ) (labels : List (Option Label)) → Ascends first (ordered_from first labels)
ordered_ascends first [] = tt
ordered_ascends first (None ∷ labels) = ascends_before first (ordered_from (suc first) labels) (ordered_ascends (suc first) labels)
ordered_ascends first (Some l ∷ labels) = (omega arith, ordered_ascends (suc first) labels)

-- ---- one labelled method

not_not : (b : Bool) → not b ≡ false → b ≡ true
not_not true e = refl
not_not false e = absurd (false≢true (sym e))

no_code : (code : Option Code) → is_none code ≡ true → code ≡ None
no_code None e = refl
no_code (Some code) e = absurd (false≢true e)

good_levels : (labels : Labels) (label : Label) → HasLevels (length labels.levels) label → is_upward (flows_by labels.flows) label ≡ false → HasGoodLevels labels label
good_levels labels (Source level) h u = h
good_levels labels (Sink level) h u = h
good_levels labels (Release from to) h u = (h.0, h.1, not_not (flows_by labels.flows to from) u)

native_by : (program : Program) (labels : Labels) (item : Item) (o : Option Method) → method_at program item.0 ≡ o → IfSome o (λ method. is_of_files program method ≡ true) → is_misshapen program item ≡ false → HasLevels (length labels.levels) item.1
    → is_upward (flows_by labels.flows) item.1 ≡ false → IsLabelledNative program labels item
native_by program labels item None found files fits has down =
    let other : true ≡ false = subst (λ (o : Option Method). misshapen_by o item.1 ≡ false) found fits in absurd (cc)
native_by program labels item (Some method) found files fits has down =
    let shape : fits_label method item.1 ≡ true = not_not _ (subst (λ (o : Option Method). misshapen_by o item.1 ≡ false) found fits) in
    let (is_static, rest) = and_parts (has_flag static_flag method.flags) _ shape in
    let (is_native, more) = and_parts (has_flag native_flag method.flags) _ rest in
    let (without_code, desc) = and_parts (is_none method.code) (bytes_eq method.desc (desc_for item.1)) more in
    record {
      method = method;
      found = found;
      files = files;
      is_static = is_static;
      is_native = is_native;
      no_code = no_code method.code without_code;
      shape = (bytes_eq-Decides method.desc (desc_for item.1)).0 desc;
      levels = good_levels labels item.1 has down;
    }

weaker : {X : Type 0} (P Q : X → Type 0) (xs : List X) → ((x : X) → P x → Q x) → AllByRecursion P xs → AllByRecursion Q xs
weaker P Q [] f h = tt
weaker P Q (x ∷ xs) f h = (f x h.0, weaker P Q xs f h.1)

-- ---- each native method of the files

unlabelled_none : (program : Program) (label : ℕ → Option Label) (n m k : ℕ) (methods : List Method) (method : Method) → unlabelled_from program label n methods ≡ None → slice_get methods k ≡ Some method
    → m ≡ n + k → is_unlabelled program method (label m) ≡ false
unlabelled_none program label n m k [] method e found at = absurd (cc)
unlabelled_none program label n m zero (x ∷ xs) method e found at =
    let same : x ≡ method = cc in
    let here : n ≡ m = omega arith in
    let parts = none_of (λ (k : ℕ). true) (unlabelled_from program label (suc n) xs) n (is_unlabelled program x (label n)) e in
    subst (λ (k : ℕ). is_unlabelled program method (label k) ≡ false) here (subst (λ (y : Method). is_unlabelled program y (label n) ≡ false) same parts.0)
unlabelled_none program label n m (suc k) (x ∷ xs) method e found at =
    let parts = none_of (λ (k : ℕ). true) (unlabelled_from program label (suc n) xs) n (is_unlabelled program x (label n)) e in
    unlabelled_none program label (suc n) m k xs method parts.1 found (omega arith)

is_labelled : (files native : Bool) (label : Option Label) → (files && (native && is_none label)) ≡ false → files ≡ true → native ≡ true → IsSome label
is_labelled files native (Some label) e f n = refl
is_labelled true true None e f n = absurd (false≢true (sym e))
is_labelled true false None e f n = absurd (false≢true n)
is_labelled false native None e f n = absurd (false≢true f)

-- ---- the entry

entry_of_method : (program : Program) (m entry : ℕ) (method : Method) (b : Bool) → method_at program m ≡ Some method → is_of_files program method ≡ true → is_entry method ≡ b
    → cond b (Some m) None ≡ Some entry → IsEntry program entry
entry_of_method program m entry method true found files fits e =
    let same : m ≡ entry = cc in
    let (is_static, rest) = and_parts (has_flag static_flag method.flags) _ fits in
    let (has_code, shape) = and_parts (is_some method.code) (is_entry_desc method.desc) rest in
    subst (IsEntry program) same (record { method = method; found = found; files = files; is_static = is_static; has_code = has_code; shape = shape })
entry_of_method program m entry method false found files fits e = absurd (cc)

entry_by : (program : Program) (m entry : ℕ) (o : Option Method) → method_at program m ≡ o → IfSome o (λ method. is_of_files program method ≡ true) → entry_with m o ≡ Some entry
    → IsEntry program entry
entry_by program m entry None found files e = absurd (cc)
entry_by program m entry (Some method) found files e = entry_of_method program m entry method (is_entry method) found files refl e

entry_found : (program : Program) (text : List ℕ) (entry : ℕ) → entry_named program text ≡ Some entry → IsEntry program entry
entry_found program text entry e = go (method_named program text) (named_of_files program text) e
  where
    go : (o : Option ℕ) → IfSome o (IsOfFilesAt program) → option_and_then (λ m. entry_with m (method_at program m)) o ≡ Some entry → IsEntry program entry
    go None at e = absurd (cc)
    go (Some m) at e = entry_by program m entry (method_at program m) refl at e

-- ---- the policy

-- what holds of each placed label
abbrev Fits : Program → ℕ → (ℕ → ℕ → Bool) → Item → Type 0
Fits program count flows item = ((is_misshapen program item ≡ false) × HasLevels count item.1) × ((is_upward flows item.1 ≡ false) × ItemOfFiles program item)

placed_fit : (count : ℕ) (flows : ℕ → ℕ → Bool) (program : Program) (labels : List NumberedLabel) (labelled : List Item) (made : IsMadeOf flows program labels labelled)
    → HaveLevels count labels → AllByRecursion (Fits program count flows) made.placed
placed_fit count flows program labels labelled made has =
    both (λ item. (is_misshapen program item ≡ false) × HasLevels count item.1) (λ item. (is_upward flows item.1 ≡ false) × ItemOfFiles program item) made.placed
    (both (λ item. is_misshapen program item ≡ false) (ItemHasLevels count) made.placed
    (all_pass (is_misshapen program) made.placed (no_method (find (is_misshapen program) made.placed) made.shaped))
    (at_ok (AllByRecursion (ItemHasLevels count)) (placed_by program labels) made.placed (placed_levels count program labels has) made.are_placed))
    (both (λ item. is_upward flows item.1 ≡ false) (ItemOfFiles program) made.placed
    (all_pass (λ (item : Item). is_upward flows item.1) made.placed (no_method (find (λ (item : Item). is_upward flows item.1) made.placed) made.down))
    (at_ok (AllByRecursion (ItemOfFiles program)) (placed_by program labels) made.placed (placed_of_files program labels) made.are_placed))

native_found : (flows : ℕ → ℕ → Bool) (program : Program) (labels : List NumberedLabel) (labelled : List Item) → IsMadeOf flows program labels labelled
    → (m : ℕ) (method : Method) → method_at program m ≡ Some method → is_of_files program method ≡ true → has_flag native_flag method.flags ≡ true → IsSome (label_among labelled m)
native_found flows program labels labelled made m method found files native =
    let below = slice_get_within program.methods m method found in
    let none = unlabelled_none program (label_among made.placed) 0 m m program.methods method made.each_labelled found (omega arith) in
    let there : IsSome (label_among made.placed m) = is_labelled (is_of_files program method) (has_flag native_flag method.flags) (label_among made.placed m) none files native in
    let same : label_among made.placed m ≡ label_among labelled m =
    sym (table_at-among (length program.methods) made.placed m below) ∙ sym (label_in_order (table_of (length program.methods) made.placed) m) ∙ ap (λ ls. label_among ls m) made.is in
    subst (λ (o : Option Label). IsSome o) same there

releases_alone : (program : Program) (labelled : List Item) (b : Bool) → list_any is_release labelled ≡ b → start_beside labelled program ≡ None → b ≡ true → first_start program ≡ None
releases_alone program labelled true e none is = sym (ap (λ b. cond b (first_start program) None) e) ∙ none
releases_alone program labelled false e none is = absurd (false≢true is)

pub whole_labels : (program : Program) (written : WrittenPolicy) (numbered : NumberedPolicy) (labels : Labels) → GiveOrder written.levels numbered.flows → numbered_of written ≡ Ok numbered
    → labels_of program written numbered ≡ Ok labels → IsWellLabelled program labels
whole_labels program written numbered labels order known e =
    let there = numbers_there written numbered known in
    let (labelled, is_labelled, e1) = bind_ok (labelled_of (flows_by numbered.flows) program numbered.labels) _ labels e in
    let (entry, is_entry, e2) = bind_ok (or_fault Entry (entry_named program written.entry)) _ labels e1 in
    let (u, apart, e3) = bind_ok (refused with_threads (start_beside labelled program)) _ labels e2 in
    let made = made_of (flows_by numbered.flows) program numbered.labels labelled is_labelled in
    let made_labels = labels_with written numbered entry labelled in
    let fit = placed_fit (length written.levels) (flows_by numbered.flows) program numbered.labels labelled made there.labels in
    let fit_in_order = ordered_holds (Fits program (length written.levels) (flows_by numbered.flows)) made.placed 0 (length program.methods) fit in
    let same : made_labels ≡ labels = same_ok made_labels labels e3 in
    subst (IsWellLabelled program) same (record {
      distinct = names_apart written.levels order.distinct;
      few = order.few;
      pairs = pairs_known (length written.levels) numbered.flows order.known;
      no_cycle = no_mutual numbered.flows order.no_cycle;
      observers = there.observers;
      entry = entry_found program written.entry entry (or_fault_found Entry (entry_named program written.entry) entry is_entry);
      natives = subst (AllByRecursion (IsLabelledNative program made_labels)) made.is
          (weaker (Fits program (length written.levels) (flows_by numbered.flows)) (IsLabelledNative program made_labels) (ordered_from 0 (table_of (length program.methods) made.placed))
          (λ item fits. native_by program made_labels item (method_at program item.0) refl fits.1.1 fits.0.0 fits.0.1 fits.1.0) fit_in_order);
      in_order = subst (λ (items : List Item). IsStrictlyIncreasing (map (λ (item : Item). item.0) items)) made.is
          (in_order (ordered_from 0 (table_of (length program.methods) made.placed)) (ordered_ascends 0 (table_of (length program.methods) made.placed)));
      each_native = native_found (flows_by numbered.flows) program numbered.labels labelled made;
      releases = releases_alone program labelled (list_any is_release labelled) refl (refused_ok with_threads (start_beside labelled program) u apart);
    })
