-- Labels in a table by their methods.
use Rattle.std.proofs.Common.{◌≡◌, ℕ, zero, suc, ◌+◌, ◌-◌, ◌++◌, get_or, ◌<◌, ◌≤◌, ◌==◌, ◌||◌, Bool, true, false, cond, List, [], ◌∷◌, length, drop, map, Option, Some, None, IfSome, is_some, refl, sym, ap, ◌∙◌, subst, arith, append_assoc}
use Rattle.std.specs.List.{list_any, AllByRecursion}
use Rattle.std.specs.Prelude.{slice_set}
use Rattle.std.proofs.lemmas.Bool.Decides.{nat_tests}
use Rattle.policy_tree.specs.declared.faults.PolicyFault.{PolicyFault}
use Rattle.std.specs.Prelude.{Result, Ok, Err, IfOk}
use Rattle.policy_tree.specs.declared.faults.PolicyFault.TheVariants.{MissingMethod}
use Rattle.policy_tree.specs.Outcomes.{◌>>=◌, or_fault}
use Rattle.jo_prog.specs.declared.labels.Label.{Label}
use Rattle.jo_prog.specs.declared.program.Program.{Program}
use Rattle.jo_prog.specs.declared.program.Method.{Method}
use Rattle.jo_prog.specs.Labels.{label_among}
use Rattle.jo_prog.specs.Numbers.{count_from}
use Rattle.jo_policy.specs.FileMethods.{method_named}
use Rattle.jo_policy.specs.declared.numbering.NumberedLabel.{NumberedLabel}
use Rattle.jo_policy.specs.Labelling.{Item, placed_by, first_twice, table_of, table_at, unlabelled_from, is_unlabelled, ordered_from}
use Rattle.jo_policy.proofs.MethodEntries.{named_from-below}
use Rattle.jo_policy.proofs.PolicyParts.{count_from-step}
use Rattle.std.proofs.lemmas.List.{drop_more}

-- ---- reading a table

pub at_number : (f : ℕ → Option Label) (first n k m : ℕ) → k < n → m ≡ first + k → table_at (map f (count_from first n)) k ≡ f m
at_number f first zero k m below e = absurd (omega arith)
at_number f first (suc n) zero m below e = let same : first ≡ m = omega arith in ap f same
at_number f first (suc n) (suc k) m below e = at_number f (suc first) n k m (omega arith) (omega arith)

pub table_at-among : (count : ℕ) (items : List Item) (m : ℕ) → m < count → table_at (table_of count items) m ≡ label_among items m
table_at-among count items m below = at_number (label_among items) 0 count m m below (omega arith)

pub table_of-length : (f : ℕ → Option Label) (first n : ℕ) → length (map f (count_from first n)) ≡ n
table_of-length f first zero = refl
table_of-length f first (suc n) = ap suc (table_of-length f (suc first) n)

-- ---- writing it

pub one_none : (count i : ℕ) (old new : List (Option Label)) → i < count → new ≡ old ++ None ∷ [] → old ++ map (label_among []) (count_from i (count - i)) ≡ table_of count []
    → new ++ map (label_among []) (count_from (i + 1) (count - (i + 1))) ≡ table_of count []
one_none count i old new below is so_far =
    ap (λ t. t ++ map (label_among []) (count_from (i + 1) (count - (i + 1)))) is
    ∙ append_assoc old (None ∷ []) (map (label_among []) (count_from (i + 1) (count - (i + 1))))
    ∙ ap (λ ks. old ++ map (label_among []) ks) (sym (count_from-step i count below)) ∙ so_far

same_label : (item : Item) (items : List Item) (k : ℕ) → (item.0 ≡ k → ⊥) → label_among items k ≡ label_among (item ∷ items) k
same_label item items k other = grind (arith, nat_tests)

this_label : (item : Item) (items : List Item) (k : ℕ) → item.0 ≡ k → Some item.1 ≡ label_among (item ∷ items) k
this_label item items k same = grind (arith, nat_tests)

labels_behind : (item : Item) (items : List Item) (first n : ℕ) → item.0 < first → map (label_among items) (count_from first n) ≡ map (label_among (item ∷ items)) (count_from first n)
labels_behind item items first zero below = refl
labels_behind item items first (suc n) below =
    let here = same_label item items first (λ e. absurd (omega arith)) in
    ap (λ o. o ∷ map (label_among items) (count_from (suc first) n)) here
    ∙ ap (λ os. label_among (item ∷ items) first ∷ os) (labels_behind item items (suc first) n (omega arith))

pub label_entered : (item : Item) (items : List Item) (first n k : ℕ) → k < n → item.0 ≡ first + k
    → slice_set (map (label_among items) (count_from first n)) k (Some item.1) ≡ map (label_among (item ∷ items)) (count_from first n)
label_entered item items first zero k below e = absurd (omega arith)
label_entered item items first (suc n) zero below e =
    let same : item.0 ≡ first = omega arith in
    ap (λ o. o ∷ map (label_among items) (count_from (suc first) n)) (this_label item items first same)
    ∙ ap (λ os. label_among (item ∷ items) first ∷ os) (labels_behind item items (suc first) n (omega arith))
label_entered item items first (suc n) (suc k) below e =
    ap (λ o. o ∷ slice_set (map (label_among items) (count_from (suc first) n)) k (Some item.1)) (same_label item items first (λ same. absurd (omega arith)))
    ∙ ap (λ os. label_among (item ∷ items) first ∷ os) (label_entered item items (suc first) n k (omega arith) (omega arith))

is_among : (b : Bool) (label : Label) (more : Option Label) (any : Bool) → is_some more ≡ any → is_some (cond b (Some label) more) ≡ (b || any)
is_among true label more any h = refl
is_among false label more any h = h

pub labelled_among : (items : List Item) (m : ℕ) → is_some (label_among items m) ≡ list_any (λ (other : Item). other.0 == m) items
labelled_among [] m = refl
labelled_among (item ∷ items) m = is_among (item.0 == m) item.1 (label_among items m) _ (labelled_among items m)

-- ---- the loop, from the last label to the first

-- the labels from a place on are in the table
pub record IsEntered (count : ℕ) (placed : List Item) (i : ℕ) (table : List (Option Label)) (again : Option ℕ) : Type 0 where
  pub labels : table ≡ table_of count (drop i placed)
  pub twice : again ≡ first_twice (drop i placed)

drop_all : (items : List Item) (i : ℕ) → i ≡ length items → drop i items ≡ []
drop_all [] i e = let none : i ≡ 0 = omega arith in rw none refl
drop_all (x ∷ xs) zero e = absurd (omega arith)
drop_all (x ∷ xs) (suc i) e = drop_all xs i (omega arith)

pub entered_none : (count : ℕ) (placed : List Item) (i : ℕ) (table : List (Option Label)) → i ≡ length placed → table ≡ table_of count [] → IsEntered count placed i table None
entered_none count placed i table e is = record {
  labels = is ∙ ap (table_of count) (sym (drop_all placed i e));
  twice = ap first_twice (sym (drop_all placed i e));
}

pub entered_more : (count : ℕ) (placed : List Item) (i j : ℕ) (item : Item) (old new : List (Option Label)) (before after : Option ℕ) (again : Bool)
    → IsEntered count placed i old before → drop j placed ≡ item ∷ drop i placed → item.0 < count
    → again ≡ is_some (table_at old item.0) → new ≡ slice_set old item.0 (Some item.1) → after ≡ cond again (Some item.0) before → IsEntered count placed j new after
entered_more count placed i j item old new before after again so_far next below had set is = record {
  labels = set ∙ ap (λ t. slice_set t item.0 (Some item.1)) so_far.labels ∙ label_entered item (drop i placed) 0 count item.0 below (omega arith) ∙ ap (table_of count) (sym next);
  twice =
      let known : again ≡ list_any (λ (other : Item). other.0 == item.0) (drop i placed) =
      had ∙ ap (λ t. is_some (table_at t item.0)) so_far.labels ∙ ap is_some (table_at-among count (drop i placed) item.0 below) ∙ labelled_among (drop i placed) item.0 in
      is ∙ ap (λ t. cond again (Some item.0) t) so_far.twice ∙ ap (λ b. cond b (Some item.0) (first_twice (drop i placed))) known ∙ ap first_twice (sym next);
}

-- the item before a place, and those from the place on
pub item_before : (placed : List Item) (i : ℕ) (item : Item) → 0 < i → i ≤ length placed → item ≡ get_or placed (i - 1) item → drop (i - 1) placed ≡ item ∷ drop i placed
item_before placed i item some within at =
    let e : (i - 1) + 1 ≡ i = omega arith in
    drop_more placed (i - 1) item (omega arith) ∙ ap (λ x. x ∷ drop ((i - 1) + 1) placed) (sym at) ∙ ap (λ n. item ∷ drop n placed) e

each_below : (count : ℕ) (items : List Item) (j : ℕ) (item : Item) → AllByRecursion (λ (x : Item). x.0 < count) items → j < length items → (get_or items j item).0 < count
each_below count [] j item all below = absurd (omega arith)
each_below count (x ∷ xs) zero item all below = all.0
each_below count (x ∷ xs) (suc j) item all below = each_below count xs j item all.1 (omega arith)

pub below_at : (count : ℕ) (items : List Item) (j : ℕ) (item : Item) → AllByRecursion (λ (x : Item). x.0 < count) items → j < length items → item ≡ get_or items j item → item.0 < count
below_at count items j item all below at = subst (λ (x : Item). x.0 < count) (sym at) (each_below count items j item all below)

-- ---- what is found in it

same_first : (b : Bool) (n : ℕ) (x y : Option ℕ) → x ≡ y → cond b (Some n) x ≡ cond b (Some n) y
same_first b n x y e = ap (cond b (Some n)) e

pub same_unlabelled : (program : Program) (f g : ℕ → Option Label) (n end : ℕ) (methods : List Method) → n + length methods ≡ end → ((m : ℕ) → m < end → f m ≡ g m)
    → unlabelled_from program f n methods ≡ unlabelled_from program g n methods
same_unlabelled program f g n end [] e same = refl
same_unlabelled program f g n end (method ∷ methods) e same =
    ap (λ label. cond (is_unlabelled program method label) (Some n) (unlabelled_from program f (suc n) methods)) (same n (omega arith))
    ∙ same_first (is_unlabelled program method (g n)) n _ _ (same_unlabelled program f g (suc n) end methods (omega arith) same)

pub unlabelled_in : (program : Program) (count : ℕ) (placed : List Item) (methods : List Method) → length methods ≡ count
    → unlabelled_from program (table_at (table_of count placed)) 0 methods ≡ unlabelled_from program (label_among placed) 0 methods
unlabelled_in program count placed methods e =
    same_unlabelled program (table_at (table_of count placed)) (label_among placed) 0 count methods (omega arith) (λ m below. table_at-among count placed m below)

-- ---- each labelled method is one of the program

abbrev pub AreBelow : ℕ → List Item → Type 0
AreBelow end items = AllByRecursion (λ (item : Item). item.0 < end) items

pub ok_then : {A B : Type 0} (P : A → Type 0) (Q : B → Type 0) (read : Result A PolicyFault) (f : A → Result B PolicyFault) → IfOk read P → ((a : A) → P a → IfOk (f a) Q) → IfOk (read >>= f) Q
ok_then P Q (Err fault) f p q = tt
ok_then P Q (Ok a) f p q = q a p

or_fault_ok : (P : ℕ → Type 0) (fault : PolicyFault) (found : Option ℕ) → IfSome found P → IfOk (or_fault fault found) P
or_fault_ok P fault None p = tt
or_fault_ok P fault (Some m) p = p

placed_all : (program : Program) (labels : List NumberedLabel) → IfOk (placed_by program labels) (AreBelow (length program.methods))
placed_all program [] = tt
placed_all program (label ∷ labels) =
    ok_then (λ m. m < length program.methods) (AreBelow (length program.methods)) (or_fault (MissingMethod label.method) (method_named program label.method)) _
    (or_fault_ok (λ m. m < length program.methods) _ (method_named program label.method) (named_from-below program label.method 0 (length program.methods) program.methods (omega arith)))
    (λ m below. ok_then (AreBelow (length program.methods)) (AreBelow (length program.methods)) (placed_by program labels) _ (placed_all program labels) (λ more all. (below, all)))

pub at_ok : {A : Type 0} (P : A → Type 0) (read : Result A PolicyFault) (x : A) → IfOk read P → read ≡ Ok x → P x
at_ok P (Err fault) x p is = absurd (cc)
at_ok P (Ok y) x p is = let same : y ≡ x = cc in subst P same p

pub placed_below : (program : Program) (labels : List NumberedLabel) (placed : List Item) → placed_by program labels ≡ Ok placed → AreBelow (length program.methods) placed
placed_below program labels placed is = at_ok (AreBelow (length program.methods)) (placed_by program labels) placed (placed_all program labels) is

-- ---- the table beside the list

none_before : (first m : ℕ) (table : List (Option Label)) → m < first → label_among (ordered_from first table) m ≡ None
none_before first m [] below = refl
none_before first m (None ∷ table) below = none_before (suc first) m table (omega arith)
none_before first m (Some label ∷ table) below = sym (same_label (first, label) (ordered_from (suc first) table) m (λ e. absurd (omega arith))) ∙ none_before (suc first) m table (omega arith)

found_at : (first k m : ℕ) (table : List (Option Label)) → m ≡ first + k → label_among (ordered_from first table) m ≡ table_at table k
found_at first k m [] e = refl
found_at first zero m (None ∷ table) e = none_before (suc first) m table (omega arith)
found_at first zero m (Some label ∷ table) e = let same : first ≡ m = omega arith in sym (this_label (first, label) (ordered_from (suc first) table) m same)
found_at first (suc k) m (None ∷ table) e = found_at (suc first) k m table (omega arith)
found_at first (suc k) m (Some label ∷ table) e =
    sym (same_label (first, label) (ordered_from (suc first) table) m (λ same. absurd (omega arith))) ∙ found_at (suc first) k m table (omega arith)

pub label_in_order : (table : List (Option Label)) (m : ℕ) → label_among (ordered_from 0 table) m ≡ table_at table m
label_in_order table m = found_at 0 m m table (omega arith)
