-- Sets of pool indices that a loop adds to, item by item.
use Rattle.std.proofs.Common.{◌≡◌, ◌<◌, ◌≤◌, ◌+◌, ◌^◌, ◌⊎◌, inl, inr, None, ℕ, Bool, true, false, List, [], ◌∷◌, length, drop, get_or, Some, refl, sym, subst, ap, ◌∙◌, arith}
use Rattle.std.specs.Prelude.{◌||◌, ◌==◌, nat_lt, replicate, slice_set, slice_get}
use Rattle.std.specs.List.{list_any}
use Rattle.std.proofs.lemmas.Bool.{cases_eq}
use Rattle.std.proofs.lemmas.Bool.Decides.{nat_tests}
use Rattle.std.proofs.lemmas.List.{get_or-replicate, get_or-set_same, get_or-set_other, length-set, drop_more}
use Rattle.std.proofs.lemmas.Option.{slice_get_within, get_or_from_slice_get}
use Rattle.std.proofs.Math.ListN.{drop_of_length-le}
use Rattle.jo_ids.specs.Rows.{has_number}
use Rattle.class_pool.specs.declared.classes.CodeInfo.{CodeInfo}
use Rattle.jo_insn.specs.declared.jumps.Placed.{Placed}
use Rattle.jo_prog.specs.Sites.{insns_in}
use Rattle.linker.specs.Linking.{is_index, names_entry, is_used_by}
use Rattle.linker.specs.UsedEntries.{AddsThose}

-- with what the items that are left add, all is there that all items add
pub record AddsOn {X : Type 0} (test : ℕ → X → Bool) (old now : List Bool) (left all : List X) : Type 0 where
  pub same_length : length now ≡ length old
  pub each : (k : ℕ) → k < length old → (has_number now k || list_any (test k) left) ≡ (has_number old k || list_any (test k) all)

pub begins : {X : Type 0} (test : ℕ → X → Bool) (old : List Bool) (all : List X) → AddsOn test old old all all
begins test old all = record { same_length = refl; each = λ k below. refl }

or_assoc : (a b c : Bool) → ((a || b) || c) ≡ (a || (b || c))
or_assoc true b c = refl
or_assoc false b c = refl

or_true : (a : Bool) → (a || true) ≡ true
or_true true = refl
or_true false = refl

or_false : (a : Bool) → (a || false) ≡ a
or_false true = refl
or_false false = refl

-- one item more
step : {X : Type 0} (test : ℕ → X → Bool) (old now next : List Bool) (x : X) (left all : List X) → AddsOn test old now (x ∷ left) all → AddsThose now next (λ k. test k x) → AddsOn test old next left all
step test old now next x left all so_far adds = record {
  same_length = adds.same_length ∙ so_far.same_length;
  each = λ k below.
      let inside : k < length now = subst (λ n. k < n) (sym so_far.same_length) below in
      ap (λ b. b || list_any (test k) left) (adds.each k inside) ∙ or_assoc (has_number now k) (test k x) (list_any (test k) left) ∙ so_far.each k below;
}

pub goes_on : {X : Type 0} (test : ℕ → X → Bool) (old now next : List Bool) (i : ℕ) (x : X) (all : List X) → AddsOn test old now (drop i all) all → slice_get all i ≡ Some x
    → AddsThose now next (λ k. test k x) → AddsOn test old next (drop (i + 1) all) all
goes_on test old now next i x all so_far at adds =
    let same : get_or all i x ≡ x = get_or_from_slice_get all i x x at in
    let front : drop i all ≡ x ∷ drop (i + 1) all = drop_more all i x (slice_get_within all i x at) ∙ ap (λ y. y ∷ drop (i + 1) all) same in
    step test old now next x (drop (i + 1) all) all (subst (λ left. AddsOn test old now left all) front so_far) adds

pub ends : {X : Type 0} (test : ℕ → X → Bool) (old now : List Bool) (i : ℕ) (all : List X) → length all ≤ i → AddsOn test old now (drop i all) all → AddsThose old now (λ k. list_any (test k) all)
ends test old now i all past so_far =
    let none : drop i all ≡ [] = drop_of_length-le all past in
    let over : AddsOn test old now [] all = subst (λ left. AddsOn test old now left all) none so_far in
    record { same_length = over.same_length; each = λ k below. sym (or_false (has_number now k)) ∙ over.each k below }

-- into the empty set
pub into_none : (n : ℕ) (now : List Bool) (test : ℕ → Bool) → AddsThose (replicate n false) now test → (k : ℕ) → k < n → length (replicate n false) ≡ n → has_number now k ≡ test k
into_none n now test adds k below size =
    adds.each k (subst (λ m. k < m) (sym size) below) ∙ ap (λ b. b || test k) (get_or-replicate n k false false below)

-- ---- one index

none_more : (old : List Bool) (test : ℕ → Bool) → ((k : ℕ) → k < length old → test k ≡ false) → AddsThose old old test
none_more old test none = record { same_length = refl; each = λ k below. sym (ap (λ b. has_number old k || b) (none k below) ∙ or_false (has_number old k)) }

pub adds_none : (old : List Bool) → AddsThose old old (λ k. is_index k None)
adds_none old = none_more old (λ k. false) (λ k below. refl)

pub adds_past : (old : List Bool) (index : ℕ) → length old ≤ index → AddsThose old old (λ k. is_index k (Some index))
adds_past old index past = none_more old (λ k. index == k) (λ k below. grind (arith, nat_tests))

pub adds_one : (old : List Bool) (index : ℕ) → index < length old → AddsThose old (slice_set old index true) (λ k. is_index k (Some index))
adds_one old index inside = record { same_length = length-set old index true; each = λ k below. by_index k (cases_eq index k) }
  where
    by_index : (k : ℕ) → (index ≡ k) ⊎ (index ≡ k → ⊥) → has_number (slice_set old index true) k ≡ (has_number old k || index == k)
    by_index k (inl same) =
        let there : has_number (slice_set old index true) index ≡ true = get_or-set_same old index true false inside in
        let equal : (index == k) ≡ true = grind (arith, nat_tests) in
        subst (λ i. has_number (slice_set old index true) i ≡ true) same there ∙ sym (ap (λ b. has_number old k || b) equal ∙ or_true (has_number old k))
    by_index k (inr other) =
        let differ : (index == k) ≡ false = grind (arith, nat_tests) in
        get_or-set_other old index k true false (λ e. other (sym e)) ∙ sym (ap (λ b. has_number old k || b) differ ∙ or_false (has_number old k))

-- ---- the entries of some code

pub adds_long : (old : List Bool) (code : CodeInfo) → 65535 < length code.bytes → AddsThose old old (λ k. is_used_by k (Some code))
adds_long old code long =
    let over : nat_lt (length code.bytes) (2 ^ 16) ≡ false = grind (arith, nat_tests) in
    none_more old (λ k. is_used_by k (Some code)) (λ k below. rw over refl)

pub adds_code : (old new : List Bool) (code : CodeInfo) (insns : List Placed) → length code.bytes < 2 ^ 16 → insns ≡ insns_in code.bytes → AddsThose old new (λ k. list_any (names_entry k) insns)
    → AddsThose old new (λ k. is_used_by k (Some code))
adds_code old new code insns short is adds =
    let under : nat_lt (length code.bytes) (2 ^ 16) ≡ true = grind (arith, nat_tests) in
    record { same_length = adds.same_length; each = λ k below. rw under (subst (λ is. has_number new k ≡ (has_number old k || list_any (names_entry k) is)) is (adds.each k below)) }
