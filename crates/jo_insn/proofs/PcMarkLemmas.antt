-- The marks of pcs are where one of the pcs is, and those of starts where an instruction starts.
use Rattle.std.proofs.Common.{◌≡◌, ◌≢◌, ℕ, ◌<◌, ◌≤◌, Bool, true, false, ◌||◌, nat_lt, List, [], ◌∷◌, ◌++◌, length, replicate, get_or, refl, sym, ap, ◌∙◌, inl, inr, arith}
use Rattle.std.specs.Prelude.{ℤ, pos, negsuc, map}
use Rattle.std.specs.List.{AllByRecursion, list_any}
use Rattle.std.specs.Ordering.{int_eq}
use Rattle.std.proofs.Math.ListN.{set}
use Rattle.std.proofs.lemmas.Bool.{cases_Bool, ltb-true, ltb-false}
use Rattle.std.proofs.lemmas.Bool.Decides.{Decides-int_eq}
use Rattle.std.proofs.lemmas.List.{length-set, length-replicate, get_or-set_same, get_or-set_other, get_or-replicate, get_or_past}
use Rattle.jo_insn.specs.declared.jumps.Placed.{Placed}
use Rattle.jo_insn.specs.Jumps.{IsPlacedIn, is_start}
use Rattle.jo_insn.specs.Marks.{marked_at, marked, is_marked, starts_of}
use Rattle.jo_insn.proofs.DecodedMoves.{decoded-moves}

or_false : (a b : Bool) → b ≡ false → (a || b) ≡ a
or_false true b is = refl
or_false false b is = is

or_true : (a b : Bool) → b ≡ true → true ≡ (a || b)
or_true true b is = refl
or_true false b is = sym is

or_assoc : (a b d : Bool) → ((a || b) || d) ≡ (a || (b || d))
or_assoc true b d = refl
or_assoc false b d = refl

abbrev pub is_at : ℕ → ℤ → Bool
is_at k pc = int_eq pc (pos k)

not_at : (pc target : ℤ) → (pc ≡ target → ⊥) → int_eq pc target ≡ false
not_at pc target differs = elim (cases_Bool (int_eq pc target)) [
  | inl same ↦ absurd (differs ((Decides-int_eq pc target).0 same))
  | inr other ↦ other
]

pub marked_append : (marks : List Bool) (xs ys : List ℤ) → marked marks (xs ++ ys) ≡ marked (marked marks xs) ys
marked_append marks [] ys = refl
marked_append marks (x ∷ xs) ys = marked_append (marked_at marks x) xs ys

length_marked_at : (marks : List Bool) (pc : ℤ) → length (marked_at marks pc) ≡ length marks
length_marked_at marks (pos j) = length-set marks j true
length_marked_at marks (negsuc n) = refl

pub length_marked : (marks : List Bool) (pcs : List ℤ) → length (marked marks pcs) ≡ length marks
length_marked marks [] = refl
length_marked marks (pc ∷ more) = length_marked (marked_at marks pc) more ∙ length_marked_at marks pc

one_mark : (marks : List Bool) (pc : ℤ) (k : ℕ) → k < length marks → get_or (marked_at marks pc) k false ≡ (get_or marks k false || is_at k pc)
one_mark marks (negsuc n) k below = sym (or_false (get_or marks k false) (is_at k (negsuc n)) (not_at (negsuc n) (pos k) (λ same. absurd (cc))))
one_mark marks (pos j) k below = elim (cases_Bool (is_at k (pos j))) [
  | inl same ↦
      let at : pos j ≡ pos k = (Decides-int_eq (pos j) (pos k)).0 same in
      let here : j ≡ k = cc in
      ap (λ (i : ℕ). get_or (set marks i true) k false) here ∙ get_or-set_same marks k true false below ∙ or_true (get_or marks k false) (is_at k (pos j)) same
  | inr other ↦
      let apart : k ≢ j = λ e. let wrong : is_at k (pos j) ≡ true = (Decides-int_eq (pos j) (pos k)).1 (ap (λ (i : ℕ). pos i) (sym e)) in absurd (cc) in
      get_or-set_other marks j k true false apart ∙ sym (or_false (get_or marks k false) (is_at k (pos j)) other)
]

-- a mark is one from before, or that of one of the pcs
pub marks_say : (marks : List Bool) (pcs : List ℤ) (k : ℕ) → k < length marks → get_or (marked marks pcs) k false ≡ (get_or marks k false || list_any (is_at k) pcs)
marks_say marks [] k below = sym (or_false (get_or marks k false) false refl)
marks_say marks (pc ∷ more) k below =
    let long = length_marked_at marks pc in
    marks_say (marked_at marks pc) more k (omega arith) ∙ ap (λ (b : Bool). b || list_any (is_at k) more) (one_mark marks pc k below) ∙ or_assoc (get_or marks k false) (is_at k pc) (list_any (is_at k) more)

-- beginning with none
pub all_marks : (size : ℕ) (pcs : List ℤ) (k : ℕ) → k < size → get_or (marked (replicate size false) pcs) k false ≡ list_any (is_at k) pcs
all_marks size pcs k below =
    let unmarked : List Bool = replicate size false in
    let long = length-replicate size false in
    marks_say unmarked pcs k (omega arith) ∙ ap (λ (b : Bool). b || list_any (is_at k) pcs) (get_or-replicate size k false false below)

-- ---- starts

abbrev pcs_of : List Placed → List ℤ
pcs_of insns = map (λ (placed : Placed). pos placed.pc) insns

any_start : (insns : List Placed) (k : ℕ) → list_any (is_at k) (pcs_of insns) ≡ is_start insns (pos k)
any_start [] k = refl
any_start (p ∷ more) k = ap (λ (b : Bool). is_at k (pos p.pc) || b) (any_start more k)

starts_later : (p : Placed) (more : List Placed) (t : ℤ) → (pos p.pc ≡ t → ⊥) → is_start (p ∷ more) t ≡ is_start more t
starts_later p more t differs = rw (not_at (pos p.pc) t differs) refl

-- no instruction of some code starts past either end
module _ (code : List ℕ) where
  pub starts_within : (p : Placed) → IsPlacedIn code p → p.pc < length code
  starts_within p is = let moves = decoded-moves code p.pc p.next p.insn is in omega arith

  none_past : (insns : List Placed) (k : ℕ) → length code ≤ k → AllByRecursion (IsPlacedIn code) insns → is_start insns (pos k) ≡ false
  none_past [] k past all = refl
  none_past (p ∷ more) k past all =
      let within = starts_within p all.0 in
      starts_later p more (pos k) (λ same. let at : p.pc ≡ k = cc in absurd (omega arith)) ∙ none_past more k past all.1

  none_before : (insns : List Placed) (n : ℕ) → is_start insns (negsuc n) ≡ false
  none_before [] n = refl
  none_before (p ∷ more) n = starts_later p more (negsuc n) (λ same. absurd (cc)) ∙ none_before more n

  pub marks_are_starts : (insns : List Placed) (t : ℤ) → AllByRecursion (IsPlacedIn code) insns → is_marked (starts_of (length code) insns) t ≡ is_start insns t
  marks_are_starts insns (negsuc n) all = sym (none_before insns n)
  marks_are_starts insns (pos k) all =
      let unmarked : List Bool = replicate (length code) false in
      let long = length-replicate (length code) false in
      let same_long = length_marked unmarked (pcs_of insns) in
      elim (cases_Bool (nat_lt k (length code))) [
        | inl is ↦ all_marks (length code) (pcs_of insns) k (ltb-true k (length code) is) ∙ any_start insns k
        | inr is ↦
            let past : length code ≤ k = ltb-false k (length code) is in
            get_or_past (marked unmarked (pcs_of insns)) k false (omega arith) ∙ sym (none_past insns k past all)
      ]
