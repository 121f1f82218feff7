-- A set of nodes beside the queue of these nodes.
use Rattle.std.proofs.Common.{◌≡◌, ℕ, zero, suc, ◌+◌, ◌<◌, Bool, true, false, not, cond, List, [], ◌∷◌, ◌++◌, length, get_or, set, replicate, Contains, refl, sym, ◌∙◌, ap, subst, arith, inl, inr, ◌⊎◌, length-set}
use Rattle.std.specs.Prelude.{count_by}
use Rattle.std.proofs.lemmas.Bool.{cases_eq, cases_lt, both_ways}
use Rattle.std.proofs.lemmas.List.{length-replicate, get_or-replicate, get_or-set_same, get_or-set_other, get_or_past}
use Rattle.std.proofs.lemmas.List.Sums.{sum_by-set, sum_by-cons}
use Rattle.std.proofs.lemmas.List.Elements.{Contains-append_left, Contains-push, Contains-push_cases}
use Rattle.jo_ids.specs.Rows.{has_number}
use Rattle.jo_graph.specs.Queues.{IsQueueOf, Follows}

-- ---- sets

pub has_number-set_same : (row : List Bool) (i : ℕ) → i < length row → has_number (set row i true) i ≡ true
has_number-set_same row i h = get_or-set_same row i true false h

pub has_number-set : (row : List Bool) (i n : ℕ) → i < length row → has_number row n ≡ true → has_number (set row i true) n ≡ true
has_number-set row i n b h = elim (cases_eq n i) [
  | inl e ↦ ap (has_number (set row i true)) e ∙ has_number-set_same row i b
  | inr ne ↦ get_or-set_other row i n true false ne ∙ h
]

pub set_cases : (row : List Bool) (i n : ℕ) → has_number (set row i true) n ≡ true → (has_number row n ≡ true) ⊎ (i ≡ n)
set_cases row i n h = elim (cases_eq n i) [
  | inl e ↦ inr (sym e)
  | inr ne ↦ inl (sym (get_or-set_other row i n true false ne) ∙ h)
]

-- how many numbers a set lacks
lacking-set : (row : List Bool) (i : ℕ) → i < length row → has_number row i ≡ false → count_by not (set row i true) + 1 ≡ count_by not row
lacking-set row i b h =
    let e = sum_by-set (λ x. cond (not x) 1 0) row i true false b in
    let one = ap (λ (x : Bool). let n : ℕ = cond (not x) 1 0 in n) h in
    omega (arith, e, one)

lacking-empty : (n : ℕ) → count_by not (replicate n false) ≡ n
lacking-empty zero = refl
lacking-empty (suc n) = omega (arith, sum_by-cons (λ x. cond (not x) 1 0) false (replicate n false), lacking-empty n)

-- ---- the queue of one number

pub queue_of_one : (n start : ℕ) (queue : List ℕ) → start < n → length queue ≡ n → IsQueueOf (set (replicate n false) start true) (set queue 0 start) 1
queue_of_one n start queue b e = record {
  same_length = length-set queue 0 start ∙ e ∙ sym (len ∙ length-replicate n false);
  counted = omega (arith, lacking, lacking-empty n, len, length-replicate n false);
  queued = queued;
  all = all;
}
  where
    row : List Bool
    row = replicate n false

    below : start < length (replicate n false)
    below = omega (arith, length-replicate n false)

    len : length (set (replicate n false) start true) ≡ length (replicate n false)
    len = length-set (replicate n false) start true

    lacking : count_by not (set (replicate n false) start true) + 1 ≡ count_by not (replicate n false)
    lacking = lacking-set (replicate n false) start below (get_or-replicate n start false false b)

    at : get_or (set queue 0 start) 0 0 ≡ start
    at = get_or-set_same queue 0 start 0 (omega arith)

    queued : (k : ℕ) → k < 1 → has_number (set (replicate n false) start true) (get_or (set queue 0 start) k 0) ≡ true
    queued k h =
        let first : k ≡ 0 = omega arith in
        ap (λ j. has_number (set (replicate n false) start true) (get_or (set queue 0 start) j 0)) first
        ∙ ap (has_number (set (replicate n false) start true)) at ∙ has_number-set_same (replicate n false) start below

    all : (m : ℕ) → has_number (set (replicate n false) start true) m ≡ true → (k : ℕ) × (k < 1) × (get_or (set queue 0 start) k 0 ≡ m)
    all m h = elim (set_cases (replicate n false) start m h) [
      | inl had ↦ absurd (both_ways (has_number (replicate n false) m) (empty m) had)
      | inr e ↦ (0, omega arith, at ∙ e)
    ]
      where
        empty : (m : ℕ) → has_number (replicate n false) m ≡ false
        empty m = elim (cases_lt m n) [
          | inl h ↦ get_or-replicate n m false false h
          | inr h ↦ get_or_past (replicate n false) m false (omega (arith, length-replicate n false))
        ]

-- ---- one number more

pub follows_none : (found : List Bool) (queue : List ℕ) (end : ℕ) → IsQueueOf found queue end → Follows [] found queue end found queue end
follows_none found queue end q = record {
  same_length = refl;
  grows = omega arith;
  is_queue = q;
  same_queue = λ k _. refl;
  had = λ n h. h;
  has = λ n c. absurd (omega (arith, c.1));
  only = λ n h. inl h;
}

module _ (numbers : List ℕ) (found : List Bool) (queue : List ℕ) (end : ℕ) (row : List Bool) (places : List ℕ) (last number : ℕ)
    (so_far : Follows numbers found queue end row places last) (below : number < length row) where
  pub room : has_number row number ≡ false → last < length places
  room new =
      let one_less = lacking-set row number below new in
      omega (arith, one_less, so_far.is_queue.counted, so_far.is_queue.same_length)

  pub follows_new : has_number row number ≡ false → Follows (numbers ++ number ∷ []) found queue end (set row number true) (set places last number) (last + 1)
  follows_new new = record {
    same_length = length-set row number true ∙ so_far.same_length;
    grows = omega (arith, so_far.grows);
    is_queue = record {
      same_length = length-set places last number ∙ so_far.is_queue.same_length ∙ sym (length-set row number true);
      counted = omega (arith, lacking-set row number below new, so_far.is_queue.counted, length-set row number true);
      queued = queued;
      all = all;
    };
    same_queue = λ k h. get_or-set_other places last k number 0 (λ e. absurd (omega (arith, so_far.grows))) ∙ so_far.same_queue k h;
    had = λ n h. has_number-set row number n below (so_far.had n h);
    has = has;
    only = only;
  }
    where
      there : get_or (set places last number) last 0 ≡ number
      there = get_or-set_same places last number 0 (room new)

      queued : (k : ℕ) → k < last + 1 → has_number (set row number true) (get_or (set places last number) k 0) ≡ true
      queued k h = elim (cases_eq k last) [
        | inl e ↦ ap (λ j. has_number (set row number true) (get_or (set places last number) j 0)) e ∙ ap (has_number (set row number true)) there ∙ has_number-set_same row number below
        | inr ne ↦
            ap (has_number (set row number true)) (get_or-set_other places last k number 0 ne)
            ∙ has_number-set row number (get_or places k 0) below (so_far.is_queue.queued k (omega (arith, h, ne)))
      ]

      all : (n : ℕ) → has_number (set row number true) n ≡ true → (k : ℕ) × (k < last + 1) × (get_or (set places last number) k 0 ≡ n)
      all n h = elim (set_cases row number n h) [
        | inl had ↦
            let at = so_far.is_queue.all n had in
            (at.0, omega (arith, at.1), get_or-set_other places last at.0 number 0 (λ e. absurd (omega (arith, at.1))) ∙ at.2)
        | inr e ↦ (last, omega arith, there ∙ e)
      ]

      has : (n : ℕ) → Contains (numbers ++ number ∷ []) n → has_number (set row number true) n ≡ true
      has n c = elim (Contains-push_cases numbers number n c) [
        | inl before ↦ has_number-set row number n below (so_far.has n before)
        | inr e ↦ ap (has_number (set row number true)) (sym e) ∙ has_number-set_same row number below
      ]

      only : (n : ℕ) → has_number (set row number true) n ≡ true → (has_number found n ≡ true) ⊎ Contains (numbers ++ number ∷ []) n
      only n h = elim (set_cases row number n h) [
        | inl had ↦ elim (so_far.only n had) [ inl first ↦ inl first | inr mem ↦ inr (Contains-append_left numbers (number ∷ []) n mem) ]
        | inr e ↦ inr (subst (λ m. Contains (numbers ++ number ∷ []) m) e (Contains-push numbers number))
      ]

  pub follows_known : has_number row number ≡ true → Follows (numbers ++ number ∷ []) found queue end (set row number true) places last
  follows_known known = subst (λ r. Follows (numbers ++ number ∷ []) found queue end r places last) (sym (set-same row number known)) (record {
    same_length = so_far.same_length;
    grows = so_far.grows;
    is_queue = so_far.is_queue;
    same_queue = so_far.same_queue;
    had = so_far.had;
    has = has;
    only = only;
  })
    where
      set-same : (r : List Bool) (i : ℕ) → has_number r i ≡ true → set r i true ≡ r
      set-same [] i h = refl
      set-same (x ∷ xs) zero h = ap (λ b. b ∷ xs) (sym h)
      set-same (x ∷ xs) (suc i) h = ap (λ t. x ∷ t) (set-same xs i h)

      has : (n : ℕ) → Contains (numbers ++ number ∷ []) n → has_number row n ≡ true
      has n c = elim (Contains-push_cases numbers number n c) [
        | inl before ↦ so_far.has n before
        | inr e ↦ ap (has_number row) (sym e) ∙ known
      ]

      only : (n : ℕ) → has_number row n ≡ true → (has_number found n ≡ true) ⊎ Contains (numbers ++ number ∷ []) n
      only n h = elim (so_far.only n h) [ inl first ↦ inl first | inr mem ↦ inr (Contains-append_left numbers (number ∷ []) n mem) ]
