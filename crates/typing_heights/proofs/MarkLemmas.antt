-- Heights that are given to pcs are those of a visit.
use Rattle.std.proofs.Common.{◌≡◌, ◌⊎◌, ℕ, zero, suc, ◌+◌, ◌<◌, ◌≤◌, ◌≢◌, Bool, true, false, cond, ltb, List, [], ◌∷◌, ◌++◌, length, get_or, Option, Some, None, refl, sym, ◌∙◌, ap, subst, inl, inr, arith, length-append}
use Rattle.std.specs.Prelude.{slice_get}
use Rattle.std.specs.List.{Contains}
use Rattle.std.proofs.Math.ListN.{set}
use Rattle.std.proofs.lemmas.Bool.{ltb-true, ltb-false}
use Rattle.std.proofs.lemmas.List.{length-set, get_or-set_same, get_or-set_other, get_or_append_left, get_or-append-add}
use Rattle.jo_prog.specs.declared.program.Row.{Row}
use Rattle.jo_prog.specs.InsnTyping.{covers}
use Rattle.typing_heights.specs.Searches.{height_at, HasSome}
use Rattle.typing_heights.specs.Marks.{Marks, is_unknown, marked, all_marked, handler_marked, handlers_marked, unknown}

-- ---- lists

same_or_not : (a b : ℕ) → (a ≡ b) ⊎ (a ≢ b)
same_or_not a b = by_less (ltb a b) refl
  where
    by_more : b ≤ a → (t : Bool) → ltb b a ≡ t → (a ≡ b) ⊎ (a ≢ b)
    by_more from true e = inr (λ same. let less = ltb-true b a e in omega arith)
    by_more from false e = inl (let up = ltb-false b a e in omega arith)

    by_less : (t : Bool) → ltb a b ≡ t → (a ≡ b) ⊎ (a ≢ b)
    by_less true e = inr (λ same. let less = ltb-true a b e in omega arith)
    by_less false e = by_more (ltb-false a b e) (ltb b a) refl

pub contains_more : (xs : List ℕ) (x y : ℕ) → Contains xs x → Contains (xs ++ y ∷ []) x
contains_more xs x y c = (c.0, (let e = length-append xs (y ∷ []) in let b = c.1 in omega arith), get_or_append_left xs (y ∷ []) x c.0 c.1 ∙ c.2)

pub contains_last : (xs : List ℕ) (y : ℕ) → Contains (xs ++ y ∷ []) y
contains_last xs y = (length xs + 0, (let e = length-append xs (y ∷ []) in omega arith), get_or-append-add xs (y ∷ []) 0 y)

pub contains_before : (xs : List ℕ) (x y : ℕ) → Contains (xs ++ y ∷ []) x → Contains xs x ⊎ (x ≡ y)
contains_before xs x y c = by_test (ltb c.0 (length xs)) refl
  where
    by_test : (b : Bool) → ltb c.0 (length xs) ≡ b → Contains xs x ⊎ (x ≡ y)
    by_test true e = inl (c.0, ltb-true c.0 (length xs) e, sym (get_or_append_left xs (y ∷ []) x c.0 (ltb-true c.0 (length xs) e)) ∙ c.2)
    by_test false e =
        let from = ltb-false c.0 (length xs) e in
        let last : c.0 ≡ length xs + 0 = (let l = length-append xs (y ∷ []) in let b = c.1 in omega arith) in
        inr (sym c.2 ∙ ap (λ k. get_or (xs ++ y ∷ []) k x) last ∙ get_or-append-add xs (y ∷ []) 0 x)

-- ---- what marks do

pub record Grown (Source : ℕ → ℕ → Type 0) (m n : Marks) : Type 0 where
  pub same_length : length n.heights ≡ length m.heights
  pub kept : (x h : ℕ) → height_at m.heights x ≡ Some h → height_at n.heights x ≡ Some h
  pub fresh : (x h : ℕ) → height_at m.heights x ≡ None → height_at n.heights x ≡ Some h → Source x h
  pub had : (x : ℕ) → Contains m.found x → Contains n.found x
  pub is_found : (x : ℕ) → Contains n.found x → Contains m.found x ⊎ ((height_at m.heights x ≡ None) × HasSome (height_at n.heights x))
  pub has_found : (x h : ℕ) → height_at m.heights x ≡ None → height_at n.heights x ≡ Some h → Contains n.found x
  pub counted : length n.found + unknown n.heights ≡ length m.found + unknown m.heights

or_none : (o : Option ℕ) → (o ≡ None) ⊎ HasSome o
or_none None = inl refl
or_none (Some h) = inr (h, refl)

never_both : (o : Option ℕ) (h : ℕ) → o ≡ None → o ≡ Some h → ⊥
never_both o h a b = absurd (cc)

some_same : (o : Option ℕ) (a b : ℕ) → o ≡ Some a → o ≡ Some b → a ≡ b
some_same o a b e f = ap (λ (p : Option ℕ). elim p [ Some x ↦ x | None ↦ a ]) (sym e ∙ f)

grown_none : (Source : ℕ → ℕ → Type 0) (m : Marks) → Grown Source m m
grown_none Source m = record {
  same_length = refl;
  kept = λ x h e. e;
  fresh = λ x h a b. absurd (never_both (height_at m.heights x) h a b);
  had = λ x c. c;
  is_found = λ x c. inl c;
  has_found = λ x h a b. absurd (never_both (height_at m.heights x) h a b);
  counted = refl;
}

grown_along : (Source : ℕ → ℕ → Type 0) (l m n : Marks) → Grown Source l m → Grown Source m n → Grown Source l n
grown_along Source l m n a b = record {
  same_length = b.same_length ∙ a.same_length;
  kept = λ x h e. b.kept x h (a.kept x h e);
  fresh = λ x h none some. fresh_by x h none some (or_none (height_at m.heights x));
  had = λ x c. b.had x (a.had x c);
  is_found = λ x c. found_by x (b.is_found x c);
  has_found = λ x h none some. has_by x h none some (or_none (height_at m.heights x));
  counted = b.counted ∙ a.counted;
}
  where
    fresh_by : (x h : ℕ) → height_at l.heights x ≡ None → height_at n.heights x ≡ Some h → (height_at m.heights x ≡ None) ⊎ HasSome (height_at m.heights x) → Source x h
    fresh_by x h none some (inl still) = b.fresh x h still some
    fresh_by x h none some (inr got) =
        subst (λ (k : ℕ). Source x k) (some_same (height_at n.heights x) got.0 h (b.kept x got.0 got.1) some) (a.fresh x got.0 none got.1)

    has_by : (x h : ℕ) → height_at l.heights x ≡ None → height_at n.heights x ≡ Some h → (height_at m.heights x ≡ None) ⊎ HasSome (height_at m.heights x) → Contains n.found x
    has_by x h none some (inl still) = b.has_found x h still some
    has_by x h none some (inr got) = b.had x (a.has_found x got.0 none got.1)

    first_by : (x : ℕ) → Contains l.found x ⊎ ((height_at l.heights x ≡ None) × HasSome (height_at m.heights x))
        → Contains l.found x ⊎ ((height_at l.heights x ≡ None) × HasSome (height_at n.heights x))
    first_by x (inl c) = inl c
    first_by x (inr p) = inr (p.0, (p.1.0, b.kept x p.1.0 p.1.1))

    before : (x : ℕ) → height_at m.heights x ≡ None → (height_at l.heights x ≡ None) ⊎ HasSome (height_at l.heights x) → height_at l.heights x ≡ None
    before x none (inl e) = e
    before x none (inr s) = absurd (never_both (height_at m.heights x) s.0 none (a.kept x s.0 s.1))

    found_by : (x : ℕ) → Contains m.found x ⊎ ((height_at m.heights x ≡ None) × HasSome (height_at n.heights x))
        → Contains l.found x ⊎ ((height_at l.heights x ≡ None) × HasSome (height_at n.heights x))
    found_by x (inl c) = first_by x (a.is_found x c)
    found_by x (inr p) = inr (before x p.0 (or_none (height_at l.heights x)), p.1)

grown_from : (Source Other : ℕ → ℕ → Type 0) (m n : Marks) → ((x h : ℕ) → Source x h → Other x h) → Grown Source m n → Grown Other m n
grown_from Source Other m n f g = record {
  same_length = g.same_length;
  kept = g.kept;
  fresh = λ x h a b. f x h (g.fresh x h a b);
  had = g.had;
  is_found = g.is_found;
  has_found = g.has_found;
  counted = g.counted;
}

-- ---- one mark

unknown_inside : (heights : List (Option ℕ)) (to : ℕ) → is_unknown heights to ≡ true → (to < length heights) × (height_at heights to ≡ None)
unknown_inside [] to e = absurd (cc)
unknown_inside (None ∷ heights) zero e = (omega arith, refl)
unknown_inside (Some h ∷ heights) zero e = absurd (cc)
unknown_inside (x ∷ heights) (suc to) e = let r = unknown_inside heights to e in ((let b = r.0 in omega arith), r.1)

known_inside : (heights : List (Option ℕ)) (to : ℕ) → is_unknown heights to ≡ false → to < length heights → HasSome (height_at heights to)
known_inside [] to e below = absurd (omega arith)
known_inside (None ∷ heights) zero e below = absurd (cc)
known_inside (Some h ∷ heights) zero e below = (h, refl)
known_inside (x ∷ heights) (suc to) e below = known_inside heights to e (omega arith)

fewer : (heights : List (Option ℕ)) (to height : ℕ) → is_unknown heights to ≡ true → suc (unknown (set heights to (Some height))) ≡ unknown heights
fewer [] to height e = absurd (cc)
fewer (None ∷ heights) zero height e = refl
fewer (Some h ∷ heights) zero height e = absurd (cc)
fewer (None ∷ heights) (suc to) height e = ap suc (fewer heights to height e)
fewer (Some h ∷ heights) (suc to) height e = fewer heights to height e

abbrev Just : ℕ → ℕ → ℕ → ℕ → Type 0
Just to height x h = (x ≡ to) × (h ≡ height)

one_set : (to height : ℕ) (m : Marks) → is_unknown m.heights to ≡ true
    → Grown (Just to height) m (record { heights = set m.heights to (Some height); found = m.found ++ to ∷ [] })
one_set to height m e = record {
  same_length = length-set m.heights to (Some height);
  kept = λ x h some. kept_by x h some (same_or_not x to);
  fresh = λ x h none some. fresh_by x h none some (same_or_not x to);
  had = λ x c. contains_more m.found x to c;
  is_found = λ x c. found_by x (contains_before m.found x to c);
  has_found = λ x h none some. has_by x h none some (same_or_not x to);
  counted = (let f = fewer m.heights to height e in let l = length-append m.found (to ∷ []) in omega arith);
}
  where
    here : height_at (set m.heights to (Some height)) to ≡ Some height
    here = get_or-set_same m.heights to (Some height) None (unknown_inside m.heights to e).0

    elsewhere : (x : ℕ) → x ≢ to → height_at (set m.heights to (Some height)) x ≡ height_at m.heights x
    elsewhere x other = get_or-set_other m.heights to x (Some height) None other

    kept_by : (x h : ℕ) → height_at m.heights x ≡ Some h → (x ≡ to) ⊎ (x ≢ to) → height_at (set m.heights to (Some height)) x ≡ Some h
    kept_by x h some (inl same) = absurd (never_both (height_at m.heights to) h (unknown_inside m.heights to e).1 (ap (height_at m.heights) (sym same) ∙ some))
    kept_by x h some (inr other) = elsewhere x other ∙ some

    fresh_by : (x h : ℕ) → height_at m.heights x ≡ None → height_at (set m.heights to (Some height)) x ≡ Some h → (x ≡ to) ⊎ (x ≢ to) → Just to height x h
    fresh_by x h none some (inl same) = (same, some_same (height_at (set m.heights to (Some height)) to) h height (ap (height_at (set m.heights to (Some height))) (sym same) ∙ some) here)
    fresh_by x h none some (inr other) = absurd (never_both (height_at m.heights x) h none (sym (elsewhere x other) ∙ some))

    has_by : (x h : ℕ) → height_at m.heights x ≡ None → height_at (set m.heights to (Some height)) x ≡ Some h → (x ≡ to) ⊎ (x ≢ to) → Contains (m.found ++ to ∷ []) x
    has_by x h none some (inl same) = subst (λ (y : ℕ). Contains (m.found ++ to ∷ []) y) (sym same) (contains_last m.found to)
    has_by x h none some (inr other) = absurd (never_both (height_at m.heights x) h none (sym (elsewhere x other) ∙ some))

    found_by : (x : ℕ) → Contains m.found x ⊎ (x ≡ to) → Contains m.found x ⊎ ((height_at m.heights x ≡ None) × HasSome (height_at (set m.heights to (Some height)) x))
    found_by x (inl c) = inl c
    found_by x (inr same) = inr (ap (height_at m.heights) same ∙ (unknown_inside m.heights to e).1, (height, ap (height_at (set m.heights to (Some height))) same ∙ here))

one_grown : (to height : ℕ) (m : Marks) → Grown (Just to height) m (marked to height m)
one_grown to height m = by_test (is_unknown m.heights to) refl
  where
    by_test : (b : Bool) → is_unknown m.heights to ≡ b
        → Grown (Just to height) m (cond b (record { heights = set m.heights to (Some height); found = m.found ++ to ∷ [] }) m)
    by_test true e = one_set to height m e
    by_test false e = grown_none (Just to height) m

one_known : (to height : ℕ) (m : Marks) → to < length m.heights → HasSome (height_at (marked to height m).heights to)
one_known to height m below = by_test (is_unknown m.heights to) refl
  where
    by_test : (b : Bool) → is_unknown m.heights to ≡ b
        → HasSome (height_at (cond b (record { heights = set m.heights to (Some height); found = m.found ++ to ∷ [] }) m).heights to)
    by_test true e = (height, get_or-set_same m.heights to (Some height) None below)
    by_test false e = known_inside m.heights to e below

-- ---- the marks of plain steps

contains_on : (x y : ℕ) (xs : List ℕ) → Contains xs x → Contains (y ∷ xs) x
contains_on x y xs c = (suc c.0, (let b = c.1 in omega arith), c.2)

abbrev pub Among : ℕ → List ℕ → ℕ → ℕ → Type 0
Among height targets x h = Contains targets x × (h ≡ height)

pub all_grown : (height : ℕ) (targets : List ℕ) (m : Marks) → Grown (Among height targets) m (all_marked height targets m)
all_grown height [] m = grown_none (Among height []) m
all_grown height (to ∷ more) m =
    grown_along (Among height (to ∷ more)) m (marked to height m) (all_marked height more (marked to height m))
    (grown_from (Just to height) (Among height (to ∷ more)) m (marked to height m) (λ x h j. ((0, omega arith, sym j.0), j.1)) (one_grown to height m))
    (grown_from (Among height more) (Among height (to ∷ more)) (marked to height m) (all_marked height more (marked to height m)) (λ x h a. (contains_on x to more a.0, a.1))
    (all_grown height more (marked to height m)))

pub all_known : (height : ℕ) (targets : List ℕ) (m : Marks) (x : ℕ) → Contains targets x → x < length m.heights → HasSome (height_at (all_marked height targets m).heights x)
all_known height [] m x c below = absurd (let b = c.1 in omega arith)
all_known height (to ∷ more) m x (zero, b, e) below =
    let first = one_known to height m (subst (λ (y : ℕ). y < length m.heights) (sym e) below) in
    let on = (all_grown height more (marked to height m)).kept to first.0 first.1 in
    (first.0, ap (height_at (all_marked height more (marked to height m)).heights) (sym e) ∙ on)
all_known height (to ∷ more) m x (suc k, b, e) below =
    all_known height more (marked to height m) x (k, omega arith, e) (let l = (one_grown to height m).same_length in omega arith)

-- ---- the marks of handlers

pub record FromRow (pc : ℕ) (rows : List Row) (x : ℕ) : Type 0 where
  pub place : ℕ
  pub row : Row
  pub found : slice_get rows place ≡ Some row
  pub covered : covers pc row ≡ true
  pub leads : row.handler ≡ x

abbrev pub AmongRows : ℕ → List Row → ℕ → ℕ → Type 0
AmongRows pc rows x h = FromRow pc rows x × (h ≡ 1)

row_grown : (pc : ℕ) (row : Row) (m : Marks) → Grown (λ x h. (covers pc row ≡ true) × Just row.handler 1 x h) m (handler_marked pc row m)
row_grown pc row m = by_test (covers pc row) refl
  where
    by_test : (b : Bool) → covers pc row ≡ b → Grown (λ x h. (covers pc row ≡ true) × Just row.handler 1 x h) m (cond b (marked row.handler 1 m) m)
    by_test true e = grown_from (Just row.handler 1) (λ x h. (covers pc row ≡ true) × Just row.handler 1 x h) m (marked row.handler 1 m) (λ x h j. (e, j)) (one_grown row.handler 1 m)
    by_test false e = grown_none (λ x h. (covers pc row ≡ true) × Just row.handler 1 x h) m

pub handlers_grown : (pc : ℕ) (rows : List Row) (m : Marks) → Grown (AmongRows pc rows) m (handlers_marked pc rows m)
handlers_grown pc [] m = grown_none (AmongRows pc []) m
handlers_grown pc (row ∷ rows) m =
    grown_along (AmongRows pc (row ∷ rows)) m (handler_marked pc row m) (handlers_marked pc rows (handler_marked pc row m))
    (grown_from (λ x h. (covers pc row ≡ true) × Just row.handler 1 x h) (AmongRows pc (row ∷ rows)) m (handler_marked pc row m)
    (λ x h j. (record { place = 0; row = row; found = refl; covered = j.0; leads = sym j.1.0 }, j.1.1)) (row_grown pc row m))
    (grown_from (AmongRows pc rows) (AmongRows pc (row ∷ rows)) (handler_marked pc row m) (handlers_marked pc rows (handler_marked pc row m))
    (λ x h a. (record { place = suc a.0.place; row = a.0.row; found = a.0.found; covered = a.0.covered; leads = a.0.leads }, a.1)) (handlers_grown pc rows (handler_marked pc row m)))

row_known : (pc : ℕ) (row : Row) (m : Marks) → covers pc row ≡ true → row.handler < length m.heights → HasSome (height_at (handler_marked pc row m).heights row.handler)
row_known pc row m covered below = rw covered (one_known row.handler 1 m below)

pub handlers_known : (pc : ℕ) (rows : List Row) (m : Marks) (k : ℕ) (row : Row) → slice_get rows k ≡ Some row → covers pc row ≡ true → row.handler < length m.heights
    → HasSome (height_at (handlers_marked pc rows m).heights row.handler)
handlers_known pc [] m k row e covered below = absurd (cc)
handlers_known pc (first ∷ rows) m zero row e covered below =
    let same : first ≡ row = ap (λ (o : Option Row). elim o [ Some r ↦ r | None ↦ first ]) e in
    let got = row_known pc first m (ap (covers pc) same ∙ covered) (subst (λ (r : Row). r.handler < length m.heights) (sym same) below) in
    let on = (handlers_grown pc rows (handler_marked pc first m)).kept first.handler got.0 got.1 in
    (got.0, ap (λ (r : Row). height_at (handlers_marked pc rows (handler_marked pc first m)).heights r.handler) (sym same) ∙ on)
handlers_known pc (first ∷ rows) m (suc k) row e covered below =
    handlers_known pc rows (handler_marked pc first m) k row e covered (let l = (row_grown pc first m).same_length in omega arith)
