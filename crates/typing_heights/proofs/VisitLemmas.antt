-- What a visit does, by its marks.
use Rattle.std.proofs.Common.{◌≡◌, ◌⊎◌, ℕ, zero, suc, ◌+◌, ◌<◌, ◌≤◌, Bool, true, false, eqb, ◌||◌, ◌&&◌, not, cond, List, [], ◌∷◌, length, map, Option, Some, None, refl, sym, ◌∙◌, ap, subst, inl, inr, arith, nat_lt}
use Rattle.std.specs.Prelude.{ℤ, pos, slice_get, is_some}
use Rattle.std.specs.List.{Contains, list_any, dedup, dedup_from}
use Rattle.std.specs.Ordering.{nat_cmp}
use Rattle.std.specs.List.Sorted.{IsStrictlyIncreasing, IsSorted, IsPermutation}
use Rattle.std.proofs.lemmas.Bool.{ltb-true}
use Rattle.std.proofs.lemmas.List.Sorted.{length_permutation, Contains-permutation, IsPermutation-sym}
use Rattle.std.proofs.lemmas.List.Kept.{Contains-dedup_nat, Contains-from_dedup}
use Rattle.std.proofs.lemmas.Map.Keys.{IsStrictlyIncreasing-dedup}
use Rattle.jo_prog.specs.declared.program.Program.{Program}
use Rattle.jo_prog.specs.declared.program.Row.{Row}
use Rattle.jo_prog.specs.declared.program.Code.{Code}
use Rattle.jo_prog.specs.InsnTyping.{covers, is_inside, insn_at}
use Rattle.jo_prog.specs.TypingPaths.{Typable, effect_at, successors_at, height_after, underflows, overflows, ends_at, falls_off, leads_outside, handler_outside, TakesStep}
use Rattle.typing_heights.specs.declared.spots.Onward.{Onward}
use Rattle.typing_heights.specs.Spots.{GoesOnward}
use Rattle.typing_heights.specs.Searches.{height_at, Gets, HasSome, Visits, VisitsOrRests}
use Rattle.typing_heights.specs.Marks.{Marks, all_marked, handlers_marked, unknown}
use Rattle.typing_heights.specs.Spreads.{spread_marks, IsSpread}
use Rattle.typing_heights.proofs.MarkLemmas.{Grown, Among, AmongRows, all_grown, all_known, handlers_grown, handlers_known}

or_false : (a b : Bool) → (a || b) ≡ false → (a ≡ false) × (b ≡ false)
or_false true b e = absurd (cc)
or_false false b e = (refl, e)

none_passes : {X : Type 0} (test : X → Bool) (xs : List X) (k : ℕ) (x : X) → list_any test xs ≡ false → slice_get xs k ≡ Some x → test x ≡ false
none_passes test [] k x e at = absurd (cc)
none_passes test (y ∷ xs) zero x e at = ap test (sym (ap (λ (o : Option _). elim o [ Some z ↦ z | None ↦ y ]) at)) ∙ (or_false (test y) (list_any test xs) e).0
none_passes test (y ∷ xs) (suc k) x e at = none_passes test xs k x (or_false (test y) (list_any test xs) e).1 at

contains_at : (xs : List ℤ) (x : ℤ) → Contains xs x → (k : ℕ) × (slice_get xs k ≡ Some x)
contains_at [] x c = absurd (let b = c.1 in omega arith)
contains_at (y ∷ xs) x (zero, b, e) = (0, ap (λ z. Some z) e)
contains_at (y ∷ xs) x (suc k, b, e) = let r = contains_at xs x (k, omega arith, e) in (suc r.0, r.1)

pub of_pos : (xs : List ℕ) (x : ℕ) → Contains (map pos xs) (pos x) → Contains xs x
of_pos [] x c = absurd (let b = c.1 in omega arith)
of_pos (y ∷ xs) x (zero, b, e) = (0, omega arith, cc)
of_pos (y ∷ xs) x (suc k, b, e) = let r = of_pos xs x (k, omega arith, e) in (suc r.0, (let l = r.1 in omega arith), r.2)

pub to_pos : (xs : List ℕ) (x : ℕ) → Contains xs x → Contains (map pos xs) (pos x)
to_pos [] x c = absurd (let b = c.1 in omega arith)
to_pos (y ∷ xs) x (zero, b, e) = (0, omega arith, ap pos e)
to_pos (y ∷ xs) x (suc k, b, e) = let r = to_pos xs x (k, omega arith, e) in (suc r.0, (let l = r.1 in omega arith), r.2)

inside_below : (code : Code) (x : ℕ) → not (is_inside code (pos x)) ≡ false → x < length code.bytes
inside_below code x e = grind (arith, e)

not_covered : (a b : Bool) → (a && not b) ≡ false → a ≡ true → b ≡ true
not_covered true true e f = refl
not_covered true false e f = absurd (cc)
not_covered false b e f = absurd (cc)

or_none : (o : Option ℕ) → (o ≡ None) ⊎ HasSome o
or_none None = inl refl
or_none (Some h) = inr (h, refl)

some_same : (o : Option ℕ) (a b : ℕ) → o ≡ Some a → o ≡ Some b → a ≡ b
some_same o a b e f = ap (λ (p : Option ℕ). elim p [ Some x ↦ x | None ↦ a ]) (sym e ∙ f)

abbrev plain_marks : ℕ → List ℕ → List (Option ℕ) → Marks
plain_marks height plain old = all_marked height plain (record { heights = old; found = [] })

-- the marks of plain steps, and behind them those of handlers
record TwoMarks (t : Typable) (pc after : ℕ) (plain : List ℕ) (old m n : Marks) : Type 0 where
  first : Grown (Among after plain) old m
  second : Grown (AmongRows pc t.code.rows) m n
  plain_known : (x : ℕ) → Contains plain x → HasSome (height_at m.heights x)
  row_known : (k : ℕ) (row : Row) → slice_get t.code.rows k ≡ Some row → covers pc row ≡ true → HasSome (height_at n.heights row.handler)
  plain_is : map pos plain ≡ successors_at t.code pc
  none_yet : old.found ≡ []

visits_from : (program : Program) (t : Typable) (pc height after : ℕ) (plain : List ℕ) (old m n : Marks) (found : List ℕ) → TwoMarks t pc after plain old m n
    → after ≡ height_after (effect_at program t pc) height → IsStrictlyIncreasing found
    → ((x : ℕ) → Contains found x → Contains n.found x) → ((x : ℕ) → Contains n.found x → Contains found x)
    → Visits program t pc height old.heights n.heights found
visits_from program t pc height after plain old m n found two same rises only every = record {
  kept = λ x h e. two.second.kept x h (two.first.kept x h e);
  gets = λ x h none some. gets_by x h none some (or_none (height_at m.heights x));
  all = all_by;
  rises = rises;
  is_new = λ x c. new_by x (two.second.is_found x (only x c));
  has_new = λ x h none some. every x (has_by x h none some (or_none (height_at m.heights x)));
}
  where
    plain_of : (x : ℕ) → Contains (successors_at t.code pc) (pos x) → Contains plain x
    plain_of x c = of_pos plain x (subst (λ (l : List ℤ). Contains l (pos x)) (sym two.plain_is) c)

    never_both : (o : Option ℕ) (h : ℕ) → o ≡ None → o ≡ Some h → ⊥
    never_both o h a b = absurd (cc)

    gets_by : (x h : ℕ) → height_at old.heights x ≡ None → height_at n.heights x ≡ Some h → (height_at m.heights x ≡ None) ⊎ HasSome (height_at m.heights x) → Gets program t pc height x h
    gets_by x h none some (inl still) =
        let from = two.second.fresh x h still some in
        record {
          row = Some from.0.place;
          takes = record { row = from.0.row; found = from.0.found; covered = from.0.covered; leads = from.0.leads };
          plain_first = λ takes. absurd (let k = two.plain_known x (plain_of x takes) in never_both (height_at m.heights x) k.0 still k.1);
          same_height = from.1;
        }
    gets_by x h none some (inr got) =
        let from = two.first.fresh x got.0 none got.1 in
        record {
          row = None;
          takes = subst (λ (l : List ℤ). Contains l (pos x)) two.plain_is (to_pos plain x from.0);
          plain_first = λ takes. refl;
          same_height = some_same (height_at n.heights x) h got.0 some (two.second.kept x got.0 got.1) ∙ from.1 ∙ same;
        }

    all_by : (row : Option ℕ) (x : ℕ) → TakesStep t.code pc row x → HasSome (height_at n.heights x)
    all_by None x takes = let k = two.plain_known x (plain_of x takes) in (k.0, two.second.kept x k.0 k.1)
    all_by (Some place) x takes = subst (λ (y : ℕ). HasSome (height_at n.heights y)) takes.leads (two.row_known place takes.row takes.found takes.covered)

    before : (x : ℕ) → height_at m.heights x ≡ None → (height_at old.heights x ≡ None) ⊎ HasSome (height_at old.heights x) → height_at old.heights x ≡ None
    before x none (inl e) = e
    before x none (inr s) = absurd (never_both (height_at m.heights x) s.0 none (two.first.kept x s.0 s.1))

    first_by : (x : ℕ) → Contains old.found x ⊎ ((height_at old.heights x ≡ None) × HasSome (height_at m.heights x)) → (height_at old.heights x ≡ None) × HasSome (height_at n.heights x)
    first_by x (inl c) = absurd (let d = subst (λ (l : List ℕ). Contains l x) two.none_yet c in let b = d.1 in omega arith)
    first_by x (inr p) = (p.0, (p.1.0, two.second.kept x p.1.0 p.1.1))

    new_by : (x : ℕ) → Contains m.found x ⊎ ((height_at m.heights x ≡ None) × HasSome (height_at n.heights x)) → (height_at old.heights x ≡ None) × HasSome (height_at n.heights x)
    new_by x (inl c) = first_by x (two.first.is_found x c)
    new_by x (inr p) = (before x p.0 (or_none (height_at old.heights x)), p.1)

    has_by : (x h : ℕ) → height_at old.heights x ≡ None → height_at n.heights x ≡ Some h → (height_at m.heights x ≡ None) ⊎ HasSome (height_at m.heights x) → Contains n.found x
    has_by x h none some (inl still) = two.second.has_found x h still some
    has_by x h none some (inr got) = two.second.had x (two.first.has_found x got.0 none got.1)

-- what goes on stays in the code
stays : (program : Program) (t : Typable) (pc height : ℕ) → ends_at program t pc height ≡ false → falls_off t.code pc ≡ false
stays program t pc height live = (or_false (underflows program t pc height || overflows program t pc height) (falls_off t.code pc) live).1

two_marks : (program : Program) (t : Typable) (pc height after : ℕ) (plain : List ℕ) (old : List (Option ℕ)) → ends_at program t pc height ≡ false → map pos plain ≡ successors_at t.code pc
    → length t.code.bytes < length old
    → TwoMarks t pc after plain (record { heights = old; found = [] }) (plain_marks after plain old) (spread_marks pc t.code.rows after plain old)
two_marks program t pc height after plain old live is room = record {
  first = all_grown after plain (record { heights = old; found = [] });
  second = handlers_grown pc t.code.rows (plain_marks after plain old);
  plain_known = λ x c. all_known after plain (record { heights = old; found = [] }) x c (plain_below x c);
  row_known = λ k row at covered. handlers_known pc t.code.rows (plain_marks after plain old) k row at covered (row_below k row at covered);
  plain_is = is;
  none_yet = refl;
}
  where
    parts : (leads_outside t.code (successors_at t.code pc) ≡ false) × (list_any (handler_outside t.code pc) t.code.rows ≡ false)
    parts =
        let both = or_false (not (is_some (insn_at t.code pc)) || leads_outside t.code (successors_at t.code pc)) (list_any (handler_outside t.code pc) t.code.rows) (stays program t pc height live) in
        ((or_false (not (is_some (insn_at t.code pc))) (leads_outside t.code (successors_at t.code pc)) both.0).1, both.1)

    plain_below : (x : ℕ) → Contains plain x → x < length old
    plain_below x c =
        let at = contains_at (successors_at t.code pc) (pos x) (subst (λ (l : List ℤ). Contains l (pos x)) is (to_pos plain x c)) in
        let b = inside_below t.code x (none_passes (λ target. not (is_inside t.code target)) (successors_at t.code pc) at.0 (pos x) parts.0 at.1) in
        omega arith

    row_below : (k : ℕ) (row : Row) → slice_get t.code.rows k ≡ Some row → covers pc row ≡ true → row.handler < length (plain_marks after plain old).heights
    row_below k row at covered =
        let b = ltb-true row.handler (length t.code.bytes) (not_covered (covers pc row) (nat_lt row.handler (length t.code.bytes)) (none_passes (handler_outside t.code pc) t.code.rows k row parts.1 at) covered) in
        let l = (all_grown after plain (record { heights = old; found = [] })).same_length in
        omega arith

-- after a sort and a `dedup`
pub spreads : (program : Program) (t : Typable) (pc height : ℕ) (old new : List (Option ℕ)) (onward : Onward) (found : List ℕ) → GoesOnward program t pc height onward
    → length t.code.bytes < length old → IsSpread t.code pc onward old new found → VisitsOrRests program t pc height old new found
spreads program t pc height old new onward found goes room is =
    let marks = spread_marks pc t.code.rows onward.height onward.plain old in
    let once : Visits program t pc height old marks.heights (dedup eqb is.sorted) =
    visits_from program t pc height onward.height onward.plain (record { heights = old; found = [] }) (plain_marks onward.height onward.plain old)
    marks (dedup eqb is.sorted) (two_marks program t pc height onward.height onward.plain old goes.live goes.plain room) goes.same_height
    (IsStrictlyIncreasing-dedup is.sorted is.in_order)
    (λ x c. Contains-permutation is.sorted marks.found x (IsPermutation-sym marks.found is.sorted is.moved) (Contains-from_dedup eqb is.sorted x c))
    (λ x c. Contains-dedup_nat is.sorted x (Contains-permutation marks.found is.sorted x is.moved c)) in
    inl (
      goes.live,
      subst (λ (l : List ℕ). Visits program t pc height old new l) (sym is.once)
          (subst (λ (h : List (Option ℕ)). Visits program t pc height old h (dedup eqb is.sorted)) (sym is.heights) once),
    )

fewer_from : (k : ℕ) (xs : List ℕ) → length (dedup_from eqb k xs) ≤ suc (length xs)
fewer_from k [] = omega arith
fewer_from k (x ∷ xs) = by_test (eqb x k) (fewer_from k xs) (fewer_from x xs)
  where
    by_test : (b : Bool) → length (dedup_from eqb k xs) ≤ suc (length xs) → length (dedup_from eqb x xs) ≤ suc (length xs)
        → length (cond b (dedup_from eqb k xs) (k ∷ dedup_from eqb x xs)) ≤ suc (suc (length xs))
    by_test true h g = omega arith
    by_test false h g = omega arith

fewer_left : (xs : List ℕ) → length (dedup eqb xs) ≤ length xs
fewer_left [] = omega arith
fewer_left (x ∷ xs) = fewer_from x xs

pub spread_counts : (t : Typable) (pc : ℕ) (old new : List (Option ℕ)) (onward : Onward) (found : List ℕ) → IsSpread t.code pc onward old new found
    → length found + unknown new ≤ unknown old
spread_counts t pc old new onward found is =
    let plain = plain_marks onward.height onward.plain old in
    let marks = spread_marks pc t.code.rows onward.height onward.plain old in
    let moved = length_permutation marks.found is.sorted is.moved in
    let second = (handlers_grown pc t.code.rows plain).counted in
    let first = (all_grown onward.height onward.plain (record { heights = old; found = [] })).counted in
    let same = ap unknown is.heights in
    let few = subst (λ (l : List ℕ). length l ≤ length is.sorted) (sym is.once) (fewer_left is.sorted) in
    omega arith

pub spread_is : (code : Code) (pc : ℕ) (onward : Onward) (old heights1 heights2 : List (Option ℕ)) (found1 found2 sorted found : List ℕ)
    → ◌≡◌ {A = Marks} (record { heights = heights1; found = found1 }) (all_marked onward.height onward.plain (record { heights = old; found = [] }))
    → ◌≡◌ {A = Marks} (record { heights = heights2; found = found2 }) (handlers_marked pc code.rows (record { heights = heights1; found = found1 }))
    → IsPermutation found2 sorted → IsSorted nat_cmp sorted → found ≡ dedup eqb sorted → IsSpread code pc onward old heights2 found
spread_is code pc onward old heights1 heights2 found1 found2 sorted found first second moved in_order once = record {
  heights = ap (λ (m : Marks). m.heights) both;
  sorted = sorted;
  moved = subst (λ (l : List ℕ). IsPermutation l sorted) (ap (λ (m : Marks). m.found) both) moved;
  in_order = in_order;
  once = once;
}
  where
    both : ◌≡◌ {A = Marks} (record { heights = heights2; found = found2 }) (spread_marks pc code.rows onward.height onward.plain old)
    both = second ∙ ap (handlers_marked pc code.rows) first

pub rests : (program : Program) (t : Typable) (pc height : ℕ) (heights : List (Option ℕ)) → ends_at program t pc height ≡ true → VisitsOrRests program t pc height heights heights []
rests program t pc height heights ends = inr (ends, record { same = refl; none = refl })
