-- Bytes read one by one against a grammar whose characters are bytes in ranges: modified UTF-8 and UTF-8.
use Rattle.std.proofs.Common.{◌≡◌, ℕ, zero, suc, ◌+◌, ◌-◌, ◌<◌, ◌≤◌, ◌↔◌, Bool, true, false, cond, List, [], ◌∷◌, ◌++◌, length, take, drop, get_or, refl, sym, subst, append_assoc, append-nil, arith, lit≤, take_all}
use Rattle.std.proofs.lemmas.List.{take_more, take-append-drop}
use Rattle.std.proofs.lemmas.Option.{same_Some}
use Rattle.std.specs.Prelude.{Option, Some, None, MatchOption}
use Rattle.jo_text.specs.Texts.{BeginsText, StopsAt}
use Rattle.jo_text.specs.CharScan.{continued, Completes, Awaits, GoesOn}
use Rattle.jo_text.specs.declared.mutf8.Awaited.{Awaited}

module _ (IsText : List ℕ → Type 0) where
  module _ (front : List ℕ) (a : Awaited) (byte : ℕ) (h : Awaits IsText front a) where
    further : (rest : List ℕ) → IsText ((front ++ byte ∷ []) ++ rest) ↔ Completes IsText a.count a.least a.most (byte ∷ rest)
    further rest = rw (append_assoc front (byte ∷ []) rest) (h.exact (byte ∷ rest))

    -- a byte is awaited, and this one is it or not
    module _ (more : a.count ≡ 0 → ⊥) where
      count_is : a.count ≡ suc (a.count - 1)
      count_is = omega arith

      pub byte_within : (next : Awaited) → next ≡ continued (a.count - 1) → a.least ≤ byte → byte ≤ a.most → Awaits IsText (front ++ byte ∷ []) next
      byte_within next is low high = rw is (record {
        some = lit≤ tt;
        exact = λ rest.
            let P : ℕ → Type 0 = λ k. Completes IsText k a.least a.most (byte ∷ rest) in
            (λ t. (subst P count_is ((further rest).0 t)).2, λ t. (further rest).1 (subst P (sym count_is) (low, high, t)));
      })

      pub byte_outside : (a.least ≤ byte → byte ≤ a.most → ⊥) → BeginsText IsText (front ++ byte ∷ []) → ⊥
      byte_outside out t =
          let P : ℕ → Type 0 = λ k. Completes IsText k a.least a.most (byte ∷ t.0) in
          let c = subst P count_is ((further t.0).0 t.1) in
          out c.0 c.1

    -- none is awaited, and a character begins
    pub byte_leads : (next : Option Awaited) → a.count ≡ 0 → GoesOn IsText [] byte next → GoesOn IsText front byte next
    byte_leads next none g = by next g
      where
        same : (rest : List ℕ) → IsText ((front ++ byte ∷ []) ++ rest) ↔ IsText (byte ∷ rest)
        same rest = let P : ℕ → Type 0 = λ k. Completes IsText k a.least a.most (byte ∷ rest) in
            (λ t. subst P none ((further rest).0 t), λ t. (further rest).1 (subst P (sym none) t))

        by : (o : Option Awaited) → GoesOn IsText [] byte o → GoesOn IsText front byte o
        by None g = λ t. g (t.0, (same t.0).0 t.1)
        by (Some b) g = record { some = g.some; exact = λ rest. (λ t. (g.exact rest).0 ((same rest).0 t), λ t. (same rest).1 ((g.exact rest).1 t)) }

  -- what is awaited can come, so that some text begins with the bytes
  completion : (n least most : ℕ) → IsText [] → least ≤ most → (rest : List ℕ) × Completes IsText n least most rest
  completion zero least most empty some = ([], empty)
  completion (suc n) least most empty some = let more = completion n 0x80 0xBF empty (lit≤ tt) in (least ∷ more.0, (omega arith, some, more.1))

  begins : (front : List ℕ) (a : Awaited) → IsText [] → Awaits IsText front a → BeginsText IsText front
  begins front a empty h = let c = completion a.count a.least a.most empty h.some in (c.0, (h.exact c.0).1 c.1)

  -- where none is awaited the bytes are a text, and elsewhere they stop too early
  pub whole_text : (front : List ℕ) (a : Awaited) → Awaits IsText front a → a.count ≡ 0 → IsText [] → IsText front
  whole_text front a h none empty =
      let P : ℕ → Type 0 = λ k. Completes IsText k a.least a.most [] in
      subst IsText (append-nil front) ((h.exact []).1 (subst P (sym none) empty))

  pub stops_short : (bytes : List ℕ) (a : Awaited) → IsText [] → Awaits IsText bytes a → (a.count ≡ 0 → ⊥) → StopsAt IsText bytes (length bytes)
  stops_short bytes a empty h more = record {
    inside = omega arith;
    before = subst (BeginsText IsText) (sym (take_all (length bytes) bytes (omega arith))) (begins bytes a empty h);
    there = λ lt. absurd (omega arith);
    whole = λ t.
        let P : ℕ → Type 0 = λ k. Completes IsText k a.least a.most [] in
        let is : a.count ≡ suc (a.count - 1) = omega arith in
        subst P is ((h.exact []).0 (subst IsText (sym (append-nil bytes)) t));
  }

  -- no text goes on with the byte at i
  pub stops_at : (bytes : List ℕ) (i : ℕ) (a : Awaited) → IsText [] → Awaits IsText (take i bytes) a → i < length bytes
      → (BeginsText IsText (take i bytes ++ get_or bytes i 0 ∷ []) → ⊥) → StopsAt IsText bytes i
  stops_at bytes i a empty h lt stop =
      let stops : BeginsText IsText (take (i + 1) bytes) → ⊥ = rw (take_more bytes i 0 lt) stop in
      record {
        inside = omega arith;
        before = begins (take i bytes) a empty h;
        there = λ _. stops;
        whole = λ t. stops (drop (i + 1) bytes, subst IsText (sym (take-append-drop (i + 1) bytes)) t);
      }

  -- ---- the byte at a place, where the bytes before it are read

  module _ (bytes : List ℕ) (i : ℕ) (a : Awaited) (h : Awaits IsText (take i bytes) a) (lt : i < length bytes) where
    pub leads_at : (lead : Option Awaited) → IsText [] → a.count ≡ 0 → GoesOn IsText [] (get_or bytes i 0) lead → MatchOption lead (StopsAt IsText bytes i) (Awaits IsText (take (i + 1) bytes))
    leads_at None empty none g = stops_at bytes i a empty h lt (byte_leads (take i bytes) a _ h None none g)
    leads_at (Some b) empty none g = rw (take_more bytes i 0 lt) (byte_leads (take i bytes) a _ h (Some b) none g)

    module _ (more : a.count ≡ 0 → ⊥) where
      pub within_at : a.least ≤ get_or bytes i 0 → get_or bytes i 0 ≤ a.most → (j : ℕ) → j ≡ i + 1 → Awaits IsText (take j bytes) (continued (a.count - 1))
      within_at low high j next = rw (next, take_more bytes i 0 lt) (byte_within (take i bytes) a _ h more _ refl low high)

      pub outside_at : IsText [] → (a.least ≤ get_or bytes i 0 → get_or bytes i 0 ≤ a.most → ⊥) → StopsAt IsText bytes i
      outside_at empty out = stops_at bytes i a empty h lt (byte_outside (take i bytes) a _ h more out)

  -- ---- the first byte of a character, for a function that says what each asks for

  -- behind the byte, what is awaited makes a text; and a text is as awaited
  abbrev pub Spells : ℕ → Awaited → Type 0
  Spells b a = (a.least ≤ a.most) × ((rest : List ℕ) → Completes IsText a.count a.least a.most rest → IsText (b ∷ rest))

  abbrev pub Follows : Option Awaited → List ℕ → Type 0
  Follows lead rest = (a : Awaited) × (lead ≡ Some a) × Completes IsText a.count a.least a.most rest

  pub lead_goes_on : (b : ℕ) (lead : Option Awaited) → ((rest : List ℕ) → IsText (b ∷ rest) → Follows lead rest) → MatchOption lead (Unit {0}) (Spells b) → GoesOn IsText [] b lead
  lead_goes_on b None follows h = λ t. let f = follows t.0 t.1 in let is = f.1 in absurd cc
  lead_goes_on b (Some a) follows h = record {
    some = h.0;
    exact = λ rest. (
      λ t.
          let f = follows rest t in
          let P : Awaited → Type 0 = λ x. Completes IsText x.count x.least x.most rest in
          subst P (sym (same_Some a f.0 f.1)) f.2,
      h.1 rest,
    );
  }

  module _ (b least most : ℕ) (some : least ≤ most) where
    pub two_bytes : ((y : ℕ) (rest : List ℕ) → least ≤ y → y ≤ most → IsText rest → IsText (b ∷ y ∷ rest)) → Spells b (record { count = 1; least = least; most = most })
    two_bytes cons = (some, λ rest h. by rest h)
      where
        by : (rest : List ℕ) → Completes IsText 1 least most rest → IsText (b ∷ rest)
        by [] h = absurd h
        by (y ∷ rest) h = cons y rest h.0 h.1 h.2

    pub three_bytes : ((y z : ℕ) (rest : List ℕ) → least ≤ y → y ≤ most → 0x80 ≤ z → z ≤ 0xBF → IsText rest → IsText (b ∷ y ∷ z ∷ rest))
        → Spells b (record { count = 2; least = least; most = most })
    three_bytes cons = (some, λ rest h. by rest h)
      where
        by : (rest : List ℕ) → Completes IsText 2 least most rest → IsText (b ∷ rest)
        by [] h = absurd h
        by (y ∷ []) h = absurd h.2
        by (y ∷ z ∷ rest) h = cons y z rest h.0 h.1 h.2.0 h.2.1 h.2.2

    pub four_bytes : ((y z w : ℕ) (rest : List ℕ) → least ≤ y → y ≤ most → 0x80 ≤ z → z ≤ 0xBF → 0x80 ≤ w → w ≤ 0xBF → IsText rest → IsText (b ∷ y ∷ z ∷ w ∷ rest))
        → Spells b (record { count = 3; least = least; most = most })
    four_bytes cons = (some, λ rest h. by rest h)
      where
        by : (rest : List ℕ) → Completes IsText 3 least most rest → IsText (b ∷ rest)
        by [] h = absurd h
        by (y ∷ []) h = absurd h.2
        by (y ∷ z ∷ []) h = absurd h.2.2
        by (y ∷ z ∷ w ∷ rest) h = cons y z w rest h.0 h.1 h.2.0 h.2.1 h.2.2.0 h.2.2.1 h.2.2.2

-- a choice has what both of its values have
pub by_test : {A : Type 0} (P : A → Type 0) (t : Bool) (x y : A) → (t ≡ true → P x) → (t ≡ false → P y) → P (cond t x y)
by_test P true x y holds fails = holds refl
by_test P false x y holds fails = fails refl
