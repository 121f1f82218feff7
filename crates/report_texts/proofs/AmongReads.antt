-- One of some words is read, of which none begins another.
use Rattle.std.proofs.Common.{◌≡◌, ◌⊎◌, inl, inr, ℕ, suc, ◌+◌, ◌≤◌, Bool, true, false, cond, List, [], ◌∷◌, ◌++◌, length, Result, Ok, Err, refl, sym, ap, ◌∙◌, subst, arith, append_assoc, append-nil, length-append}
use Rattle.std.specs.Prelude.{◌==◌, ◌&&◌, nat_lt, if◌then◌else◌}
use Rattle.std.specs.List.{list_all}
use Rattle.std.proofs.lemmas.Bool.{true≢false, and_parts}
use Rattle.std.proofs.lemmas.Bool.Decides.{nat_tests}
use Rattle.std.proofs.lemmas.List.{append_cancel_left, append_cancel_right}
use Rattle.report_texts.specs.Parts.{Is, Joined, IsOneOf}
use Rattle.report_texts.specs.Reading.{Left, ◌>>=◌, word, among, shorter}
use Rattle.report_texts.proofs.Steps.{Any, Alike, alike_behind, Goes, Stops, Reads, Good, good_word}

-- ---- words of which none begins another

abbrev pub are_apart : List ℕ → List ℕ → Bool
are_apart [] other = false
are_apart (a ∷ one) [] = false
are_apart (a ∷ one) (b ∷ other) = if a == b then are_apart one other else true

never_alike : (one other r s : List ℕ) → are_apart one other ≡ true → one ++ r ≡ other ++ s → ⊥
never_alike [] other r s test is = true≢false (sym test)
never_alike (a ∷ one) [] r s test is = true≢false (sym test)
never_alike (a ∷ one) (b ∷ other) r s test is = by (λ e. never_alike one other r s e (cc)) (a == b) refl test
  where
    by : (are_apart one other ≡ true → ⊥) → (v : Bool) → (a == b) ≡ v → cond v (are_apart one other) true ≡ true → ⊥
    by inner true same e = inner e
    by inner false same e = let first : a ≡ b = cc in absurd (grind (arith, nat_tests))

module _ {T : Type 0} where
  abbrev pub all_apart : List (List ℕ × T) → Bool
  all_apart [] = true
  all_apart (row ∷ rows) = list_all (λ other. are_apart row.0 other.0) rows && all_apart rows

  abbrev pub Apart : List (List ℕ × T) → Type 0
  Apart rows = (one other : List ℕ × T) → IsOneOf rows one → IsOneOf rows other → (r s : List ℕ) → one.0 ++ r ≡ other.0 ++ s → one ≡ other

  among_all : (test : List ℕ × T → Bool) (rows : List (List ℕ × T)) (row : List ℕ × T) → list_all test rows ≡ true → IsOneOf rows row → test row ≡ true
  among_all test [] row all there = absurd there
  among_all test (first ∷ rows) row all (inl is) = ap test is ∙ (and_parts (test first) (list_all test rows) all).0
  among_all test (first ∷ rows) row all (inr there) = among_all test rows row (and_parts (test first) (list_all test rows) all).1 there

  pub apart_by_test : (rows : List (List ℕ × T)) → all_apart rows ≡ true → Apart rows
  apart_by_test [] test one other first second r s is = absurd first
  apart_by_test (row ∷ rows) test one other (inl a) (inl b) r s is = a ∙ sym b
  apart_by_test (row ∷ rows) test one other (inl a) (inr b) r s is =
      let p = and_parts (list_all (λ o. are_apart row.0 o.0) rows) (all_apart rows) test in
      absurd (never_alike row.0 other.0 r s (among_all (λ o. are_apart row.0 o.0) rows other p.0 b) (ap (λ (x : List ℕ × T). x.0 ++ r) (sym a) ∙ is))
  apart_by_test (row ∷ rows) test one other (inr a) (inl b) r s is =
      let p = and_parts (list_all (λ o. are_apart row.0 o.0) rows) (all_apart rows) test in
      absurd (never_alike row.0 one.0 s r (among_all (λ o. are_apart row.0 o.0) rows one p.0 a) (ap (λ (x : List ℕ × T). x.0 ++ s) (sym b) ∙ sym is))
  apart_by_test (row ∷ rows) test one other (inr a) (inr b) r s is =
      apart_by_test rows (and_parts (list_all (λ o. are_apart row.0 o.0) rows) (all_apart rows) test).1 one other a b r s is

-- ---- which row is read

suffix : (f a g b : List ℕ) → f ++ a ≡ g ++ b → length b ≤ length a → (h : List ℕ) × (a ≡ h ++ b)
suffix [] a g b is le = (g, is)
suffix (x ∷ f) a [] b is le =
    let size : suc (length (f ++ a)) ≡ length b = ap length is in
    let sum : length (f ++ a) ≡ length f + length a = length-append f a in
    absurd (omega arith)
suffix (x ∷ f) a (y ∷ g) b is le = suffix f a g b (cc) le

module _ (text : List ℕ) where
  -- no text goes on from there with the word
  abbrev Misses : List ℕ → List ℕ → Type 0
  Misses w stop = (front : List ℕ) → text ≡ front ++ stop → (k more : List ℕ) → Alike more stop → w ++ k ≡ front ++ more → ⊥

  misses_later : (w front stop left : List ℕ) → text ≡ front ++ stop → Misses w stop → length left ≤ length stop → Misses w left
  misses_later w front stop left parts missed le = λ later parts_later k more alike is.
      let g = suffix front stop later left (sym parts ∙ parts_later) le in
      let whole : (front ++ g.0) ++ left ≡ later ++ left = append_assoc front g.0 left ∙ ap (λ (t : List ℕ). front ++ t) (sym g.1) ∙ sym parts ∙ parts_later in
      let same : front ++ g.0 ≡ later = append_cancel_right (front ++ g.0) later left whole in
      let near : Alike (g.0 ++ more) stop = subst (λ (t : List ℕ). Alike (g.0 ++ more) t) (sym g.1) (alike_behind g.0 more left alike) in
      missed front parts k (g.0 ++ more) near (is ∙ ap (λ (t : List ℕ). t ++ more) (sym same) ∙ append_assoc front g.0 more)

module _ {T : Type 0} (text : List ℕ) where
  -- the text up to there begins a word
  record Begun (all : List (List ℕ × T)) (stop : List ℕ) : Type 0 where
    front : List ℕ
    parts : text ≡ front ++ stop
    row : List ℕ × T
    there : IsOneOf all row
    more : List ℕ
    begins : row.0 ≡ front ++ more

  pub record BreaksOff (all : List (List ℕ × T)) (stop : List ℕ) : Type 0 where
    pub front : List ℕ
    pub parts : text ≡ front ++ stop
    pub row : List ℕ × T
    pub there : IsOneOf all row
    pub more : List ℕ
    pub begins : row.0 ≡ front ++ more
    pub none : (row : List ℕ × T) → IsOneOf all row → (k more : List ℕ) → Alike more stop → row.0 ++ k ≡ front ++ more → ⊥

  pub record FindsRow (all : List (List ℕ × T)) (given : T) (rest : List ℕ) : Type 0 where
    pub found : List ℕ
    pub there : IsOneOf all (found, given)
    pub parts : text ≡ found ++ rest

  abbrev pub Chosen : List (List ℕ × T) → Result (T × List ℕ) (List ℕ) → Type 0
  Chosen all (Ok row) = FindsRow all row.0 row.1
  Chosen all (Err stop) = BreaksOff all stop

  module _ (all : List (List ℕ × T)) where
    abbrev Before : List (List ℕ × T) → List ℕ → Type 0
    Before rows stop = (row : List ℕ × T) → IsOneOf all row → IsOneOf rows row ⊎ Misses text row.0 stop

    finds : (row : List ℕ × T) → IsOneOf all row → (rest : List ℕ) → Goes (Is row.0) Any text rest → FindsRow all row.1 rest
    finds row there rest g = record { found = row.0; there = there; parts = g.parts ∙ ap (λ (t : List ℕ). t ++ rest) g.is }

    missed : (w left : List ℕ) → Stops (Is w) Any text left → Misses text w left
    missed w left s = λ front parts k more alike is.
        let same : s.front ≡ front = append_cancel_right s.front front left (sym s.parts ∙ parts) in
        s.none w k more alike refl tt (is ∙ ap (λ (t : List ℕ). t ++ more) (sym same))

    begun_there : (row : List ℕ × T) → IsOneOf all row → (left : List ℕ) → Stops (Is row.0) (Is []) text left → Begun all left
    begun_there row there left s = record {
      front = s.front;
      parts = s.parts;
      row = row;
      there = there;
      more = s.more;
      begins = sym s.goes.first ∙ sym (append-nil s.goes.front) ∙ ap (λ (t : List ℕ). s.goes.front ++ t) (sym s.goes.second) ∙ sym s.goes.parts;
    }

    abbrev Goal : List ℕ → List (List ℕ × T) → Type 0
    Goal stop rows = Begun all stop → Before rows stop → ((row : List ℕ × T) → IsOneOf rows row → IsOneOf all row) → Chosen all (among stop rows text)

    passed : (row : List ℕ × T) (rows : List (List ℕ × T)) (stop left : List ℕ) → IsOneOf all row → ((stop : List ℕ) → Goal stop rows) → Begun all stop → Before (row ∷ rows) stop
        → ((r : List ℕ × T) → IsOneOf rows r → IsOneOf all r) → Stops (Is row.0) Any text left → Stops (Is row.0) (Is []) text left → (v : Bool) → nat_lt (length left) (length stop) ≡ v → Chosen all (among (cond v left stop) rows text)
    passed row rows stop left there goal begun before inside any whole true less =
        goal left (begun_there row there left whole) (λ r is. by r (before r is)) inside
      where
        by : (r : List ℕ × T) → IsOneOf (row ∷ rows) r ⊎ Misses text r.0 stop → IsOneOf rows r ⊎ Misses text r.0 left
        by r (inl (inl same)) = inr (subst (λ (w : List ℕ). Misses text w left) (ap (λ (x : List ℕ × T). x.0) (sym same)) (missed row.0 left any))
        by r (inl (inr later)) = inl later
        by r (inr m) = inr (misses_later text r.0 begun.front stop left begun.parts m (grind (arith, nat_tests)))
    passed row rows stop left there goal begun before inside any whole false less =
        goal stop begun (λ r is. by r (before r is)) inside
      where
        by : (r : List ℕ × T) → IsOneOf (row ∷ rows) r ⊎ Misses text r.0 stop → IsOneOf rows r ⊎ Misses text r.0 stop
        by r (inl (inl same)) = inr (subst (λ (w : List ℕ). Misses text w stop) (ap (λ (x : List ℕ × T). x.0) (sym same)) (misses_later text row.0 any.front left stop any.parts (missed row.0 left any) (grind (arith, nat_tests))))
        by r (inl (inr later)) = inl later
        by r (inr m) = inr m

    rows_read : (stop : List ℕ) (rows : List (List ℕ × T)) → Goal stop rows
    unfolding among
    rows_read stop [] begun before inside = record {
      front = begun.front;
      parts = begun.parts;
      row = begun.row;
      there = begun.there;
      more = begun.more;
      begins = begun.begins;
      none = λ row there k more alike is. by row (before row there) k more alike is;
    }
      where
        by : (row : List ℕ × T) → IsOneOf [] row ⊎ Misses text row.0 stop → (k more : List ℕ) → Alike more stop → row.0 ++ k ≡ begun.front ++ more → ⊥
        by row (inl there) k more alike is = there
        by row (inr m) k more alike is = m begun.front begun.parts k more alike is
    rows_read stop (row ∷ rows) begun before inside =
        by (word row.0 text) (λ s. rows_read s rows) ((good_word row.0).reads Any (λ k h. tt) [] tt text) ((good_word row.0).reads (Is []) (λ k h. tt) [] refl text)
      where
        by : (read : Left) → ((s : List ℕ) → Goal s rows) → Reads (Is row.0) Any text read → Reads (Is row.0) (Is []) text read
            → Chosen all (elim read [ Ok rest ↦ Ok (row.1, rest) | Err left ↦ among (shorter stop left) rows text ])
        by (Ok rest) goal any whole = finds row (inside row (inl refl)) rest any
        by (Err left) goal any whole = passed row rows stop left (inside row (inl refl)) goal begun before (λ r is. inside r (inr is)) any whole (nat_lt (length left) (length stop)) refl

    pub row_read : (row : List ℕ × T) → IsOneOf all row → Chosen all (among text all text)
    row_read row there = rows_read text all (record { front = []; parts = refl; row = row; there = there; more = row.0; begins = refl }) (λ r is. inl is) (λ r is. is)

-- ---- a word, and what it asks for

module _ {T : Type 0} (all : List (List ℕ × T)) (Tail : T → List ℕ → Type 0) where
  abbrev pub OneOf : List ℕ → Type 0
  OneOf text = (row : List ℕ × T) × IsOneOf all row × Joined (Is row.0) (Tail row.1) text

  module _ (apart : Apart all) {F : List ℕ → Type 0} (next : T → List ℕ → Left) (tails : (t : T) → Good F (Tail t) (next t)) (K : List ℕ → Type 0) (fits : (k : List ℕ) → K k → F k) (k0 : List ℕ) (is_k0 : K k0) (text : List ℕ) where
    split : (x k text : List ℕ) (o : OneOf x) → x ++ k ≡ text → o.0.0 ++ (o.2.rest ++ k) ≡ text
    split x k text o is = sym (append_assoc o.0.0 o.2.rest k) ∙ ap (λ (t : List ℕ). (t ++ o.2.rest) ++ k) (sym o.2.first) ∙ ap (λ (t : List ℕ). t ++ k) (sym o.2.parts) ∙ is

    broken : (stop : List ℕ) → BreaksOff text all stop → Stops OneOf K text stop
    broken stop b =
        let tail = tails b.row.1 in
        record {
          front = b.front;
          parts = b.parts;
          more = b.more ++ (tail.some ++ k0);
          goes = record {
            front = b.row.0 ++ tail.some;
            rest = k0;
            parts = sym (append_assoc b.front b.more (tail.some ++ k0)) ∙ ap (λ (t : List ℕ). t ++ (tail.some ++ k0)) (sym b.begins) ∙ sym (append_assoc b.row.0 tail.some k0);
            first = (b.row, b.there, record { front = b.row.0; rest = tail.some; parts = refl; first = refl; second = tail.is_some });
            second = is_k0;
          };
          none = λ x k more alike o h is. b.none o.0 o.1 (o.2.rest ++ k) more alike (split x k (b.front ++ more) o is);
        }

    module _ (given : T) (rest : List ℕ) (f : FindsRow text all given rest) where
      same_row : (x k front more : List ℕ) (o : OneOf x) → x ++ k ≡ (f.found ++ front) ++ more → ◌≡◌ {A = List ℕ × T} o.0 (f.found, given)
      same_row x k front more o is = apart o.0 (f.found, given) o.1 f.there (o.2.rest ++ k) (front ++ more) (split x k ((f.found ++ front) ++ more) o is ∙ append_assoc f.found front more)

      same_left : (x k front more : List ℕ) (o : OneOf x) → x ++ k ≡ (f.found ++ front) ++ more → o.2.rest ++ k ≡ front ++ more
      same_left x k front more o is =
          append_cancel_left f.found _ _ (ap (λ (r : List ℕ × T). r.0 ++ (o.2.rest ++ k)) (sym (same_row x k front more o is)) ∙ split x k ((f.found ++ front) ++ more) o is ∙ append_assoc f.found front more)

      same_tail : (x k front more : List ℕ) (o : OneOf x) → x ++ k ≡ (f.found ++ front) ++ more → Tail given o.2.rest
      same_tail x k front more o is = subst (λ (r : List ℕ × T). Tail r.1 o.2.rest) (same_row x k front more o is) o.2.second

      behind_row : (read : Left) → Reads (Tail given) K rest read → Reads OneOf K text read
      behind_row (Ok after) g = record {
        front = f.found ++ g.front;
        parts = f.parts ∙ ap (λ (t : List ℕ). f.found ++ t) g.parts ∙ sym (append_assoc f.found g.front after);
        is = ((f.found, given), f.there, record { front = f.found; rest = g.front; parts = refl; first = refl; second = g.is });
        alone = λ x k more alike o h is.
            let tail : o.2.rest ≡ g.front = g.alone o.2.rest k more alike (same_tail x k g.front more o is) h (same_left x k g.front more o is) in
            o.2.parts ∙ ap (λ (t : List ℕ). t ++ o.2.rest) o.2.first ∙ ap (λ (r : List ℕ × T). r.0 ++ o.2.rest) (same_row x k g.front more o is) ∙ ap (λ (t : List ℕ). f.found ++ t) tail;
      }
      behind_row (Err after) s = record {
        front = f.found ++ s.front;
        parts = f.parts ∙ ap (λ (t : List ℕ). f.found ++ t) s.parts ∙ sym (append_assoc f.found s.front after);
        more = s.more;
        goes = record {
          front = f.found ++ s.goes.front;
          rest = s.goes.rest;
          parts = append_assoc f.found s.front s.more ∙ ap (λ (t : List ℕ). f.found ++ t) s.goes.parts ∙ sym (append_assoc f.found s.goes.front s.goes.rest);
          first = ((f.found, given), f.there, record { front = f.found; rest = s.goes.front; parts = refl; first = refl; second = s.goes.first });
          second = s.goes.second;
        };
        none = λ x k more alike o h is. s.none o.2.rest k more alike (same_tail x k s.front more o is) h (same_left x k s.front more o is);
      }

    one_read : (o : Result (T × List ℕ) (List ℕ)) → Chosen text all o → Reads OneOf K text (o >>= λ row. next row.0 row.1)
    one_read (Ok row) f = behind_row row.0 row.1 f (next row.0 row.1) ((tails row.0).reads K fits k0 is_k0 row.1)
    one_read (Err stop) b = broken stop b

  pub good_one_of : Apart all → {F : List ℕ → Type 0} (next : T → List ℕ → Left) → ((t : T) → Good F (Tail t) (next t)) → (row : List ℕ × T) → IsOneOf all row → Good F OneOf (λ text. among text all text >>= λ row. next row.0 row.1)
  good_one_of apart next tails row there = record {
    some = row.0 ++ (tails row.1).some;
    is_some = (row, there, record { front = row.0; rest = (tails row.1).some; parts = refl; first = refl; second = (tails row.1).is_some });
    reads = λ K fits k is text. one_read apart next tails K fits k is text (among text all text) (row_read text all row there);
  }
