-- A name is read whole, where what stands behind it begins with a byte that no name has there.
use Rattle.std.proofs.Common.{◌≡◌, ℕ, ◌+◌, ◌<◌, Bool, true, false, cond, List, [], ◌∷◌, ◌++◌, length, Ok, Err, refl, sym, ap, ◌∙◌, subst, arith, lit<, length-append}
use Rattle.std.specs.Prelude.{◌==◌, ◌&&◌, not, if◌then◌else◌, Option, Some, None}
use Rattle.std.proofs.lemmas.Bool.{true≢false}
use Rattle.std.proofs.lemmas.Bool.Decides.{nat_tests}
use Rattle.jo_text.specs.Escapes.{is_escaped}
use Rattle.report_texts.specs.NodeTexts.{IsNameText, IsSomeName}
use Rattle.report_texts.specs.Parts.{Joined}
use Rattle.report_texts.specs.Reading.{Left, ◌>>=◌, hex_value, begins_escape, is_escape, at_end, name_from, name, some_name}
use Rattle.report_texts.specs.declared.names.Escape.{Escape}
use Rattle.report_texts.specs.declared.names.Escape.TheVariants.{Plain, Percent, High}
use Rattle.report_texts.specs.declared.names.Turn.{Turn}
use Rattle.report_texts.specs.declared.names.Turn.TheVariants.{GoesOn, Ends, Breaks}
use Rattle.report_texts.proofs.NameBytes.{low_there, plain_byte, behind_plain, no_name, no_percent, no_half, high_begins, low_ends, behind_escape, escape_spelled}
use Rattle.report_texts.proofs.Steps.{Alike, Goes, Stops, Reads, Good, other_byte}

-- a text that begins with such a byte
abbrev pub Begins : (ℕ → Bool) → List ℕ → Type 0
Begins test [] = ⊥
Begins test (b ∷ rest) = test b ≡ true

-- it stands behind names alone
abbrev pub ends_name : ℕ → Bool
ends_name b = is_escaped b && not (b == 37)

-- what has been read of a byte's spelling
abbrev pub begun : Escape → List ℕ → List ℕ
begun Plain text = text
begun Percent text = 37 ∷ text
begun (High high) text = 37 ∷ high ∷ text

abbrev pub NameRest : Escape → List ℕ → Type 0
NameRest escape text = IsNameText (begun escape text)

abbrev pub CanEnd : Escape → Type 0
CanEnd (High high) = begins_escape (hex_value high) ≡ true
CanEnd _ = Unit {0}

pub no_name_yet : IsNameText []
no_name_yet = ([], tt, refl)

-- a spelling that has begun can be ended
rest_of : (escape : Escape) → CanEnd escape → (x : List ℕ) × NameRest escape x
rest_of Plain can = ([], no_name_yet)
rest_of Percent can = (50 ∷ 53 ∷ [], (37 ∷ [], (lit< tt, tt), refl))
rest_of (High high) can =
    let low = low_there_of (hex_value high) can in
    (low.0 ∷ [], escape_spelled high low.0 [] low.1 no_name_yet)
  where
    low_there_of : (o : Option ℕ) → begins_escape o ≡ true → (low : ℕ) × (is_escape o (hex_value low) ≡ true)
    low_there_of None begins = absurd (true≢false (sym begins))
    low_there_of (Some n) begins = low_there n begins

both_nil : (x k : List ℕ) → x ++ k ≡ [] → x ≡ []
both_nil [] k is = refl
both_nil (a ∷ x) k is = absurd (cc)

nothing_more : (more : List ℕ) → Alike more [] → more ≡ []
nothing_more [] alike = refl
nothing_more (b ∷ more) alike = absurd alike

-- what is read from a byte on
abbrev After : Turn → Escape → ℕ → List ℕ → Left
After t escape byte rest = elim t [ GoesOn next ↦ name_from next rest | Ends ↦ Ok (byte ∷ rest) | Breaks ↦ Err (byte ∷ rest) ]

module _ (K : List ℕ → Type 0) (fits : (k : List ℕ) → K k → Begins ends_name k) (k0 : List ℕ) (is_k0 : K k0) where
  stops_there : {text : List ℕ} (escape : Escape) → CanEnd escape → ((x k more : List ℕ) → Alike more text → NameRest escape x → K k → x ++ k ≡ more → ⊥) → Stops (NameRest escape) K text text
  stops_there escape can none =
      let r = rest_of escape can in
      record {
        front = [];
        parts = refl;
        more = r.0 ++ k0;
        goes = record { front = r.0; rest = k0; parts = refl; first = r.1; second = is_k0 };
        none = none;
      }

  -- the text ends
  at_the_end : (escape : Escape) → CanEnd escape → Reads (NameRest escape) K [] (at_end escape)
  at_the_end Plain can = record {
    front = [];
    parts = refl;
    is = no_name_yet;
    alone = λ x k more alike p h is. both_nil x k (is ∙ nothing_more more alike);
  }
  at_the_end Percent can = stops_there Percent can (λ x k more alike p h is. no_percent (subst (λ (t : List ℕ). IsNameText (37 ∷ t)) (both_nil x k (is ∙ nothing_more more alike)) p))
  at_the_end (High high) can = stops_there (High high) can (λ x k more alike p h is. no_half high (subst (λ (t : List ℕ). IsNameText (37 ∷ high ∷ t)) (both_nil x k (is ∙ nothing_more more alike)) p))

  -- a byte is read, and the rest of the name behind it
  module _ (P Q : List ℕ → Type 0) (b : ℕ) (none : P [] → (k : List ℕ) → K (b ∷ k) → ⊥) (to : (x : List ℕ) → Q x → P (b ∷ x)) (from : (x : List ℕ) → P (b ∷ x) → Q x) where
    by_first : {X : Type 0} (x k more : List ℕ) → P x → K k → x ++ k ≡ b ∷ more → ((y : List ℕ) → x ≡ b ∷ y → Q y → y ++ k ≡ more → X) → X
    by_first [] k more p h is then_ = absurd (none p more (subst K is h))
    by_first (c ∷ y) k more p h is then_ =
        let same : c ≡ b = cc in
        then_ y (ap (λ (n : ℕ). n ∷ y) same) (from y (subst (λ (n : ℕ). P (n ∷ y)) same p)) (cc)

    longer : (text : List ℕ) (read : Left) → Reads Q K text read → Reads P K (b ∷ text) read
    longer text (Ok rest) g = record {
      front = b ∷ g.front;
      parts = ap (λ (t : List ℕ). b ∷ t) g.parts;
      is = to g.front g.is;
      alone = λ x k more alike p h is. by_first x k (g.front ++ more) p h is (λ y begins q e. begins ∙ ap (λ (t : List ℕ). b ∷ t) (g.alone y k more alike q h e));
    }
    longer text (Err rest) s = record {
      front = b ∷ s.front;
      parts = ap (λ (t : List ℕ). b ∷ t) s.parts;
      more = s.more;
      goes = record { front = b ∷ s.goes.front; rest = s.goes.rest; parts = ap (λ (t : List ℕ). b ∷ t) s.goes.parts; first = to s.goes.front s.goes.first; second = s.goes.second };
      none = λ x k more alike p h is. by_first x k (s.front ++ more) p h is (λ y begins q e. s.none y k more alike q h e);
    }

  not_behind : (b : ℕ) (k : List ℕ) → ends_name b ≡ false → K (b ∷ k) → ⊥
  not_behind b k in_name h = true≢false (sym (fits (b ∷ k) h) ∙ in_name)

  ended : (b : ℕ) (text : List ℕ) → is_escaped b ≡ true → (b == 37) ≡ false → Goes IsNameText K (b ∷ text) (b ∷ text)
  ended b text needs other = record { front = []; parts = refl; is = no_name_yet; alone = λ x k more alike p h is. by x k more alike p is }
    where
      by : (x k more : List ℕ) → Alike more (b ∷ text) → IsNameText x → x ++ k ≡ more → x ≡ []
      by [] k more alike p is = refl
      by (c ∷ x) k more alike p is = let same : c ≡ b = other_byte more text alike is in absurd (no_name b x needs other (subst (λ (n : ℕ). IsNameText (n ∷ x)) same p))

  abbrev Inner : List ℕ → Type 0
  Inner text = (escape : Escape) → CanEnd escape → Reads (NameRest escape) K text (name_from escape text)

  at_plain : (b : ℕ) (text : List ℕ) → Inner text → (v w : Bool) → (b == 37) ≡ v → is_escaped b ≡ w
      → Reads IsNameText K (b ∷ text) (After (cond v (GoesOn Percent) (cond w Ends (GoesOn Plain))) Plain b text)
  at_plain b text inner true w percent needs =
      let same : b ≡ 37 = grind (arith, nat_tests) in
      longer IsNameText (λ x. IsNameText (37 ∷ x)) b
      (λ p k h. not_behind b k (ap (λ (v : Bool). is_escaped b && not v) percent ∙ last (is_escaped b)) h)
      (λ x q. subst (λ (n : ℕ). IsNameText (n ∷ x)) (sym same) q)
      (λ x p. subst (λ (n : ℕ). IsNameText (n ∷ x)) same p)
      text (name_from Percent text) (inner Percent tt)
    where
      last : (v : Bool) → (v && not true) ≡ false
      last true = refl
      last false = refl
  at_plain b text inner false true percent needs = ended b text needs percent
  at_plain b text inner false false percent plain =
      longer IsNameText IsNameText b
      (λ p k h. not_behind b k (ap (λ (v : Bool). v && not (b == 37)) plain) h)
      (λ x q. plain_byte b x plain q)
      (λ x p. behind_plain b x plain p)
      text (name_from Plain text) (inner Plain tt)

  -- a byte that breaks off an escape
  broken : (escape : Escape) → CanEnd escape → (b : ℕ) (text : List ℕ) → (NameRest escape [] → ⊥) → ((x : List ℕ) → NameRest escape (b ∷ x) → ⊥) → Stops (NameRest escape) K (b ∷ text) (b ∷ text)
  broken escape can b text none wrong = stops_there escape can (λ x k more alike p h is. by x k more alike p is)
    where
      by : (x k more : List ℕ) → Alike more (b ∷ text) → NameRest escape x → x ++ k ≡ more → ⊥
      by [] k more alike p is = none p
      by (c ∷ x) k more alike p is = let same : c ≡ b = other_byte more text alike is in wrong x (subst (λ (n : ℕ). NameRest escape (n ∷ x)) same p)

  at_percent : (b : ℕ) (text : List ℕ) → Inner text → (v : Bool) → begins_escape (hex_value b) ≡ v
      → Reads (NameRest Percent) K (b ∷ text) (After (cond v (GoesOn (High b)) Breaks) Percent b text)
  at_percent b text inner true begins =
      longer (NameRest Percent) (NameRest (High b)) b (λ p k h. no_percent p) (λ x q. q) (λ x p. p) text (name_from (High b) text) (inner (High b) begins)
  at_percent b text inner false wrong =
      broken Percent tt b text no_percent (λ x p. true≢false (sym (high_begins b x p) ∙ wrong))

  at_high : (high : ℕ) → CanEnd (High high) → (b : ℕ) (text : List ℕ) → Inner text → (v : Bool) → is_escape (hex_value high) (hex_value b) ≡ v
      → Reads (NameRest (High high)) K (b ∷ text) (After (cond v (GoesOn Plain) Breaks) (High high) b text)
  at_high high can b text inner true needs =
      longer (NameRest (High high)) IsNameText b (λ p k h. no_half high p) (λ x q. escape_spelled high b x needs q) (λ x p. behind_escape high b x p) text (name_from Plain text) (inner Plain tt)
  at_high high can b text inner false wrong =
      broken (High high) can b text (no_half high) (λ x p. true≢false (sym (low_ends high b x p) ∙ wrong))

  reads_on : (text : List ℕ) (escape : Escape) → CanEnd escape → Reads (NameRest escape) K text (name_from escape text)
  unfolding name_from
  reads_on [] escape can = at_the_end escape can
  reads_on (b ∷ text) Plain can = at_plain b text (λ escape c. reads_on text escape c) (b == 37) (is_escaped b) refl refl
  reads_on (b ∷ text) Percent can = at_percent b text (λ escape c. reads_on text escape c) (begins_escape (hex_value b)) refl
  reads_on (b ∷ text) (High high) can = at_high high can b text (λ escape c. reads_on text escape c) (is_escape (hex_value high) (hex_value b)) refl

pub good_name : Good (Begins ends_name) IsNameText name
good_name = record { some = []; is_some = no_name_yet; reads = λ K fits k is text. reads_on K fits k is text Plain tt }

-- ---- names that have a byte

-- where a byte ends names, the name before it is empty
at_once : (b : ℕ) (text : List ℕ) → ends_name b ≡ true → name (b ∷ text) ≡ Ok (b ∷ text)
unfolding name_from
at_once b text test = by (is_escaped b) (b == 37) refl refl test
  where
    by : (v w : Bool) → is_escaped b ≡ v → (b == 37) ≡ w → (v && not w) ≡ true → After (if b == 37 then GoesOn Percent else if is_escaped b then Ends else GoesOn Plain) Plain b text ≡ Ok (b ∷ text)
    by false w needs percent e = absurd (true≢false (sym e))
    by true true needs percent e = absurd (true≢false (sym e))
    by true false needs percent e = rw (percent, needs) refl

module _ (K : List ℕ → Type 0) (k0 : List ℕ) (is_k0 : K k0) where
  abbrev Kept : List ℕ → List ℕ → Bool → Left
  Kept text rest v = cond v (Err text) (Ok rest)

  kept : (text rest : List ℕ) (v : Bool) → (length rest == length text) ≡ v → Goes IsNameText K text rest → Reads IsSomeName K text (Kept text rest v)
  kept text rest false test g =
      let size : length text ≡ length g.front + length rest = ap length g.parts ∙ length-append g.front rest in
      let other : length rest ≡ length text → ⊥ = λ e. grind (arith, nat_tests) in
      let some : 0 < length g.front = omega (arith, other) in
      record { front = g.front; parts = g.parts; is = (some, g.is); alone = λ x k more alike p h is. g.alone x k more alike p.1 h is }
  kept text rest true test g =
      let size : length text ≡ length g.front + length rest = ap length g.parts ∙ length-append g.front rest in
      let same : length rest ≡ length text = grind (arith, nat_tests) in
      let none : g.front ≡ [] = empty g.front (omega arith) in
      let rest_is : text ≡ rest = g.parts ∙ ap (λ (t : List ℕ). t ++ rest) none in
      record {
        front = [];
        parts = refl;
        more = 97 ∷ k0;
        goes = record { front = 97 ∷ []; rest = k0; parts = refl; first = (lit< tt, plain_byte 97 [] refl no_name_yet); second = is_k0 };
        none = λ x k more alike p h is.
            let alone : x ≡ g.front = g.alone x k more (subst (λ (t : List ℕ). Alike more t) rest_is alike) p.1 h (is ∙ ap (λ (t : List ℕ). t ++ more) (sym none)) in
            let some = p.0 in
            let size_of : length x ≡ 0 = ap length (alone ∙ none) in
            absurd (omega arith);
      }
    where
      empty : (front : List ℕ) → length front ≡ 0 → front ≡ []
      empty [] is = refl
      empty (a ∷ front) is = absurd (omega arith)

  -- where the name breaks off behind a first byte, that byte is of the name
  some_goes : (front more : List ℕ) → Joined IsNameText K (front ++ more) → ((b : ℕ) (others k : List ℕ) → front ≡ b ∷ others → K (b ∷ k) → ⊥) → (m : List ℕ) × Joined IsSomeName K (front ++ m)
  some_goes [] more j wrong = (97 ∷ k0, record { front = 97 ∷ []; rest = k0; parts = refl; first = (lit< tt, plain_byte 97 [] refl no_name_yet); second = is_k0 })
  some_goes (b ∷ others) more j wrong = (more, by j.front j.rest j.parts j.first j.second)
    where
      by : (x k : List ℕ) → b ∷ others ++ more ≡ x ++ k → IsNameText x → K k → Joined IsSomeName K (b ∷ others ++ more)
      by [] k is p h = absurd (wrong b others (others ++ more) refl (subst K (sym is) h))
      by (c ∷ x) k is p h = record { front = c ∷ x; rest = k; parts = is; first = (omega arith, p); second = h }

  kept_read : (text : List ℕ) (read : Left) → name text ≡ read → ((k : List ℕ) → K k → Begins ends_name k) → Reads IsNameText K text read
      → Reads IsSomeName K text (read >>= λ rest. if length rest == length text then Err text else Ok rest)
  kept_read text (Ok rest) is fits g = kept text rest (length rest == length text) refl g
  kept_read text (Err rest) is fits s =
      let goes = some_goes s.front s.more s.goes (λ b others k begins h.
      let whole : text ≡ b ∷ (others ++ rest) = s.parts ∙ ap (λ (t : List ℕ). t ++ rest) begins in
      let other : name text ≡ Ok text = subst (λ (t : List ℕ). name t ≡ Ok t) (sym whole) (at_once b (others ++ rest) (fits (b ∷ k) h)) in
      broke_not (sym is ∙ other)) in
      record {
        front = s.front;
        parts = s.parts;
        more = goes.0;
        goes = goes.1;
        none = λ x k more alike p h e. s.none x k more alike p.1 h e;
      }
    where
      broke_not : {rest other : List ℕ} → ◌≡◌ {A = Left} (Err rest) (Ok other) → ⊥
      broke_not wrong = absurd (cc)

pub good_some_name : Good (Begins ends_name) IsSomeName some_name
good_some_name = record {
  some = 97 ∷ [];
  is_some = (lit< tt, plain_byte 97 [] refl no_name_yet);
  reads = λ K fits k is text. kept_read K k is text (name text) refl fits (reads_on K fits k is text Plain tt);
}
