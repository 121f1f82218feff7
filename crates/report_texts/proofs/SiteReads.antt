-- Sites and contexts are read whole.
use Rattle.std.proofs.Common.{◌≡◌, ◌⊎◌, inl, inr, ℕ, Bool, true, false, cond, List, [], ◌∷◌, ◌++◌, Ok, Err, refl, sym, ap, ◌∙◌, subst, arith}
use Rattle.std.specs.Prelude.{◌==◌, ◌||◌, not, codes, if◌then◌else◌}
use Rattle.std.proofs.lemmas.Bool.{true≢false}
use Rattle.std.proofs.lemmas.Bool.Decides.{nat_tests}
use Rattle.report_texts.specs.NodeTexts.{IsSomeName, IsRaised}
use Rattle.report_texts.specs.Parts.{Is, Joined}
use Rattle.report_texts.specs.Reading.{Left, ◌>>=◌, word, some_name, begins_with, raised}
use Rattle.report_texts.proofs.NameReads.{Begins, ends_name, good_some_name}
use Rattle.report_texts.proofs.NumberReads.{ends_number}
use Rattle.report_texts.proofs.Steps.{Alike, Reads, Good, good_word, good_then, good_like}

-- ---- a choice by the first byte

abbrev pub Other : ℕ → ℕ → Bool
Other byte b = not (b == byte)

-- what stands behind begins with another byte
pub record Chooses (F P Q : List ℕ → Type 0) (byte : ℕ) : Type 0 where
  pub starts : (x : List ℕ) → P x → Begins (λ b. b == byte) x
  pub never : (x k : List ℕ) → Q x → F k → Begins (λ b. b == byte) (x ++ k) → ⊥

module _ {F P Q : List ℕ → Type 0} (byte : ℕ) (c : Chooses F P Q byte) (K : List ℕ → Type 0) (fits : (k : List ℕ) → K k → F k) where
  -- a text that goes on alike
  alike_first : (x rest : List ℕ) (test : Bool) → begins_with byte rest ≡ test → Alike x rest → begins_with byte x ≡ test
  alike_first [] [] test is alike = is
  alike_first [] (b ∷ rest) test is alike = absurd alike
  alike_first (a ∷ x) [] test is alike = absurd alike
  alike_first (a ∷ x) (b ∷ rest) test is alike = ap (λ (n : ℕ). n == byte) alike ∙ is

  to_begins : (x : List ℕ) → begins_with byte x ≡ true → Begins (λ b. b == byte) x
  to_begins [] is = absurd (true≢false (sym is))
  to_begins (a ∷ x) is = is

  from_begins : (x : List ℕ) → Begins (λ b. b == byte) x → begins_with byte x ≡ true
  from_begins [] is = absurd is
  from_begins (a ∷ x) is = is

  begins_on : (x k : List ℕ) → Begins (λ b. b == byte) x → begins_with byte (x ++ k) ≡ true
  begins_on [] k is = absurd is
  begins_on (a ∷ x) k is = is

  first_of : (front more rest text : List ℕ) → text ≡ front ++ rest → Alike more rest → (test : Bool) → begins_with byte text ≡ test → begins_with byte (front ++ more) ≡ test
  first_of [] more rest text parts alike test is = alike_first more rest test (subst (λ (t : List ℕ). begins_with byte t ≡ test) parts is) alike
  first_of (a ∷ front) more rest text parts alike test is = subst (λ (t : List ℕ). begins_with byte t ≡ test) parts is

  abbrev Either : List ℕ → Type 0
  Either x = P x ⊎ Q x

  one_reads : (text : List ℕ) (read : Left) → begins_with byte text ≡ true → Reads P K text read → Reads Either K text read
  one_reads text (Ok rest) test g = record {
    front = g.front;
    parts = g.parts;
    is = inl g.is;
    alone = λ x k more alike p h is. by x k more alike p h is (first_of g.front more rest text g.parts alike true test);
  }
    where
      by : (x k more : List ℕ) → Alike more rest → Either x → K k → x ++ k ≡ g.front ++ more → begins_with byte (g.front ++ more) ≡ true → x ≡ g.front
      by x k more alike (inl p) h is first = g.alone x k more alike p h is
      by x k more alike (inr q) h is first = absurd (c.never x k q (fits k h) (to_begins (x ++ k) (subst (λ (t : List ℕ). begins_with byte t ≡ true) (sym is) first)))
  one_reads text (Err rest) test s = record {
    front = s.front;
    parts = s.parts;
    more = s.more;
    goes = record { front = s.goes.front; rest = s.goes.rest; parts = s.goes.parts; first = inl s.goes.first; second = s.goes.second };
    none = λ x k more alike p h is. by x k more alike p h is (first_of s.front more rest text s.parts alike true test);
  }
    where
      by : (x k more : List ℕ) → Alike more rest → Either x → K k → x ++ k ≡ s.front ++ more → begins_with byte (s.front ++ more) ≡ true → ⊥
      by x k more alike (inl p) h is first = s.none x k more alike p h is
      by x k more alike (inr q) h is first = c.never x k q (fits k h) (to_begins (x ++ k) (subst (λ (t : List ℕ). begins_with byte t ≡ true) (sym is) first))

  not_one : (x k text : List ℕ) → P x → x ++ k ≡ text → begins_with byte text ≡ false → ⊥
  not_one x k text p is first = true≢false (sym (begins_on x k (c.starts x p)) ∙ (ap (λ (t : List ℕ). begins_with byte t) is ∙ first))

  other_reads : (text : List ℕ) (read : Left) → begins_with byte text ≡ false → Reads Q K text read → Reads Either K text read
  other_reads text (Ok rest) test g = record {
    front = g.front;
    parts = g.parts;
    is = inr g.is;
    alone = λ x k more alike p h is. by x k more alike p h is (first_of g.front more rest text g.parts alike false test);
  }
    where
      by : (x k more : List ℕ) → Alike more rest → Either x → K k → x ++ k ≡ g.front ++ more → begins_with byte (g.front ++ more) ≡ false → x ≡ g.front
      by x k more alike (inl p) h is first = absurd (not_one x k (g.front ++ more) p is first)
      by x k more alike (inr q) h is first = g.alone x k more alike q h is
  other_reads text (Err rest) test s = record {
    front = s.front;
    parts = s.parts;
    more = s.more;
    goes = record { front = s.goes.front; rest = s.goes.rest; parts = s.goes.parts; first = inr s.goes.first; second = s.goes.second };
    none = λ x k more alike p h is. by x k more alike p h is (first_of s.front more rest text s.parts alike false test);
  }
    where
      by : (x k more : List ℕ) → Alike more rest → Either x → K k → x ++ k ≡ s.front ++ more → begins_with byte (s.front ++ more) ≡ false → ⊥
      by x k more alike (inl p) h is first = not_one x k (s.front ++ more) p is first
      by x k more alike (inr q) h is first = s.none x k more alike q h is

  choice_reads : (text : List ℕ) (one other : Left) (test : Bool) → begins_with byte text ≡ test → Reads P K text one → Reads Q K text other → Reads Either K text (cond test one other)
  choice_reads text one other true test p q = one_reads text one test p
  choice_reads text one other false test p q = other_reads text other test q

pub good_choice : {F P Q : List ℕ → Type 0} {one other : List ℕ → Left} (byte : ℕ) → Chooses F P Q byte → Good F P one → Good F Q other
    → Good F (λ x. P x ⊎ Q x) (λ text. if begins_with byte text then one text else other text)
good_choice {one = one} {other = other} byte c p q = record {
  some = p.some;
  is_some = inl p.is_some;
  reads = λ K fits k is text. choice_reads byte c K fits text (one text) (other text) (begins_with byte text) refl (p.reads K fits k is text) (q.reads K fits k is text);
}

-- ---- what begins with a word

pub starts_with : (byte : ℕ) (others : List ℕ) {Q : List ℕ → Type 0} (x : List ℕ) → Joined (Is (byte ∷ others)) Q x → Begins (λ b. b == byte) x
starts_with byte others x j =
    let whole : x ≡ byte ∷ (others ++ j.rest) = j.parts ∙ ap (λ (t : List ℕ). t ++ j.rest) j.first in
    subst (Begins (λ b. b == byte)) (sym whole) (itself byte)
  where
    itself : (n : ℕ) → (n == n) ≡ true
    itself n = grind (arith, nat_tests)

-- ---- nothing

pub nothing_read : {F : List ℕ → Type 0} → Good F (Is []) (λ text. Ok text)
nothing_read = record {
  some = [];
  is_some = refl;
  reads = λ K fits k is text. record { front = []; parts = refl; is = refl; alone = λ x k more alike p h e. p };
}

-- ---- a class that is raised

abbrev pub ends_site : ℕ → Bool
ends_site b = b == 44 || b == 93

pub ends_site_cases : (b : ℕ) (P : ℕ → Type 0) → ends_site b ≡ true → P 44 → P 93 → P b
ends_site_cases b P ends comma bracket = by (b == 44) (b == 93) refl refl ends
  where
    by : (v w : Bool) → (b == 44) ≡ v → (b == 93) ≡ w → (v || w) ≡ true → P b
    by true w first second e = let same : 44 ≡ b = grind (arith, nat_tests) in subst P same comma
    by false true first second e = let same : 93 ≡ b = grind (arith, nat_tests) in subst P same bracket
    by false false first second e = absurd (true≢false (sym e))

pub begins_more : (one other : ℕ → Bool) → ((b : ℕ) → one b ≡ true → other b ≡ true) → (k : List ℕ) → Begins one k → Begins other k
begins_more one other more [] h = h
begins_more one other more (b ∷ k) h = more b h

pub site_ends_name : (k : List ℕ) → Begins ends_site k → Begins ends_name k
site_ends_name k h = begins_more ends_site ends_name (λ b e. ends_site_cases b (λ n. ends_name n ≡ true) e refl refl) k h

pub site_ends_number : (k : List ℕ) → Begins ends_site k → Begins ends_number k
site_ends_number k h = begins_more ends_site ends_number (λ b e. ends_site_cases b (λ n. ends_number n ≡ true) e refl refl) k h

pub good_weaker : {F G P : List ℕ → Type 0} {read : List ℕ → Left} → ((k : List ℕ) → G k → F k) → Good F P read → Good G P read
good_weaker more p = record { some = p.some; is_some = p.is_some; reads = λ K fits k is text. p.reads K (λ t h. more t (fits t h)) k is text }

class_raised : Good (Begins ends_site) (Joined (Is (codes "!")) IsSomeName) (λ text. word (codes "!") text >>= some_name)
class_raised = good_then (good_word (codes "!")) (good_weaker site_ends_name good_some_name) (λ q k is h. tt)

raised_chooses : Chooses (Begins ends_site) (Joined (Is (codes "!")) IsSomeName) (Is []) 33
raised_chooses = record { starts = λ x p. starts_with 33 [] x p; never = λ x k q h b. by k h (subst (λ (t : List ℕ). Begins (λ n. n == 33) (t ++ k)) q b) }
  where
    by : (k : List ℕ) → Begins ends_site k → Begins (λ n. n == 33) k → ⊥
    by [] h b = h
    by (a ∷ k) h b = ends_site_cases a (λ n. (n == 33) ≡ true → ⊥) h (λ e. true≢false (sym e)) (λ e. true≢false (sym e)) b

pub good_raised : Good (Begins ends_site) IsRaised raised
unfolding raised
good_raised = good_like (λ x p. to x p) (λ x p. from x p) (good_choice 33 raised_chooses class_raised nothing_read)
  where
    to : (x : List ℕ) → Joined (Is (codes "!")) IsSomeName x ⊎ (x ≡ []) → IsRaised x
    to x (inl p) = inr p
    to x (inr q) = inl q

    from : (x : List ℕ) → IsRaised x → Joined (Is (codes "!")) IsSomeName x ⊎ (x ≡ [])
    from x (inl q) = inr q
    from x (inr p) = inl p
