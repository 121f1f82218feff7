-- Spellings of bytes and texts, whichever bytes are escaped, as long as `%` is.
use Rattle.std.proofs.Common.{◌≡◌, ℕ, ◌<◌, ◌≤◌, ◌^◌, ◌/◌, ◌%◌, Bool, true, false, cond, List, [], ◌∷◌, ◌++◌, length, get_or, refl, sym, ap, ◌∙◌, subst, arith}
use Rattle.std.specs.List.{AllByRecursion}
use Rattle.std.proofs.lemmas.Bool.Decides.{nat_tests}
use Rattle.std.proofs.lemmas.List.{append_cancel_right}
use Rattle.jo_text.specs.Escapes.{hex_digit, escape_of, escaped_where, is_escaped, is_escaped_in_quotes, escaped, quoted}
use Rattle.jo_text.specs.EscapeScan.{escapes_in, BeginsByte, BeginsNoByte, IsSpellingOf, IsSpelling}
use Rattle.jo_text.specs.declared.escapes.Spelling.{Spelling}
use Rattle.jo_text.specs.declared.escapes.Spelling.TheVariants.{Bare, Quoted}

-- both sets have `%`
pub percent_escaped : (spelling : Spelling) → escapes_in spelling 37 ≡ true
percent_escaped Bare = refl
percent_escaped Quoted = refl

true_or_false : (b : Bool) → b ≡ true → b ≡ false → ⊥
true_or_false b one other =
    let both : true ≡ false = sym one ∙ other in
    absurd (cc)

-- a digit stands for one number
hex_digit_apart : (m n : ℕ) → m < 16 → n < 16 → hex_digit m ≡ hex_digit n → m ≡ n
hex_digit_apart m n lm ln e = grind (arith, nat_tests)

digits_apart : (a b : ℕ) (r s : List ℕ) → a < 2 ^ 8 → b < 2 ^ 8 → 37 ∷ hex_digit (a / 16) ∷ hex_digit (a % 16) ∷ r ≡ 37 ∷ hex_digit (b / 16) ∷ hex_digit (b % 16) ∷ s → (a ≡ b) × (r ≡ s)
digits_apart a b r s la lb e =
    let high : hex_digit (a / 16) ≡ hex_digit (b / 16) = cc in
    let low : hex_digit (a % 16) ≡ hex_digit (b % 16) = cc in
    let highs = hex_digit_apart (a / 16) (b / 16) (omega arith) (omega arith) high in
    let lows = hex_digit_apart (a % 16) (b % 16) (omega arith) (omega arith) low in
    (omega arith, cc)

-- a byte that stands for itself is no `%`
not_percent : (escapes : ℕ → Bool) (b : ℕ) → escapes 37 ≡ true → escapes b ≡ false → 37 ≡ b → ⊥
not_percent escapes b percent plain same = true_or_false (escapes b) (sym (ap escapes same) ∙ percent) plain

-- where one byte is spelled by digits or not, and another
begin_apart : (escapes : ℕ → Bool) → escapes 37 ≡ true → (v w : Bool) (a b : ℕ) (r s : List ℕ) → a < 2 ^ 8 → b < 2 ^ 8 → escapes a ≡ v → escapes b ≡ w
    → cond v (escape_of a) (a ∷ []) ++ r ≡ cond w (escape_of b) (b ∷ []) ++ s → (a ≡ b) × (r ≡ s)
begin_apart escapes percent true true a b r s la lb va vb e = digits_apart a b r s la lb e
begin_apart escapes percent true false a b r s la lb va vb e = absurd (not_percent escapes b percent vb (cc))
begin_apart escapes percent false true a b r s la lb va vb e = absurd (not_percent escapes a percent va (cc))
begin_apart escapes percent false false a b r s la lb va vb e = (cc, cc)

-- a text begins with the spelling of one byte
one_first_byte : (escapes : ℕ → Bool) → escapes 37 ≡ true → (text : List ℕ) (a b : ℕ) (r s : List ℕ) → BeginsByte escapes text a r → BeginsByte escapes text b s → (a ≡ b) × (r ≡ s)
one_first_byte escapes percent text a b r s ha hb = begin_apart escapes percent (escapes a) (escapes b) a b r s ha.0 hb.0 refl refl (sym ha.1 ∙ hb.1)

some_begin : (v : Bool) (a : ℕ) (digits rest : List ℕ) → [] ≡ cond v (37 ∷ digits) (a ∷ []) ++ rest → ⊥
some_begin true a digits rest e = absurd (cc)
some_begin false a digits rest e = absurd (cc)

-- what begins with an escaped byte and with a byte's spelling begins with `%` and two digits
pub record Front (escapes : ℕ → Bool) (text : List ℕ) : Type 0 where
  pub some : 0 < length text
  pub percent : escapes (get_or text 0 0) ≡ true → get_or text 0 0 ≡ 37
  pub digits : escapes (get_or text 0 0) ≡ true → 3 ≤ length text

front_of : (escapes : ℕ → Bool) (v : Bool) (byte : ℕ) (rest : List ℕ) → escapes byte ≡ v → Front escapes (cond v (escape_of byte) (byte ∷ []) ++ rest)
front_of escapes true byte rest is = record { some = omega arith; percent = λ e. refl; digits = λ e. omega arith }
front_of escapes false byte rest is = record { some = omega arith; percent = λ e. absurd (true_or_false (escapes byte) e is); digits = λ e. absurd (true_or_false (escapes byte) e is) }

pub begins_so : (escapes : ℕ → Bool) (text : List ℕ) (byte : ℕ) (rest : List ℕ) → BeginsByte escapes text byte rest → Front escapes text
begins_so escapes text byte rest h = subst (Front escapes) (sym h.1) (front_of escapes (escapes byte) byte rest refl)

rest_spelled : (escapes : ℕ → Bool) → escapes 37 ≡ true → (text : List ℕ) (byte : ℕ) (rest bytes : List ℕ) → BeginsByte escapes text byte rest → IsSpellingOf escapes text bytes → IsSpelling escapes rest
rest_spelled escapes percent text byte rest [] h s = absurd (some_begin (escapes byte) byte _ rest (sym s.1 ∙ h.1))
rest_spelled escapes percent text byte rest (b ∷ bs) h s =
    (bs, (s.0.1, (one_first_byte escapes percent text byte b rest (escaped_where escapes bs) h (s.0.0, s.1)).1))

-- what follows a byte's spelling in a spelling is one
pub spelling_rest : (escapes : ℕ → Bool) → escapes 37 ≡ true → (text : List ℕ) (byte : ℕ) (rest : List ℕ) → BeginsByte escapes text byte rest → IsSpelling escapes text → IsSpelling escapes rest
spelling_rest escapes percent text byte rest h s = rest_spelled escapes percent text byte rest s.0 h s.1

none_spelled : (escapes : ℕ → Bool) (text bytes : List ℕ) → BeginsNoByte escapes text → IsSpellingOf escapes text bytes → text ≡ []
none_spelled escapes text [] none s = s.1
none_spelled escapes text (b ∷ bs) none s = absurd (none b (escaped_where escapes bs) (s.0.0, s.1))

-- only the empty text is a spelling and begins with no byte's
pub spelling_none : (escapes : ℕ → Bool) (text : List ℕ) → BeginsNoByte escapes text → IsSpelling escapes text → text ≡ []
spelling_none escapes text none s = none_spelled escapes text s.0 none s.1

-- two texts aren't spelled alike
one_spelled : (escapes : ℕ → Bool) → escapes 37 ≡ true → (one other : List ℕ) → AllByRecursion (λ byte. byte < 2 ^ 8) one → AllByRecursion (λ byte. byte < 2 ^ 8) other → escaped_where escapes one ≡ escaped_where escapes other → one ≡ other
one_spelled escapes percent [] [] l m e = refl
one_spelled escapes percent [] (b ∷ bs) l m e = absurd (some_begin (escapes b) b _ (escaped_where escapes bs) e)
one_spelled escapes percent (a ∷ xs) [] l m e = absurd (some_begin (escapes a) a _ (escaped_where escapes xs) (sym e))
one_spelled escapes percent (a ∷ xs) (b ∷ ys) l m e =
    let parts = one_first_byte escapes percent (escaped_where escapes (a ∷ xs)) a b (escaped_where escapes xs) (escaped_where escapes ys) (l.0, refl) (m.0, e) in
    let rest = one_spelled escapes percent xs ys l.1 m.1 parts.1 in
    ap (λ c. c ∷ xs) parts.0 ∙ ap (λ cs. b ∷ cs) rest

pub one_name : (one other : List ℕ) → AllByRecursion (λ byte. byte < 2 ^ 8) one → AllByRecursion (λ byte. byte < 2 ^ 8) other → escaped one ≡ escaped other → one ≡ other
one_name = one_spelled is_escaped refl

-- what stands between two quotes is known by the whole
same_inside : (one other : List ℕ) → 34 ∷ one ++ 34 ∷ [] ≡ 34 ∷ other ++ 34 ∷ [] → one ≡ other
same_inside one other e =
    let front : 34 ∷ one ≡ 34 ∷ other = append_cancel_right (34 ∷ one) (34 ∷ other) (34 ∷ []) e in
    cc

pub one_quoted : (one other : List ℕ) → AllByRecursion (λ byte. byte < 2 ^ 8) one → AllByRecursion (λ byte. byte < 2 ^ 8) other → quoted one ≡ quoted other → one ≡ other
one_quoted one other l m e = one_spelled is_escaped_in_quotes refl one other l m (same_inside _ _ e)

pub all_bytes : (bytes : List ℕ) (byte : ℕ) → AllByRecursion (λ byte. byte < 2 ^ 8) bytes → byte < 2 ^ 8 → AllByRecursion (λ byte. byte < 2 ^ 8) (bytes ++ byte ∷ [])
all_bytes [] byte all h = (h, tt)
all_bytes (b ∷ bs) byte all h = (all.0, all_bytes bs byte all.1 h)
