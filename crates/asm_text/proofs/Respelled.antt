-- A name or a quoted text is what its spelling is read as.
use Rattle.std.proofs.Common.{◌≡◌, ℕ, ◌+◌, ◌-◌, ◌*◌, ◌/◌, ◌%◌, ◌<◌, ◌^◌, Bool, true, false, cond, ◌&&◌, ◌==◌, nat_lt, List, [], ◌∷◌, ◌++◌, suc, length, length-append, take, Some, None, refl, sym, ap, ◌∙◌, arith}
use Rattle.std.specs.List.{AllByRecursion}
use Rattle.std.specs.Str.{bytes_eq}
use Rattle.std.proofs.lemmas.Bool.Decides.{nat_tests}
use Rattle.std.proofs.lemmas.Slice.Eq.{bytes_eq-Decides}
use Rattle.jo_text.specs.Escapes.{hex_digit, escape_of, escaped_where, is_escaped, is_escaped_in_quotes, escaped, quoted}
use Rattle.asm_text.specs.Words.{passing, digit_value, bytes_in, are_bytes, spelled_in, inside, name_in, quoted_in}

-- ---- bytes behind each other

plain_first : (a : ℕ) (xs : List ℕ) → (a == 37) ≡ false → bytes_in (a ∷ xs) ≡ a ∷ bytes_in xs
unfolding bytes_in
plain_first a [] h = refl
plain_first a (x ∷ []) h = refl
plain_first a (x ∷ y ∷ zs) h = rw h refl

digit_read : (n : ℕ) → n < 16 → digit_value (hex_digit n) ≡ n
digit_read n h = grind (arith, nat_tests)

byte_read : (b : ℕ) → b < 256 → 16 * digit_value (hex_digit (b / 16)) + digit_value (hex_digit (b % 16)) ≡ b
byte_read b h =
    let high : b / 16 < 16 = omega arith in
    let low : b % 16 < 16 = omega arith in
    rw (digit_read (b / 16) high, digit_read (b % 16) low) (omega arith)

not_percent : (escapes : ℕ → Bool) (b : ℕ) → escapes 37 ≡ true → escapes b ≡ false → (b == 37) ≡ false
not_percent escapes b percent plain = by_test (b == 37) refl
  where
    by_test : (v : Bool) → (b == 37) ≡ v → v ≡ false
    by_test true is =
        let same : b ≡ 37 = grind (arith, nat_tests) in
        let other : true ≡ false = sym percent ∙ ap escapes (sym same) ∙ plain in
        other
    by_test false is = refl

first_read : (escapes : ℕ → Bool) (v : Bool) (b : ℕ) (rest : List ℕ) → escapes 37 ≡ true → escapes b ≡ v → b < 256 → bytes_in (cond v (escape_of b) (b ∷ []) ++ rest) ≡ b ∷ bytes_in rest
unfolding bytes_in
first_read escapes true b rest percent is h = ap (λ x. x ∷ bytes_in rest) (byte_read b h)
first_read escapes false b rest percent is h = plain_first b rest (not_percent escapes b percent is)

all_read : (escapes : ℕ → Bool) (name : List ℕ) → escapes 37 ≡ true → AllByRecursion (λ byte. byte < 2 ^ 8) name → bytes_in (escaped_where escapes name) ≡ name
unfolding bytes_in
all_read escapes [] percent all = refl
all_read escapes (b ∷ bs) percent all =
    first_read escapes (escapes b) b (escaped_where escapes bs) percent refl all.0 ∙ ap (λ x. b ∷ x) (all_read escapes bs percent all.1)

both : (a b : Bool) → (a && b) ≡ true → (a ≡ true) × (b ≡ true)
both true b h = (refl, h)
both false b h = absurd (cc)

both_true : (a b : Bool) → a ≡ true → b ≡ true → (a && b) ≡ true
both_true a b h k = rw h k

are_all : (bytes : List ℕ) → AllByRecursion (λ byte. byte < 2 ^ 8) bytes → are_bytes bytes ≡ true
are_all [] all = refl
are_all (b ∷ bs) all =
    let small : b < 256 = all.0 in
    let first : nat_lt b 256 ≡ true = grind (arith, nat_tests) in
    rw first (are_all bs all.1)

all_are : (bytes : List ℕ) → are_bytes bytes ≡ true → AllByRecursion (λ byte. byte < 2 ^ 8) bytes
all_are [] h = tt
all_are (b ∷ bs) h =
    let parts = both (nat_lt b 256) (are_bytes bs) h in
    let first : nat_lt b 256 ≡ true = parts.0 in
    let small : b < 256 = grind (arith, nat_tests) in
    (small, all_are bs parts.1)

found : (spelling : List ℕ → List ℕ) (text name bytes : List ℕ) → bytes ≡ name → AllByRecursion (λ byte. byte < 2 ^ 8) name → text ≡ spelling name → spelled_in spelling text bytes ≡ Some name
found spelling text name bytes same all is =
    let first : are_bytes bytes ≡ true = rw same (are_all name all) in
    let second : bytes_eq (spelling bytes) text ≡ true = (bytes_eq-Decides (spelling bytes) text).1 (ap spelling same ∙ sym is) in
    rw (both_true _ _ first second) (ap Some same)

none : (spelling : List ℕ → List ℕ) (text bytes : List ℕ) → ((name : List ℕ) → AllByRecursion (λ byte. byte < 2 ^ 8) name → text ≡ spelling name → ⊥) → spelled_in spelling text bytes ≡ None
none spelling text bytes never = by_test (are_bytes bytes && bytes_eq (spelling bytes) text) refl
  where
    by_test : (v : Bool) → (are_bytes bytes && bytes_eq (spelling bytes) text) ≡ v → passing v bytes ≡ None
    by_test true is =
        let parts = both (are_bytes bytes) (bytes_eq (spelling bytes) text) is in
        absurd (never bytes (all_are bytes parts.0) (sym ((bytes_eq-Decides (spelling bytes) text).0 parts.1)))
    by_test false is = refl

pub name_found : (text name : List ℕ) → AllByRecursion (λ byte. byte < 2 ^ 8) name → text ≡ escaped name → name_in text ≡ Some name
unfolding name_in
name_found text name all is = found escaped text name (bytes_in text) (ap bytes_in is ∙ all_read is_escaped name refl all) all is

pub name_none : (text : List ℕ) → ((name : List ℕ) → AllByRecursion (λ byte. byte < 2 ^ 8) name → text ≡ escaped name → ⊥) → name_in text ≡ None
unfolding name_in
name_none text never = none escaped text (bytes_in text) never

take_front : (xs ys : List ℕ) → take (length xs) (xs ++ ys) ≡ xs
take_front [] ys = refl
take_front (x ∷ xs) ys = ap (λ zs. x ∷ zs) (take_front xs ys)

inside_quoted : (middle : List ℕ) → inside (34 ∷ middle ++ 34 ∷ []) ≡ middle
inside_quoted middle =
    let count : suc (length (middle ++ 34 ∷ [])) - 2 ≡ length middle = omega (arith, length-append middle (34 ∷ [])) in
    ap (λ n. take n (middle ++ 34 ∷ [])) count ∙ take_front middle (34 ∷ [])

pub quoted_found : (text name : List ℕ) → AllByRecursion (λ byte. byte < 2 ^ 8) name → text ≡ quoted name → quoted_in text ≡ Some name
unfolding quoted_in
quoted_found text name all is =
    found quoted text name (bytes_in (inside text)) (ap (λ t. bytes_in (inside t)) is ∙ ap bytes_in (inside_quoted (escaped_where is_escaped_in_quotes name)) ∙ all_read is_escaped_in_quotes name refl all) all is

pub quoted_none : (text : List ℕ) → ((name : List ℕ) → AllByRecursion (λ byte. byte < 2 ^ 8) name → text ≡ quoted name → ⊥) → quoted_in text ≡ None
unfolding quoted_in
quoted_none text never = none quoted text (bytes_in (inside text)) never
