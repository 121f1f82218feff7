-- Decimal numbers and what `parse` reads.
use Rattle.std.proofs.Common.{◌≡◌, ◌≢◌, ℕ, zero, suc, ◌<◌, ◌≤◌, ◌^◌, Bool, true, false, eqb, ℤ, pos, negsuc, neg_ℤ, List, [], ◌∷◌, length, get_or, drop, Result, Ok, Err, MatchOption, lit<, refl, sym, ap, ◌∙◌, subst, arith}
use Rattle.std.specs.Fmt.{decimal, signed_decimal}
use Rattle.std.specs.Int.{w32}
use Rattle.std.specs.Int.RustNames.{FitsSigned}
use Rattle.std.specs.Result.{result_ok}
use Rattle.std.specs.Str.{IsUtf8}
use Rattle.std.specs.Str.Parse.{AllDigits, digits_value, ParsesSigned}
use Rattle.std.proofs.lemmas.Bool.Decides.{nat_tests}
use Rattle.std.proofs.lemmas.Fmt.{decimal_digit, first_decimal, decimal-digits_value, parse-signed_decimal, IsAscii-signed, signed_decimal_injective}
use lib.Signed.{mag}
use Rattle.std.proofs.lemmas.Str.{IsUtf8-from_ascii}
use Rattle.std.proofs.lemmas.Str.Parse.{IsNumeralModel, numerals_by_value, tells_digits, parse_signed_minus, parse_signed_plain}
use Rattle.jo_text.specs.Numbers.{IsNumber}
use Rattle.jo_text.specs.NumberScan.{IsPlain}

-- ---- the decimal of a number is plain

above_zero_digit : (text : List ℕ) → 48 < get_or text 0 0 → IsPlain text
above_zero_digit text h = record {
  unsigned = λ e. omega arith;
  short = λ e. absurd (omega arith);
  negative = λ e. absurd (omega arith);
}

signed_plain : (number : ℤ) → FitsSigned w32 number → IsPlain (signed_decimal number)
signed_plain (pos zero) fits =
    subst IsPlain (sym (decimal_digit 0 (lit< tt)))
    record {
      unsigned = λ e. omega arith;
      short = λ e. refl;
      negative = λ e. absurd (omega arith);
    }
signed_plain (pos (suc n)) fits =
    above_zero_digit (decimal (suc n)) (first_decimal (suc n) (omega arith) (omega (arith, fits.sfits)))
signed_plain (negsuc n) fits =
    let first : 48 < get_or (decimal (suc n)) 0 0 = first_decimal (suc n) (omega arith) (omega (arith, fits.sfits)) in
    record { unsigned = λ e. omega arith; short = λ e. absurd (omega arith); negative = λ e. λ f. omega arith }

pub number_plain : (text : List ℕ) (number : ℤ) → IsNumber text number → IsPlain text
number_plain text number h = subst IsPlain (sym h.1) (signed_plain number h.0)

pub number_utf8 : (text : List ℕ) (number : ℤ) → IsNumber text number → IsUtf8 text
number_utf8 text number h =
    subst IsUtf8 (sym h.1) (IsUtf8-from_ascii _ (IsAscii-signed number (omega (arith, h.0.sfits))))

-- ---- what is parsed is the number of a plain text

digits : IsNumeralModel (AllDigits 10) (digits_value 10)
digits = numerals_by_value (AllDigits 10) tells_digits

positive_number : (text : List ℕ) → IsPlain text → AllDigits 10 text → 0 < length text → digits_value 10 text < 2 ^ 31 → IsNumber text (pos (digits_value 10 text))
positive_number text plain all some small =
    (record { sfits = small }, sym (decimal-digits_value digits text all some plain.short (omega arith)))

-- a minus sign and the decimal of `n` that begins with no zero
after_minus : (n : ℕ) (rest : List ℕ) → n ≤ 2 ^ 31 → decimal n ≡ rest → get_or rest 0 0 ≢ 48 → IsNumber (45 ∷ rest) (neg_ℤ (pos n))
after_minus zero rest small e first =
    absurd (first (ap (λ (ds : List ℕ). get_or ds 0 0) (sym e ∙ decimal_digit 0 (lit< tt))))
after_minus (suc n) rest small e first =
    (record { sfits = omega arith }, ap (λ (ds : List ℕ). 45 ∷ ds) (sym e))

negative_number : (text : List ℕ) → IsPlain text → get_or text 0 0 ≡ 45 → AllDigits 10 (drop 1 text) → 0 < length (drop 1 text) → digits_value 10 (drop 1 text) ≤ 2 ^ 31 → IsNumber text (neg_ℤ (pos (digits_value 10 (drop 1 text))))
negative_number [] plain minus all some small = absurd (omega arith)
negative_number (b ∷ rest) plain minus all some small =
    let first : get_or rest 0 0 ≢ 48 = plain.negative minus in
    let e : decimal (digits_value 10 rest) ≡ rest = decimal-digits_value digits rest all some (λ z. absurd (first z)) (omega arith) in
    let P : ℕ → Type 0 = λ x. IsNumber (x ∷ rest) (neg_ℤ (pos (digits_value 10 rest))) in
    subst P (sym minus) (after_minus (digits_value 10 rest) rest small e first)

-- by whether a minus sign stands in front
parsed_number : (E : Type 0) (minus : Bool) (text : List ℕ) (number : ℤ) → eqb (get_or text 0 0) 45 ≡ minus → IsPlain text → ParsesSigned {E = E} w32 10 text (Ok number) → IsNumber text number
parsed_number E true text number m plain h =
    let front : get_or text 0 0 ≡ 45 = grind (arith, nat_tests) in
    let p = parse_signed_minus digits {E = E} w32 text (Ok number) h front in
    subst (λ (z : ℤ). IsNumber text z) (sym p.1) (negative_number text plain front p.0.0 p.0.1 p.0.2)
parsed_number E false text number m plain h =
    let front : get_or text 0 0 ≢ 45 = grind (arith, nat_tests) in
    let p = parse_signed_plain digits {E = E} w32 text (Ok number) h plain.unsigned front in
    subst (λ (z : ℤ). IsNumber text z) (sym p.1) (positive_number text plain p.0.0 p.0.1 p.0.2)

-- what `parse` answers for a plain text is its number, or that it is none's
pub parsed : {E : Type 0} (text : List ℕ) (answer : Result ℤ E) → IsPlain text → ParsesSigned w32 10 text answer → MatchOption (result_ok answer) ((number : ℤ) → IsNumber text number → ⊥) (IsNumber text)
parsed {E} text (Ok number) plain h = parsed_number E (eqb (get_or text 0 0) 45) text number refl plain h
parsed {E} text (Err e) plain h = λ number n.
    let same = parse-signed_decimal w32 number text (Err e) n.0 (omega (arith, n.0.sfits)) n.1 h in
    absurd (cc)

small : (number : ℤ) → FitsSigned w32 number → mag number < 2 ^ 63
small (pos n) fits = omega (arith, fits)
small (negsuc n) fits = omega (arith, fits)

-- a text spells one number
pub one_number : (text : List ℕ) (one other : ℤ) → IsNumber text one → IsNumber text other → one ≡ other
one_number text one other h k = signed_decimal_injective one other (small one h.0) (small other k.0) (sym h.1 ∙ k.1)
