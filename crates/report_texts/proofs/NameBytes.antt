-- The longest name that begins a text.
use Rattle.std.proofs.Common.{◌≡◌, ◌⊎◌, inl, inr, ℕ, ◌+◌, ◌-◌, ◌*◌, ◌/◌, ◌%◌, ◌<◌, ◌≤◌, ◌^◌, Bool, true, false, cond, List, [], ◌∷◌, ◌++◌, refl, sym, ap, ◌∙◌, subst, arith}
use Rattle.std.specs.Prelude.{◌==◌, Option, Some, None}
use Rattle.std.specs.Int.{is_in_range}
use Rattle.std.specs.List.{AllByRecursion}
use Rattle.std.proofs.lemmas.Bool.{cases_lt, true≢false}
use Rattle.std.proofs.lemmas.Bool.Decides.{nat_tests}
use Rattle.jo_text.specs.Escapes.{hex_digit, escape_of, escaped, is_escaped}
use Rattle.report_texts.specs.NodeTexts.{IsNameText}
use Rattle.report_texts.specs.Reading.{hex_value, begins_escape, is_escape}

-- ---- digits

pub value_again : (n : ℕ) → n < 16 → hex_value (hex_digit n) ≡ Some n
value_again n small = by (cases_lt n 10)
  where
    by : (n < 10) ⊎ (10 ≤ n) → hex_value (hex_digit n) ≡ Some n
    by (inl low) = grind (arith, nat_tests)
    by (inr high) = grind (arith, nat_tests)

-- a digit and its value
pub record IsDigitOf (digit n : ℕ) : Type 0 where
  pub small : n < 16
  pub is : digit ≡ hex_digit n

pub digit_of : (digit n : ℕ) → hex_value digit ≡ Some n → IsDigitOf digit n
digit_of digit n is = by (is_in_range 48 57 digit) (is_in_range 65 70 digit) refl refl is
  where
    by : (v w : Bool) → is_in_range 48 57 digit ≡ v → is_in_range 65 70 digit ≡ w → cond v (Some (digit - 48)) (cond w (Some (digit - 55)) None) ≡ Some n → IsDigitOf digit n
    by true w first second e = let same : n ≡ digit - 48 = cc in record { small = grind (arith, nat_tests); is = grind (arith, nat_tests) }
    by false true first second e = let same : n ≡ digit - 55 = cc in record { small = grind (arith, nat_tests); is = grind (arith, nat_tests) }
    by false false first second e = absurd (cc)

-- ---- which bytes need an escape

pub escape_begins : (c : ℕ) → c < 2 ^ 8 → is_escaped c ≡ true → begins_escape (Some (c / 16)) ≡ true
escape_begins c small needs = grind (arith, nat_tests)

-- an escape that has begun can be ended
pub low_there : (high : ℕ) → begins_escape (Some high) ≡ true → (low : ℕ) × (is_escape (Some high) (hex_value low) ≡ true)
low_there high begins = by (cases_lt high 3) (cases_lt 7 high) (high == 4) (high == 5) refl refl
  where
    by : (high < 3) ⊎ (3 ≤ high) → (7 < high) ⊎ (high ≤ 7) → (four five : Bool) → (high == 4) ≡ four → (high == 5) ≡ five → (low : ℕ) × (is_escape (Some high) (hex_value low) ≡ true)
    by (inl few) _ _ _ _ _ = (48, let e : is_escaped (high * 16 + 0) ≡ true = grind (arith, nat_tests) in e)
    by (inr _) (inl many) _ _ _ _ = (48, let e : is_escaped (high * 16 + 0) ≡ true = grind (arith, nat_tests) in e)
    by (inr _) (inr _) true five is _ = (48, let e : high ≡ 4 = grind (arith, nat_tests) in rw e refl)
    by (inr _) (inr _) false true _ is = (68, let e : high ≡ 5 = grind (arith, nat_tests) in rw e refl)
    by (inr some) (inr few) false false four five = (70, let e : high ≡ 7 = grind (arith, nat_tests) in rw e refl)

-- ---- names by their first byte

pub plain_byte : (b : ℕ) (x : List ℕ) → is_escaped b ≡ false → IsNameText x → IsNameText (b ∷ x)
plain_byte b x plain h =
    (b ∷ h.0, ((grind (arith, nat_tests)), h.1), ap (λ (t : List ℕ). b ∷ t) h.2 ∙ ap (λ (v : Bool). cond v (escape_of b) (b ∷ []) ++ escaped h.0) (sym plain))

pub escaped_byte : (c : ℕ) (x : List ℕ) → c < 2 ^ 8 → is_escaped c ≡ true → IsNameText x → IsNameText (37 ∷ hex_digit (c / 16) ∷ hex_digit (c % 16) ∷ x)
escaped_byte c x small needs h =
    (c ∷ h.0, (small, h.1), ap (λ (t : List ℕ). 37 ∷ hex_digit (c / 16) ∷ hex_digit (c % 16) ∷ t) h.2 ∙ ap (λ (v : Bool). cond v (escape_of c) (c ∷ []) ++ escaped h.0) (sym needs))

pub record Escaped (x : List ℕ) : Type 0 where
  pub byte : ℕ
  pub small : byte < 2 ^ 8
  pub needs : is_escaped byte ≡ true
  pub rest : List ℕ
  pub is : x ≡ hex_digit (byte / 16) ∷ hex_digit (byte % 16) ∷ rest
  pub goes : IsNameText rest

abbrev pub Opens : ℕ → List ℕ → Type 0
Opens b x = ((is_escaped b ≡ false) × IsNameText x) ⊎ ((b ≡ 37) × Escaped x)

opens_with : (b : ℕ) (x : List ℕ) (c : ℕ) (cs : List ℕ) (v : Bool) → is_escaped c ≡ v → c < 2 ^ 8 → AllByRecursion (λ byte. byte < 2 ^ 8) cs → b ∷ x ≡ cond v (escape_of c) (c ∷ []) ++ escaped cs → Opens b x
opens_with b x c cs true needs small all is = inr (cc, record { byte = c; small = small; needs = needs; rest = escaped cs; is = cc; goes = (cs, all, refl) })
opens_with b x c cs false plain small all is = let same : c ≡ b = cc in inl (subst (λ (n : ℕ). is_escaped n ≡ false) same plain, (cs, all, cc))

pub opens : (b : ℕ) (x : List ℕ) → IsNameText (b ∷ x) → Opens b x
opens b x h = by h.0 h.1 h.2
  where
    by : (cs : List ℕ) → AllByRecursion (λ byte. byte < 2 ^ 8) cs → b ∷ x ≡ escaped cs → Opens b x
    by [] all is = absurd (cc)
    by (c ∷ cs) all is = opens_with b x c cs (is_escaped c) refl all.0 all.1 is

pub escape_there : (x : List ℕ) → IsNameText (37 ∷ x) → Escaped x
escape_there x h = by (opens 37 x h)
  where
    by : Opens 37 x → Escaped x
    by (inl plain) = absurd (true≢false plain.0)
    by (inr is) = is.1

-- what stands behind a byte that is spelled by itself
pub behind_plain : (b : ℕ) (x : List ℕ) → is_escaped b ≡ false → IsNameText (b ∷ x) → IsNameText x
behind_plain b x plain h = by (opens b x h)
  where
    by : Opens b x → IsNameText x
    by (inl is) = is.1
    by (inr is) = let wrong : is_escaped 37 ≡ false = subst (λ (n : ℕ). is_escaped n ≡ false) is.0 plain in absurd (true≢false wrong)

pub no_name : (b : ℕ) (x : List ℕ) → is_escaped b ≡ true → (b == 37) ≡ false → IsNameText (b ∷ x) → ⊥
no_name b x needs other h = by (opens b x h)
  where
    by : Opens b x → ⊥
    by (inl is) = true≢false (sym needs ∙ is.0)
    by (inr is) = let wrong : (37 == 37) ≡ false = subst (λ (n : ℕ). (n == 37) ≡ false) is.0 other in true≢false wrong

-- ---- escapes by their digits

pub no_percent : IsNameText (37 ∷ []) → ⊥
no_percent h = let e = escape_there [] h in let is = e.is in absurd (cc)

pub no_half : (high : ℕ) → IsNameText (37 ∷ high ∷ []) → ⊥
no_half high h = let e = escape_there (high ∷ []) h in let is = e.is in absurd (cc)

pub high_begins : (high : ℕ) (x : List ℕ) → IsNameText (37 ∷ high ∷ x) → begins_escape (hex_value high) ≡ true
high_begins high x h =
    let e = escape_there (high ∷ x) h in
    let is = e.is in
    let first : high ≡ hex_digit (e.byte / 16) = cc in
    let value : hex_value high ≡ Some (e.byte / 16) = ap hex_value first ∙ value_again (e.byte / 16) (let small = e.small in omega arith) in
    ap begins_escape value ∙ escape_begins e.byte e.small e.needs

pub low_ends : (high low : ℕ) (x : List ℕ) → IsNameText (37 ∷ high ∷ low ∷ x) → is_escape (hex_value high) (hex_value low) ≡ true
low_ends high low x h =
    let e = escape_there (high ∷ low ∷ x) h in
    let is = e.is in
    let small = e.small in
    let first : high ≡ hex_digit (e.byte / 16) = cc in
    let second : low ≡ hex_digit (e.byte % 16) = cc in
    let one : hex_value high ≡ Some (e.byte / 16) = ap hex_value first ∙ value_again (e.byte / 16) (omega arith) in
    let other : hex_value low ≡ Some (e.byte % 16) = ap hex_value second ∙ value_again (e.byte % 16) (omega arith) in
    let same : e.byte / 16 * 16 + e.byte % 16 ≡ e.byte = omega arith in
    ap (λ (o : Option ℕ). is_escape o (hex_value low)) one ∙ ap (λ (o : Option ℕ). is_escape (Some (e.byte / 16)) o) other ∙ ap is_escaped same ∙ e.needs

pub behind_escape : (high low : ℕ) (x : List ℕ) → IsNameText (37 ∷ high ∷ low ∷ x) → IsNameText x
behind_escape high low x h =
    let e = escape_there (high ∷ low ∷ x) h in
    let is = e.is in
    let rest : e.rest ≡ x = cc in
    subst IsNameText rest e.goes

pub escape_spelled : (high low : ℕ) (x : List ℕ) → is_escape (hex_value high) (hex_value low) ≡ true → IsNameText x → IsNameText (37 ∷ high ∷ low ∷ x)
escape_spelled high low x needs h = by (hex_value high) (hex_value low) refl refl needs
  where
    by : (m n : Option ℕ) → hex_value high ≡ m → hex_value low ≡ n → is_escape m n ≡ true → IsNameText (37 ∷ high ∷ low ∷ x)
    by None n one other e = absurd (true≢false (sym e))
    by (Some m) None one other e = absurd (true≢false (sym e))
    by (Some m) (Some n) one other e =
        let p = digit_of high m one in
        let q = digit_of low n other in
        let sp = p.small in
        let sq = q.small in
        let first : hex_digit ((m * 16 + n) / 16) ≡ high = ap hex_digit (let k : (m * 16 + n) / 16 ≡ m = omega arith in k) ∙ sym p.is in
        let second : hex_digit ((m * 16 + n) % 16) ≡ low = ap hex_digit (let k : (m * 16 + n) % 16 ≡ n = omega arith in k) ∙ sym q.is in
        let whole = escaped_byte (m * 16 + n) x (omega arith) e h in
        subst (λ (d : ℕ). IsNameText (37 ∷ high ∷ d ∷ x)) second (subst (λ (d : ℕ). IsNameText (37 ∷ d ∷ hex_digit ((m * 16 + n) % 16) ∷ x)) first whole)
