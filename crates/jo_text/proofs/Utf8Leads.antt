-- Which bytes follow the first byte of a character in UTF-8.
use Rattle.std.proofs.Common.{◌≡◌, ◌⊎◌, ℕ, ◌+◌, ◌-◌, ◌*◌, ◌/◌, ◌%◌, ◌<◌, ◌≤◌, true, List, [], ◌∷◌, ◌++◌, refl, sym, ap, subst, ◌∙◌, inl, inr, ⊎_elim, arith, lit≤}
use Rattle.std.proofs.lemmas.Bool.{cases_lt, and_parts}
use Rattle.std.proofs.lemmas.Bool.Decides.{nat_tests}
use Rattle.std.proofs.lemmas.Str.{IsUtf8-append, IsUtf8-encode}
use Rattle.std.specs.Prelude.{Option, Some, None, MatchOption, if◌then◌else◌, nat_lt}
use Rattle.std.specs.Char.{encode_utf8, IsScalar}
use Rattle.std.specs.Int.{is_in_range}
use Rattle.std.specs.Str.{IsUtf8, continuation_len, encode_utf8_all, all_scalars}
use Rattle.std.specs.Str.Lossy.{second_byte_min, second_byte_max}
use Rattle.jo_text.proofs.TextScan.{by_test, lead_goes_on, two_bytes, three_bytes, four_bytes, Spells, Follows}
use Rattle.jo_text.specs.CharScan.{continued, GoesOn}
use Rattle.jo_text.specs.declared.mutf8.Awaited.{Awaited}

-- ---- how characters are spelled

spells_one : (c : ℕ) → c < 0x80 → encode_utf8 c ≡ c ∷ []
unfolding encode_utf8
spells_one c less = grind (arith, nat_tests)

spells_two : (c : ℕ) → 0x80 ≤ c → c < 0x800 → encode_utf8 c ≡ (0xC0 + c / 64) ∷ (0x80 + c % 64) ∷ []
unfolding encode_utf8
spells_two c more less = grind (arith, nat_tests)

spells_three : (c : ℕ) → 0x800 ≤ c → c < 0x1_0000 → encode_utf8 c ≡ (0xE0 + c / 4096) ∷ (0x80 + c / 64 % 64) ∷ (0x80 + c % 64) ∷ []
unfolding encode_utf8
spells_three c more less = grind (arith, nat_tests)

spells_four : (c : ℕ) → 0x1_0000 ≤ c → encode_utf8 c ≡ (0xF0 + c / 262144) ∷ (0x80 + c / 4096 % 64) ∷ (0x80 + c / 64 % 64) ∷ (0x80 + c % 64) ∷ []
unfolding encode_utf8
spells_four c more = grind (arith, nat_tests)

below_last : (c : ℕ) → IsScalar c → c < 0x11_0000
below_last c h = grind (arith, nat_tests)

no_surrogate : (c : ℕ) → IsScalar c → (c < 0xD800) ⊎ (0xE000 ≤ c)
no_surrogate c h = ⊎_elim inl (λ more. inr (grind (arith, nat_tests))) (cases_lt c 0xD800)

low_scalar : (c : ℕ) → c < 0xD800 → IsScalar c
low_scalar c less = grind (arith, nat_tests)

high_scalar : (c : ℕ) → 0xE000 ≤ c → c < 0x11_0000 → IsScalar c
high_scalar c more less = grind (arith, nat_tests)

-- ---- the first byte of each

abbrev pub utf8_lead : ℕ → Option Awaited
utf8_lead b =
    if nat_lt b 0x80 then Some (continued 0)
    else if is_in_range 0xC2 0xF4 b then Some (record { count = continuation_len b; least = second_byte_min b; most = second_byte_max b })
    else None

leads_one : (b : ℕ) → b < 0x80 → utf8_lead b ≡ Some (continued 0)
leads_one b less = grind (arith, nat_tests)

leads_two : (b : ℕ) → 0xC2 ≤ b → b ≤ 0xDF → utf8_lead b ≡ Some (continued 1)
leads_two b more less = grind (arith, nat_tests)

leads_three : (b : ℕ) → 0xE0 ≤ b → b ≤ 0xEF → utf8_lead b ≡ Some (record { count = 2; least = second_byte_min b; most = second_byte_max b })
leads_three b more less = grind (arith, nat_tests)

leads_four : (b : ℕ) → 0xF0 ≤ b → b ≤ 0xF4 → utf8_lead b ≡ Some (record { count = 3; least = second_byte_min b; most = second_byte_max b })
leads_four b more less = grind (arith, nat_tests)

-- the second byte is in the range that the first one asks for
min_le : (b y : ℕ) → 0x80 ≤ y → (b ≡ 0xE0 → 0xA0 ≤ y) → (b ≡ 0xF0 → 0x90 ≤ y) → second_byte_min b ≤ y
min_le b y low three four = grind (arith, nat_tests)

le_max : (b y : ℕ) → y ≤ 0xBF → (b ≡ 0xED → y ≤ 0x9F) → (b ≡ 0xF4 → y ≤ 0x8F) → y ≤ second_byte_max b
le_max b y high three four = grind (arith, nat_tests)

y_range : (b y : ℕ) → second_byte_min b ≤ y → y ≤ second_byte_max b → (0x80 ≤ y) × (y ≤ 0xBF)
y_range b y low high = (grind (arith, nat_tests), grind (arith, nat_tests))

-- ---- a text that begins with a byte

module _ (b : ℕ) (rest : List ℕ) where
  begins_char : (c : ℕ) (more : List ℕ) → IsScalar c → b ∷ rest ≡ encode_utf8 c ++ more → IsUtf8 more → Follows IsUtf8 (utf8_lead b) rest
  begins_char c more fits is h = by (cases_lt c 0x80) (cases_lt c 0x800) (cases_lt c 0x1_0000)
    where
      at : (spelled : List ℕ) → encode_utf8 c ≡ spelled → b ∷ rest ≡ spelled ++ more
      at spelled e = is ∙ ap (λ (s : List ℕ). s ++ more) e

      by : (c < 0x80) ⊎ (0x80 ≤ c) → (c < 0x800) ⊎ (0x800 ≤ c) → (c < 0x1_0000) ⊎ (0x1_0000 ≤ c) → Follows IsUtf8 (utf8_lead b) rest
      by (inl less) _ _ =
          let e = at (c ∷ []) (spells_one c less) in
          let first : b ≡ c = cc in
          let second : rest ≡ more = cc in
          (_, leads_one b (omega arith), rw second h)
      by (inr past) (inl less) _ =
          let e = at ((0xC0 + c / 64) ∷ (0x80 + c % 64) ∷ []) (spells_two c past less) in
          let first : b ≡ 0xC0 + c / 64 = cc in
          let second : rest ≡ (0x80 + c % 64) ∷ more = cc in
          (_, leads_two b (omega arith) (omega arith), rw second (omega arith, omega arith, h))
      by (inr _) (inr past) (inl less) =
          let e = at ((0xE0 + c / 4096) ∷ (0x80 + c / 64 % 64) ∷ (0x80 + c % 64) ∷ []) (spells_three c past less) in
          let first : b ≡ 0xE0 + c / 4096 = cc in
          let second : rest ≡ (0x80 + c / 64 % 64) ∷ (0x80 + c % 64) ∷ more = cc in
          let y : ℕ = 0x80 + c / 64 % 64 in
          let scalar = no_surrogate c fits in (
            _,
            leads_three b (omega arith) (omega arith),
            rw second (
              min_le b y (omega arith) (λ e. omega arith) (λ e. omega arith),
              le_max b y (omega arith) (λ e. omega (arith, scalar)) (λ e. omega arith),
              (omega arith, omega arith, h),
            ),
          )
      by (inr _) (inr _) (inr past) =
          let e = at ((0xF0 + c / 262144) ∷ (0x80 + c / 4096 % 64) ∷ (0x80 + c / 64 % 64) ∷ (0x80 + c % 64) ∷ []) (spells_four c past) in
          let first : b ≡ 0xF0 + c / 262144 = cc in
          let second : rest ≡ (0x80 + c / 4096 % 64) ∷ (0x80 + c / 64 % 64) ∷ (0x80 + c % 64) ∷ more = cc in
          let y : ℕ = 0x80 + c / 4096 % 64 in
          let last = below_last c fits in (
            _,
            leads_four b (omega arith) (omega arith),
            rw second (
              min_le b y (omega arith) (λ e. omega arith) (λ e. omega arith),
              le_max b y (omega arith) (λ e. omega arith) (λ e. omega arith),
              (omega arith, omega arith, (omega arith, omega arith, h)),
            ),
          )

  begins_text : IsUtf8 (b ∷ rest) → Follows IsUtf8 (utf8_lead b) rest
  begins_text h = by h.0 h.1.0 h.1.1
    where
      by : (cs : List ℕ) → all_scalars cs ≡ true → encode_utf8_all cs ≡ b ∷ rest → Follows IsUtf8 (utf8_lead b) rest
      by [] fit is = absurd cc
      by (c ∷ cs) fit is = let fits = and_parts _ _ fit in begins_char c (encode_utf8_all cs) fits.0 (sym is) (cs, (fits.1, refl))

-- ---- bytes that spell a character, and then a text

cons_char : (c : ℕ) (spelled rest : List ℕ) → IsScalar c → encode_utf8 c ≡ spelled → IsUtf8 rest → IsUtf8 (spelled ++ rest)
cons_char c spelled rest fits is h = rw (← is) (IsUtf8-append (encode_utf8 c) rest (IsUtf8-encode c fits) h)

cons_two : (b : ℕ) → 0xC2 ≤ b → b ≤ 0xDF → (y : ℕ) (rest : List ℕ) → second_byte_min b ≤ y → y ≤ second_byte_max b → IsUtf8 rest → IsUtf8 (b ∷ y ∷ rest)
cons_two b low high y rest y_low y_high h =
    let c : ℕ = (b - 0xC0) * 64 + (y - 0x80) in
    let second = y_range b y y_low y_high in
    let p : 0xC0 + c / 64 ≡ b = omega (arith, second) in
    let q : 0x80 + c % 64 ≡ y = omega (arith, second) in
    cons_char c (b ∷ y ∷ []) rest (low_scalar c (omega arith)) (spells_two c (omega arith) (omega arith) ∙ cc (p, q)) h

cons_three : (b : ℕ) → 0xE0 ≤ b → b ≤ 0xEF → (y z : ℕ) (rest : List ℕ) → second_byte_min b ≤ y → y ≤ second_byte_max b → 0x80 ≤ z → z ≤ 0xBF → IsUtf8 rest → IsUtf8 (b ∷ y ∷ z ∷ rest)
cons_three b low high y z rest y_low y_high z_low z_high h =
    let c : ℕ = (b - 0xE0) * 4096 + (y - 0x80) * 64 + (z - 0x80) in
    let second = y_range b y y_low y_high in
    let least : 0xE0A0 ≤ b * 256 + y = grind (arith, nat_tests) in
    let p : 0xE0 + c / 4096 ≡ b = omega (arith, second) in
    let q : 0x80 + c / 64 % 64 ≡ y = omega (arith, second) in
    let r : 0x80 + c % 64 ≡ z = omega arith in
    let fits : IsScalar c = ⊎_elim
    (λ (below : b < 0xEE). let most : b * 256 + y ≤ 0xED9F = grind (arith, nat_tests) in low_scalar c (omega arith))
    (λ (above : 0xEE ≤ b). high_scalar c (omega arith) (omega arith))
    (cases_lt b 0xEE) in
    cons_char c (b ∷ y ∷ z ∷ []) rest fits (spells_three c (omega arith) (omega arith) ∙ cc (p, q, r)) h

cons_four : (b : ℕ) → 0xF0 ≤ b → b ≤ 0xF4 → (y z w : ℕ) (rest : List ℕ) → second_byte_min b ≤ y → y ≤ second_byte_max b → 0x80 ≤ z → z ≤ 0xBF → 0x80 ≤ w → w ≤ 0xBF → IsUtf8 rest → IsUtf8 (b ∷ y ∷ z ∷ w ∷ rest)
cons_four b low high y z w rest y_low y_high z_low z_high w_low w_high h =
    let c : ℕ = (b - 0xF0) * 262144 + (y - 0x80) * 4096 + (z - 0x80) * 64 + (w - 0x80) in
    let second = y_range b y y_low y_high in
    let least : 0xF090 ≤ b * 256 + y = grind (arith, nat_tests) in
    let most : b * 256 + y ≤ 0xF48F = grind (arith, nat_tests) in
    let p : 0xF0 + c / 262144 ≡ b = omega (arith, second) in
    let q : 0x80 + c / 4096 % 64 ≡ y = omega (arith, second) in
    let r : 0x80 + c / 64 % 64 ≡ z = omega (arith, second) in
    let s : 0x80 + c % 64 ≡ w = omega arith in
    cons_char c (b ∷ y ∷ z ∷ w ∷ []) rest (high_scalar c (omega arith) (omega arith)) (spells_four c (omega arith) ∙ cc (p, q, r, s)) h

-- ---- each first byte

wide_spells : (b : ℕ) → 0xC2 ≤ b → b ≤ 0xF4 → Spells IsUtf8 b (record { count = continuation_len b; least = second_byte_min b; most = second_byte_max b })
wide_spells b low high =
    let P : ℕ → Type 0 = λ n. Spells IsUtf8 b (record { count = n; least = second_byte_min b; most = second_byte_max b }) in
    let some : second_byte_min b ≤ second_byte_max b = grind (arith, nat_tests) in
    ⊎_elim
    (λ (two : b < 0xE0). let is : continuation_len b ≡ 1 = grind (arith, nat_tests) in
    subst P (sym is) (two_bytes IsUtf8 b _ _ some (cons_two b low (omega arith))))
    (λ (past : 0xE0 ≤ b). ⊎_elim
    (λ (three : b < 0xF0). let is : continuation_len b ≡ 2 = grind (arith, nat_tests) in
    subst P (sym is) (three_bytes IsUtf8 b _ _ some (cons_three b past (omega arith))))
    (λ (four : 0xF0 ≤ b). let is : continuation_len b ≡ 3 = grind (arith, nat_tests) in
    subst P (sym is) (four_bytes IsUtf8 b _ _ some (cons_four b four high)))
    (cases_lt b 0xF0))
    (cases_lt b 0xE0)

lead_spells : (b : ℕ) → MatchOption (utf8_lead b) (Unit {0}) (Spells IsUtf8 b)
lead_spells b =
    let P : Option Awaited → Type 0 = λ o. MatchOption o (Unit {0}) (Spells IsUtf8 b) in
    by_test P (nat_lt b 0x80) _ _
    (λ is. (lit≤ tt, λ rest h. let less : b < 0x80 = grind (arith, nat_tests) in cons_char b (b ∷ []) rest (low_scalar b (omega arith)) (spells_one b less) h))
    (λ _. by_test P (is_in_range 0xC2 0xF4 b) _ _
    (λ is. wide_spells b (grind (arith, nat_tests)) (grind (arith, nat_tests)))
    (λ _. tt))

pub utf8_goes_on : (b : ℕ) → GoesOn IsUtf8 [] b (utf8_lead b)
utf8_goes_on b = lead_goes_on IsUtf8 b (utf8_lead b) (begins_text b) (lead_spells b)
