-- Which bytes follow the first byte of a character in modified UTF-8.
use Rattle.std.proofs.Common.{◌≡◌, ◌⊎◌, ℕ, ◌+◌, ◌-◌, ◌*◌, ◌/◌, ◌%◌, ◌<◌, ◌≤◌, List, [], ◌∷◌, ◌++◌, refl, ap, ◌∙◌, inl, inr, arith, lit≤, lit<}
use Rattle.std.proofs.lemmas.Bool.{cases_lt}
use Rattle.std.proofs.lemmas.Bool.Decides.{nat_tests}
use Rattle.std.specs.Prelude.{Option, Some, MatchOption, ◌==◌}
use Rattle.std.specs.Int.{is_in_range}
use Rattle.std.specs.List.{flat_map, AllByRecursion}
use Rattle.jo_text.proofs.TextScan.{by_test, lead_goes_on, two_bytes, three_bytes, Spells, Follows}
use Rattle.jo_text.specs.CharScan.{continued, mutf8_lead, GoesOn}
use Rattle.jo_text.specs.Mutf8.{mutf8_of, IsMutf8}
use Rattle.jo_text.specs.declared.mutf8.Awaited.{Awaited}

pub IsMutf8-nil : IsMutf8 []
IsMutf8-nil = ([], tt, refl)

-- ---- how characters are spelled

spells_zero : (c : ℕ) → c ≡ 0 → mutf8_of c ≡ 0xC0 ∷ 0x80 ∷ []
spells_zero c is = rw is refl

spells_one : (c : ℕ) → 0 < c → c < 0x80 → mutf8_of c ≡ c ∷ []
spells_one c more less = grind (arith, nat_tests)

spells_two : (c : ℕ) → 0x80 ≤ c → c < 0x800 → mutf8_of c ≡ (0xC0 + c / 64) ∷ (0x80 + c % 64) ∷ []
spells_two c more less = grind (arith, nat_tests)

spells_three : (c : ℕ) → 0x800 ≤ c → mutf8_of c ≡ (0xE0 + c / 4096) ∷ (0x80 + c / 64 % 64) ∷ (0x80 + c % 64) ∷ []
spells_three c more = grind (arith, nat_tests)

-- ---- the first byte of each

leads_one : (b : ℕ) → 0 < b → b < 0x80 → mutf8_lead b ≡ Some (continued 0)
leads_one b more less = grind (arith, nat_tests)

leads_zero : (b : ℕ) → b ≡ 0xC0 → mutf8_lead b ≡ Some (record { count = 1; least = 0x80; most = 0x80 })
leads_zero b is = rw is refl

leads_two : (b : ℕ) → 0xC2 ≤ b → b ≤ 0xDF → mutf8_lead b ≡ Some (continued 1)
leads_two b more less = grind (arith, nat_tests)

leads_least : (b : ℕ) → b ≡ 0xE0 → mutf8_lead b ≡ Some (record { count = 2; least = 0xA0; most = 0xBF })
leads_least b is = rw is refl

leads_three : (b : ℕ) → 0xE1 ≤ b → b ≤ 0xEF → mutf8_lead b ≡ Some (continued 2)
leads_three b more less = grind (arith, nat_tests)

-- ---- a text that begins with a byte

module _ (b : ℕ) (rest : List ℕ) where
  begins_char : (c : ℕ) (more : List ℕ) → c < 0x1_0000 → b ∷ rest ≡ mutf8_of c ++ more → IsMutf8 more → Follows IsMutf8 (mutf8_lead b) rest
  begins_char c more fits is h = by (cases_lt 0 c) (cases_lt c 0x80) (cases_lt c 0x800)
    where
      at : (spelled : List ℕ) → mutf8_of c ≡ spelled → b ∷ rest ≡ spelled ++ more
      at spelled e = is ∙ ap (λ (s : List ℕ). s ++ more) e

      by : (0 < c) ⊎ (c ≤ 0) → (c < 0x80) ⊎ (0x80 ≤ c) → (c < 0x800) ⊎ (0x800 ≤ c) → Follows IsMutf8 (mutf8_lead b) rest
      by (inr none) _ _ =
          let e = at (0xC0 ∷ 0x80 ∷ []) (spells_zero c (omega arith)) in
          let first : b ≡ 0xC0 = cc in
          let second : rest ≡ 0x80 ∷ more = cc in
          (_, leads_zero b first, rw second (lit≤ tt, lit≤ tt, h))
      by (inl some) (inl less) _ =
          let e = at (c ∷ []) (spells_one c some less) in
          let first : b ≡ c = cc in
          let second : rest ≡ more = cc in
          (_, leads_one b (omega arith) (omega arith), rw second h)
      by (inl some) (inr past) (inl less) =
          let e = at ((0xC0 + c / 64) ∷ (0x80 + c % 64) ∷ []) (spells_two c past less) in
          let first : b ≡ 0xC0 + c / 64 = cc in
          let second : rest ≡ (0x80 + c % 64) ∷ more = cc in
          (_, leads_two b (omega arith) (omega arith), rw second (omega arith, omega arith, h))
      by (inl some) (inr _) (inr past) =
          let e = at ((0xE0 + c / 4096) ∷ (0x80 + c / 64 % 64) ∷ (0x80 + c % 64) ∷ []) (spells_three c past) in
          let first : b ≡ 0xE0 + c / 4096 = cc in
          let second : rest ≡ (0x80 + c / 64 % 64) ∷ (0x80 + c % 64) ∷ more = cc in
          least first second (cases_lt 0xE0 b)
        where
          least : b ≡ 0xE0 + c / 4096 → rest ≡ (0x80 + c / 64 % 64) ∷ (0x80 + c % 64) ∷ more → (0xE0 < b) ⊎ (b ≤ 0xE0) → Follows IsMutf8 (mutf8_lead b) rest
          least first second (inl more) = (_, leads_three b (omega arith) (omega arith), rw second (omega arith, omega arith, (omega arith, omega arith, h)))
          least first second (inr less) = (_, leads_least b (omega arith), rw second (omega arith, omega arith, (omega arith, omega arith, h)))

  begins_text : IsMutf8 (b ∷ rest) → Follows IsMutf8 (mutf8_lead b) rest
  begins_text h = by h.0 h.1 h.2
    where
      by : (cs : List ℕ) → AllByRecursion (λ c. c < 0x1_0000) cs → b ∷ rest ≡ flat_map mutf8_of cs → Follows IsMutf8 (mutf8_lead b) rest
      by [] fit is = absurd cc
      by (c ∷ cs) fit is = begins_char c (flat_map mutf8_of cs) fit.0 is (cs, fit.1, refl)

-- ---- bytes that spell a character, and then a text

cons_char : (c : ℕ) (spelled rest : List ℕ) → c < 0x1_0000 → mutf8_of c ≡ spelled → IsMutf8 rest → IsMutf8 (spelled ++ rest)
cons_char c spelled rest fits is h = (c ∷ h.0, (fits, h.1), rw (← is, h.2) refl)

cons_zero : (b y : ℕ) (rest : List ℕ) → b ≡ 0xC0 → y ≡ 0x80 → IsMutf8 rest → IsMutf8 (b ∷ y ∷ rest)
cons_zero b y rest first second h = cons_char 0 (b ∷ y ∷ []) rest (lit< tt) (cc (first, second, spells_zero 0 refl)) h

cons_pair : (b y : ℕ) (rest : List ℕ) → 0xC2 ≤ b → b ≤ 0xDF → 0x80 ≤ y → y ≤ 0xBF → IsMutf8 rest → IsMutf8 (b ∷ y ∷ rest)
cons_pair b y rest low high y_low y_high h =
    let c : ℕ = (b - 0xC0) * 64 + (y - 0x80) in
    let first : 0xC0 + c / 64 ≡ b = omega arith in
    let second : 0x80 + c % 64 ≡ y = omega arith in
    cons_char c (b ∷ y ∷ []) rest (omega arith) (spells_two c (omega arith) (omega arith) ∙ cc) h

-- The second byte is at least `least`, which is at least 0xA0 behind 0xE0: the two as one number.
cons_triple : (b : ℕ) → 0xE0 ≤ b → b ≤ 0xEF → (least : ℕ) → 0x80 ≤ least → 0xE0A0 ≤ b * 256 + least
    → (y z : ℕ) (rest : List ℕ) → least ≤ y → y ≤ 0xBF → 0x80 ≤ z → z ≤ 0xBF → IsMutf8 rest → IsMutf8 (b ∷ y ∷ z ∷ rest)
cons_triple b low high least above past y z rest y_low y_high z_low z_high h =
    let c : ℕ = (b - 0xE0) * 4096 + (y - 0x80) * 64 + (z - 0x80) in
    let first : 0xE0 + c / 4096 ≡ b = omega arith in
    let second : 0x80 + c / 64 % 64 ≡ y = omega arith in
    let third : 0x80 + c % 64 ≡ z = omega arith in
    cons_char c (b ∷ y ∷ z ∷ []) rest (omega arith) (spells_three c (omega arith) ∙ cc) h

-- ---- each first byte

lead_spells : (b : ℕ) → MatchOption (mutf8_lead b) (Unit {0}) (Spells IsMutf8 b)
lead_spells b =
    let P : Option Awaited → Type 0 = λ o. MatchOption o (Unit {0}) (Spells IsMutf8 b) in
    by_test P (is_in_range 0x01 0x7F b) _ _
    (λ is. (lit≤ tt, λ rest h. let more : 0 < b = grind (arith, nat_tests) in let less : b < 0x80 = grind (arith, nat_tests) in cons_char b (b ∷ []) rest (omega arith) (spells_one b more less) h))
    (λ _. by_test P (b == 0xC0) _ _
    (λ is. two_bytes IsMutf8 b 0x80 0x80 (lit≤ tt) (λ y rest low high h. cons_zero b y rest (grind (arith, nat_tests)) (omega arith) h))
    (λ _. by_test P (is_in_range 0xC2 0xDF b) _ _
    (λ is. two_bytes IsMutf8 b 0x80 0xBF (lit≤ tt) (λ y rest low high h. cons_pair b y rest (grind (arith, nat_tests)) (grind (arith, nat_tests)) low high h))
    (λ _. by_test P (b == 0xE0) _ _
    (λ is. three_bytes IsMutf8 b 0xA0 0xBF (lit≤ tt) (cons_triple b (grind (arith, nat_tests)) (grind (arith, nat_tests)) 0xA0 (lit≤ tt) (grind (arith, nat_tests))))
    (λ _. by_test P (is_in_range 0xE1 0xEF b) _ _
    (λ is. three_bytes IsMutf8 b 0x80 0xBF (lit≤ tt) (cons_triple b (grind (arith, nat_tests)) (grind (arith, nat_tests)) 0x80 (lit≤ tt) (grind (arith, nat_tests))))
    (λ _. tt)))))

pub mutf8_goes_on : (b : ℕ) → GoesOn IsMutf8 [] b (mutf8_lead b)
mutf8_goes_on b = lead_goes_on IsMutf8 b (mutf8_lead b) (begins_text b) (lead_spells b)
