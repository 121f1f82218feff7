-- Where bytes stop being UTF-8, of the fault that `from_utf8` finds.
use Rattle.std.proofs.Common.{◌≡◌, ℕ, ◌+◌, ◌-◌, ◌<◌, ◌≤◌, true, false, List, [], ◌∷◌, ◌++◌, length, take, drop, get_or, refl, sym, ap, subst, ◌∙◌, ⊎_elim, true≢false, append_assoc, take_all, add-zero, get_or-drop, length-drop, arith, lit≤}
use Rattle.std.proofs.lemmas.Bool.{cases_lt, cases_Bool}
use Rattle.std.proofs.lemmas.Bool.Decides.{nat_tests}
use Rattle.std.proofs.lemmas.Str.{IsUtf8-append, IsUtf8-nil, IsUtf8-past_char}
use Rattle.std.specs.Prelude.{Option, Some, None, MatchOption, ◌==◌, nat_lt, slice_index}
use Rattle.std.specs.Char.{encode_utf8}
use Rattle.std.specs.Int.{is_in_range}
use Rattle.std.specs.Str.{IsUtf8, IsValidUpTo, continuation_len, encode_utf8_all}
use Rattle.std.specs.Str.Lossy.{utf8_error_len, error_len_after_one, error_len_after_two, second_byte_min, second_byte_max}
use Rattle.jo_text.proofs.TextScan.{by_test, whole_text, stops_short, leads_at, within_at, outside_at}
use Rattle.jo_text.proofs.Utf8Leads.{utf8_lead, utf8_goes_on}
use Rattle.jo_text.specs.CharScan.{continued, Awaits}
use Rattle.jo_text.specs.Texts.{StopsAt}
use Rattle.jo_text.specs.declared.mutf8.Awaited.{Awaited}

-- what follows a text is a text, where the whole is one
past_chars : (cs rest : List ℕ) → IsUtf8 (encode_utf8_all cs ++ rest) → IsUtf8 rest
past_chars [] rest h = h
past_chars (c ∷ cs) rest h = past_chars cs rest (IsUtf8-past_char _ (encode_utf8_all cs ++ rest) c h (append_assoc (encode_utf8 c) (encode_utf8_all cs) rest))

past_text : (front rest : List ℕ) → IsUtf8 front → IsUtf8 (front ++ rest) → IsUtf8 rest
past_text front rest text h = past_chars text.0 rest (rw text.1.1 h)

in_range : (lo hi b : ℕ) → is_in_range lo hi b ≡ true → (lo ≤ b) × (b ≤ hi)
in_range lo hi b h = (grind (arith, nat_tests), grind (arith, nat_tests))

out_of_range : (lo hi b : ℕ) → is_in_range lo hi b ≡ false → lo ≤ b → b ≤ hi → ⊥
out_of_range lo hi b h low high = grind (arith, nat_tests)

module _ (bs : List ℕ) (n : ℕ) (valid : IsValidUpTo bs n) where
  abbrev rest : List ℕ
  rest = drop n bs

  lead_is : slice_index rest 0 ≡ get_or bs n 0
  lead_is = get_or-drop n bs 0 0 ∙ ap (λ (i : ℕ). get_or bs i 0) (add-zero n)

  -- none is awaited behind the longest front that is a text
  start : Awaits IsUtf8 (take n bs) (continued 0)
  start = record { some = lit≤ tt; exact = λ rest. (past_text (take n bs) rest valid.front, IsUtf8-append (take n bs) rest valid.front) }

  -- no longer front is a text, so that some byte is awaited there
  more : (m : ℕ) (a : Awaited) → n < m → Awaits IsUtf8 (take m bs) a → a.count ≡ 0 → ⊥
  more m a past h none = valid.longest m past (whole_text IsUtf8 (take m bs) a h none IsUtf8-nil)

  -- and where the bytes end there they only stop too early
  cut : (m : ℕ) (a : Awaited) → n < m → length bs ≤ m → Awaits IsUtf8 (take m bs) a → StopsAt IsUtf8 bs (length bs)
  cut m a past end h = stops_short IsUtf8 bs a IsUtf8-nil (rw (take_all m bs end) at h) (more m a past h)

  -- ---- the first byte at fault begins no character

  pub stops_at_start : is_in_range 0xC2 0xF4 (get_or bs n 0) ≡ false → StopsAt IsUtf8 bs n
  stops_at_start other =
      let x = get_or bs n 0 in
      let next = leads_at IsUtf8 bs n (continued 0) start valid.short (utf8_lead x) IsUtf8-nil refl (utf8_goes_on x) in
      ⊎_elim
      (λ (plain : x < 0x80).
      let is : utf8_lead x ≡ Some (continued 0) = grind (arith, nat_tests) in
      absurd (more (n + 1) (continued 0) (omega arith) (rw is at next) refl))
      (λ (past : 0x80 ≤ x). let is : utf8_lead x ≡ None = grind (arith, nat_tests) in rw is at next)
      (cases_lt x 0x80)

  -- ---- it begins one: the bytes behind it, one by one as `utf8_error_len` tests them

  module _ (lead : is_in_range 0xC2 0xF4 (get_or bs n 0) ≡ true) where
    abbrev asked : Awaited
    asked = let x = get_or bs n 0 in record { count = continuation_len x; least = second_byte_min x; most = second_byte_max x }

    few : continuation_len (get_or bs n 0) ≤ 3
    few = grind (arith, nat_tests)

    after_one : Awaits IsUtf8 (take (n + 1) bs) asked
    after_one =
        let x = get_or bs n 0 in
        let next = leads_at IsUtf8 bs n (continued 0) start valid.short (utf8_lead x) IsUtf8-nil refl (utf8_goes_on x) in
        let is : utf8_lead x ≡ Some asked = grind (arith, nat_tests) in
        rw is at next

    abbrev Stops : Option ℕ → Type 0
    Stops len = MatchOption len (StopsAt IsUtf8 bs (length bs)) (λ k. StopsAt IsUtf8 bs (n + k))

    third : Awaits IsUtf8 (take (n + 3) bs) (continued (continuation_len (get_or bs n 0) - 1 - 1)) → n + 3 < length bs → StopsAt IsUtf8 bs (n + 3)
    third h lt =
        let some = more (n + 3) _ (omega arith) h in
        outside_at IsUtf8 bs (n + 3) _ h lt some IsUtf8-nil (λ low high.
        more (n + 4) _ (omega arith) (within_at IsUtf8 bs (n + 3) _ h lt some low high (n + 4) (omega arith)) (omega (arith, few)))

    second : Awaits IsUtf8 (take (n + 2) bs) (continued (continuation_len (get_or bs n 0) - 1)) → Stops (error_len_after_two rest)
    second h =
        let some = more (n + 2) _ (omega arith) h in
        let here : slice_index rest 2 ≡ get_or bs (n + 2) 0 = get_or-drop n bs 2 0 in
        by_test Stops (nat_lt (length rest) 3) None _
        (λ short. cut (n + 2) _ (omega arith) (grind (arith, nat_tests, length-drop n bs)) h)
        (λ long. let lt : n + 2 < length bs = grind (arith, nat_tests, length-drop n bs) in
        by_test Stops (is_in_range 0x80 0xBF (slice_index rest 2)) _ (Some 2)
        (λ within. let next = within_at IsUtf8 bs (n + 2) _ h lt some (grind (arith, nat_tests)) (grind (arith, nat_tests)) (n + 3) (omega arith) in
        by_test Stops (nat_lt (length rest) 4) None (Some 3)
        (λ short. cut (n + 3) _ (omega arith) (grind (arith, nat_tests, length-drop n bs)) next)
        (λ long. third next (grind (arith, nat_tests, length-drop n bs))))
        (λ outside. outside_at IsUtf8 bs (n + 2) _ h lt some IsUtf8-nil (λ low high. grind (arith, nat_tests))))

    first : Stops (error_len_after_one rest)
    first =
        let some = more (n + 1) asked (omega arith) after_one in
        let here : slice_index rest 1 ≡ get_or bs (n + 1) 0 = get_or-drop n bs 1 0 in
        let x = slice_index rest 0 in
        by_test Stops (nat_lt (length rest) 2) None _
        (λ short. cut (n + 1) asked (omega arith) (grind (arith, nat_tests, length-drop n bs)) after_one)
        (λ long. let lt : n + 1 < length bs = grind (arith, nat_tests, length-drop n bs) in
        by_test Stops (is_in_range (second_byte_min x) (second_byte_max x) (slice_index rest 1)) _ (Some 1)
        (λ within. second (within_at IsUtf8 bs (n + 1) asked after_one lt some (in_range _ _ _ (rw (lead_is, here) at within)).0 (in_range _ _ _ (rw (lead_is, here) at within)).1 (n + 2) (omega arith)))
        (λ outside. outside_at IsUtf8 bs (n + 1) asked after_one lt some IsUtf8-nil (out_of_range _ _ _ (rw (lead_is, here) at outside))))

    by_error_len : Stops (utf8_error_len rest)
    unfolding utf8_error_len
    by_error_len =
        by_test Stops (length rest == 0) None _
        (λ empty. let short = valid.short in absurd (grind (arith, nat_tests, length-drop n bs)))
        (λ _. by_test Stops (is_in_range 0xC2 0xF4 (slice_index rest 0)) _ (Some 1)
        (λ _. first)
        (λ other. absurd (true≢false (sym lead ∙ ap (is_in_range 0xC2 0xF4) (sym lead_is) ∙ other))))

    pub stops_inside : (k : ℕ) → utf8_error_len rest ≡ Some k → StopsAt IsUtf8 bs (n + k)
    stops_inside k is = subst Stops is by_error_len

  len_of_start : is_in_range 0xC2 0xF4 (get_or bs n 0) ≡ false → utf8_error_len rest ≡ Some 1
  unfolding utf8_error_len
  len_of_start other =
      let short = valid.short in
      let some : (length rest == 0) ≡ false = grind (arith, nat_tests, length-drop n bs) in
      let out : is_in_range 0xC2 0xF4 (slice_index rest 0) ≡ false = rw lead_is other in
      rw (some, out) refl

  pub stops_at_end : utf8_error_len rest ≡ None → StopsAt IsUtf8 bs (length bs)
  stops_at_end is = ⊎_elim
      (λ lead. subst (Stops lead) is (by_error_len lead))
      (λ other. let wrong : Some 1 ≡ None = sym (len_of_start other) ∙ is in absurd cc)
      (cases_Bool (is_in_range 0xC2 0xF4 (get_or bs n 0)))
