-- Sites and contexts are read whole.
use Rattle.std.proofs.Common.{◌≡◌, ◌⊎◌, inl, inr, ℕ, ◌+◌, ◌-◌, Bool, true, false, cond, List, [], ◌∷◌, ◌++◌, length, take, Ok, Err, refl, sym, ap, ◌∙◌, subst, arith, lit<, length-append, append_assoc}
use Rattle.std.specs.Prelude.{◌==◌, ◌&&◌, ◌||◌, not, codes}
use Rattle.std.specs.Str.{bytes_eq}
use Rattle.std.proofs.lemmas.Bool.{true≢false, and_parts}
use Rattle.std.proofs.lemmas.List.{append_cancel_left, append_cancel_right, take_at}
use Rattle.std.proofs.lemmas.Slice.Eq.{bytes_eq-Decides}
use Rattle.report_texts.specs.NodeTexts.{IsNameText, IsSomeName, IsNumberText, IsRaised, IsCodeSite, IsSite, EndsContext, IsContext}
use Rattle.report_texts.specs.Parts.{Is, Joined}
use Rattle.report_texts.specs.Reading.{Left, ◌>>=◌, word, number, some_name, begins_with, raised, before, is_constant, behind_site_name, site, last_site, behind_site, behind_bracket, context}
use Rattle.std.proofs.lemmas.Bool.Decides.{nat_tests}
use Rattle.report_texts.proofs.NameBytes.{no_name}
use Rattle.report_texts.proofs.NameReads.{Begins, ends_name, good_some_name}
use Rattle.report_texts.proofs.NumberReads.{ends_number, good_number}
use Rattle.report_texts.proofs.SiteReads.{Chooses, good_choice, starts_with, ends_site, ends_site_cases, site_ends_name, site_ends_number, good_raised}
use Rattle.report_texts.proofs.Steps.{Any, Alike, alike_behind, Goes, Stops, Reads, regroup, in_turn, Good, good_word, good_then, good_like}

-- ---- what stands behind a method's name: `@`, a pc, and perhaps a class

abbrev IsPc : List ℕ → Type 0
IsPc text = Joined (Is (codes "@")) (Joined IsNumberText IsRaised) text

abbrev pc : List ℕ → Left
pc text = word (codes "@") text >>= λ rest. number rest >>= raised

number_follows : (q k : List ℕ) → IsRaised q → Begins ends_site k → Begins ends_number (q ++ k)
number_follows q k (inl none) h = subst (λ (t : List ℕ). Begins ends_number (t ++ k)) (sym none) (site_ends_number k h)
number_follows q k (inr j) h = subst (λ (t : List ℕ). Begins ends_number (t ++ k)) (sym (j.parts ∙ ap (λ (t : List ℕ). t ++ j.rest) j.first)) refl

good_pc : Good (Begins ends_site) IsPc pc
good_pc = good_then (good_word (codes "@")) (good_then good_number good_raised number_follows) (λ q k j h. tt)

-- ---- sites that stand in no method

abbrev IsConstant : List ℕ → Type 0
IsConstant x = (x ≡ codes "string") ⊎ (x ≡ codes "args")

string_named : IsSomeName (codes "string")
string_named = (lit< tt, (codes "string", (lit< tt, (lit< tt, (lit< tt, (lit< tt, (lit< tt, (lit< tt, tt)))))), refl))

args_named : IsSomeName (codes "args")
args_named = (lit< tt, (codes "args", (lit< tt, (lit< tt, (lit< tt, (lit< tt, tt)))), refl))

constant_named : (x : List ℕ) → IsConstant x → IsSomeName x
constant_named x (inl is) = subst IsSomeName (sym is) string_named
constant_named x (inr is) = subst IsSomeName (sym is) args_named

constant_told : (x : List ℕ) → IsConstant x → is_constant x ≡ true
constant_told x (inl is) = subst (λ (t : List ℕ). is_constant t ≡ true) (sym is) refl
constant_told x (inr is) = subst (λ (t : List ℕ). is_constant t ≡ true) (sym is) refl

told_constant : (x : List ℕ) → is_constant x ≡ true → IsConstant x
told_constant x told = by (bytes_eq x (codes "string")) (bytes_eq x (codes "args")) refl refl told
  where
    by : (v w : Bool) → bytes_eq x (codes "string") ≡ v → bytes_eq x (codes "args") ≡ w → (v || w) ≡ true → IsConstant x
    by true w first second e = inl ((bytes_eq-Decides x (codes "string")).0 first)
    by false true first second e = inr ((bytes_eq-Decides x (codes "args")).0 second)
    by false false first second e = absurd (true≢false (sym e))

-- ---- sites

first_is : (one other : List ℕ) → Alike one other → begins_with 64 other ≡ begins_with 64 one
first_is [] [] alike = refl
first_is [] (b ∷ other) alike = absurd alike
first_is (a ∷ one) [] alike = absurd alike
first_is (a ∷ one) (b ∷ other) alike = ap (λ (n : ℕ). n == 64) (sym alike)

no_at : (k : List ℕ) → Begins ends_site k → begins_with 64 k ≡ true → ⊥
no_at [] h at = h
no_at (b ∷ k) h at = ends_site_cases b (λ n. (n == 64) ≡ true → ⊥) h (λ e. true≢false (sym e)) (λ e. true≢false (sym e)) at

begins_at : (x k : List ℕ) → IsPc x → begins_with 64 (x ++ k) ≡ true
begins_at x k j = subst (λ (t : List ℕ). begins_with 64 (t ++ k) ≡ true) (sym (j.parts ∙ ap (λ (t : List ℕ). t ++ j.rest) j.first)) refl

front_before : (text front rest : List ℕ) → text ≡ front ++ rest → before rest text ≡ front
front_before text front rest parts =
    let size : length text ≡ length front + length rest = ap length parts ∙ length-append front rest in
    ap (λ (t : List ℕ). take (length text - length rest) t) parts ∙ take_at front rest (length text - length rest) (omega arith)

module _ (K : List ℕ → Type 0) (fits : (k : List ℕ) → K k → Begins ends_site k) (k0 : List ℕ) (is_k0 : K k0) where
  -- what may stand behind a site's first name
  abbrev Code : List ℕ → Type 0
  Code text = Joined IsPc K text

  abbrev Behind : List ℕ → Type 0
  Behind text = Code text ⊎ K text

  code_fits : (k : List ℕ) → Code k → Begins ends_name k
  code_fits k j = subst (Begins ends_name) (sym (j.parts ∙ ap (λ (t : List ℕ). t ++ j.rest) (j.first.parts ∙ ap (λ (t : List ℕ). t ++ j.first.rest) j.first.first))) refl

  behind_fits : (k : List ℕ) → Behind k → Begins ends_name k
  behind_fits k (inl j) = code_fits k j
  behind_fits k (inr h) = site_ends_name k (fits k h)

  code_there : (k : List ℕ) × Code k
  code_there = (good_pc.some ++ k0, record { front = good_pc.some; rest = k0; parts = refl; first = good_pc.is_some; second = is_k0 })

  by_code : (text : List ℕ) → Reads IsSomeName Code text (some_name text)
  by_code text = good_some_name.reads Code code_fits code_there.0 code_there.1 text

  by_any : (text : List ℕ) → Reads IsSomeName Behind text (some_name text)
  by_any text = good_some_name.reads Behind behind_fits k0 (inr is_k0) text

  -- a site's first name, and what stands behind it
  opens_site : {X : Type 0} (x k : List ℕ) → IsSite x → K k → ((name rest : List ℕ) → IsSomeName name → Behind rest → x ++ k ≡ name ++ rest → X) → X
  opens_site x k (inl is) h then_ = then_ x k (constant_named x is) (inr h) refl
  opens_site x k (inr j) h then_ =
      then_ j.front (j.rest ++ k) j.first (inl (record { front = j.rest; rest = k; parts = refl; first = j.second; second = h }))
      (ap (λ (t : List ℕ). t ++ k) j.parts ∙ append_assoc j.front j.rest k)

  name_breaks : (text rest : List ℕ) → Stops IsSomeName Code text rest → Stops IsSomeName Behind text rest → Stops IsSite K text rest
  name_breaks text rest code any =
      let same : any.front ≡ code.front = append_cancel_right any.front code.front rest (sym any.parts ∙ code.parts) in
      let goes = regroup IsSomeName IsPc K code.goes in
      record {
        front = code.front;
        parts = code.parts;
        more = code.more;
        goes = record { front = goes.front; rest = goes.rest; parts = goes.parts; first = inr goes.first; second = goes.second };
        none = λ x k more alike p h is. opens_site x k p h (λ name behind n b e.
            any.none name behind more alike n b (sym e ∙ is ∙ ap (λ (t : List ℕ). t ++ more) (sym same)));
      }

  module _ (text rest : List ℕ) (any : Goes IsSomeName Behind text rest) where
    -- the whole is a site of no method
    constant_read : is_constant any.front ≡ true → begins_with 64 rest ≡ false → Goes IsSite K text rest
    constant_read told other = record {
      front = any.front;
      parts = any.parts;
      is = inl (told_constant any.front told);
      alone = λ x k more alike p h is. by x k more alike p h is;
    }
      where
        by : (x k more : List ℕ) → Alike more rest → IsSite x → K k → x ++ k ≡ any.front ++ more → x ≡ any.front
        by x k more alike (inl c) h is = any.alone x k more alike (constant_named x c) (inr h) is
        by x k more alike (inr j) h is =
            let whole : j.front ++ (j.rest ++ k) ≡ any.front ++ more = sym (append_assoc j.front j.rest k) ∙ ap (λ (t : List ℕ). t ++ k) (sym j.parts) ∙ is in
            let name : j.front ≡ any.front = any.alone j.front (j.rest ++ k) more alike j.first (inl (record { front = j.rest; rest = k; parts = refl; first = j.second; second = h })) whole in
            let left : j.rest ++ k ≡ more = append_cancel_left any.front _ _ (ap (λ (t : List ℕ). t ++ (j.rest ++ k)) (sym name) ∙ whole) in
            let at : begins_with 64 more ≡ true = ap (begins_with 64) (sym left) ∙ begins_at j.rest k j.second in
            absurd (true≢false (sym at ∙ sym (first_is more rest alike) ∙ other))

    module _ (test : (is_constant any.front && not (begins_with 64 rest)) ≡ false) where
      constant_never : (x k more : List ℕ) → IsConstant x → K k → Alike more rest → x ++ k ≡ any.front ++ more → ⊥
      constant_never x k more c h alike is =
          let name : x ≡ any.front = any.alone x k more alike (constant_named x c) (inr h) is in
          let left : k ≡ more = append_cancel_left any.front _ _ (ap (λ (t : List ℕ). t ++ k) (sym name) ∙ is) in
          let told : is_constant any.front ≡ true = ap is_constant (sym name) ∙ constant_told x c in
          let at : begins_with 64 rest ≡ true = by (begins_with 64 rest) (ap (λ (v : Bool). v && not (begins_with 64 rest)) (sym told) ∙ test) in
          no_at k (fits k h) (ap (begins_with 64) left ∙ sym (first_is more rest alike) ∙ at)
        where
          by : (v : Bool) → (true && not v) ≡ false → v ≡ true
          by true e = refl
          by false e = absurd (true≢false e)

      code_read : (read : Left) → Reads IsPc K rest read → Reads IsCodeSite K text read → Reads IsSite K text read
      code_read (Ok after) tail g = record {
        front = g.front;
        parts = g.parts;
        is = inr g.is;
        alone = λ x k more alike p h is. by x k more alike p h is;
      }
        where
          by : (x k more : List ℕ) → Alike more after → IsSite x → K k → x ++ k ≡ g.front ++ more → x ≡ g.front
          by x k more alike (inr j) h is = g.alone x k more alike j h is
          by x k more alike (inl c) h is =
              let parts : text ≡ (any.front ++ tail.front) ++ after = any.parts ∙ ap (λ (t : List ℕ). any.front ++ t) tail.parts ∙ sym (append_assoc any.front tail.front after) in
              let same : g.front ≡ any.front ++ tail.front = append_cancel_right g.front _ after (sym g.parts ∙ parts) in
              let near : Alike (tail.front ++ more) rest = subst (λ (t : List ℕ). Alike (tail.front ++ more) t) (sym tail.parts) (alike_behind tail.front more after alike) in
              absurd (constant_never x k (tail.front ++ more) c h near (is ∙ ap (λ (t : List ℕ). t ++ more) same ∙ append_assoc any.front tail.front more))
      code_read (Err after) tail s = record {
        front = s.front;
        parts = s.parts;
        more = s.more;
        goes = record { front = s.goes.front; rest = s.goes.rest; parts = s.goes.parts; first = inr s.goes.first; second = s.goes.second };
        none = λ x k more alike p h is. by x k more alike p h is;
      }
        where
          by : (x k more : List ℕ) → Alike more after → IsSite x → K k → x ++ k ≡ s.front ++ more → ⊥
          by x k more alike (inr j) h is = s.none x k more alike j h is
          by x k more alike (inl c) h is =
              let parts : text ≡ (any.front ++ tail.front) ++ after = any.parts ∙ ap (λ (t : List ℕ). any.front ++ t) tail.parts ∙ sym (append_assoc any.front tail.front after) in
              let same : s.front ≡ any.front ++ tail.front = append_cancel_right s.front _ after (sym s.parts ∙ parts) in
              let near : Alike (tail.front ++ more) rest = subst (λ (t : List ℕ). Alike (tail.front ++ more) t) (sym tail.parts) (alike_behind tail.front more after alike) in
              constant_never x k (tail.front ++ more) c h near (is ∙ ap (λ (t : List ℕ). t ++ more) same ∙ append_assoc any.front tail.front more)

    name_read : Goes IsSomeName Code text rest → Reads IsSite K text (behind_site_name text rest)
    unfolding behind_site_name
    name_read code = subst (λ (v : Bool). Reads IsSite K text (cond v (Ok rest) (pc rest))) (ap (λ (t : List ℕ). is_constant t && not (begins_with 64 rest)) (sym (front_before text any.front rest any.parts)))
        (by (is_constant any.front && not (begins_with 64 rest)) refl)
      where
        by : (v : Bool) → (is_constant any.front && not (begins_with 64 rest)) ≡ v → Reads IsSite K text (cond v (Ok rest) (pc rest))
        by true test =
            let p = and_parts (is_constant any.front) (not (begins_with 64 rest)) test in
            constant_read p.0 (flip (begins_with 64 rest) p.1)
          where
            flip : (v : Bool) → not v ≡ true → v ≡ false
            flip true e = absurd (true≢false (sym e))
            flip false e = refl
        by false test = code_read test (pc rest) (good_pc.reads K fits k0 is_k0 rest) (in_turn IsSomeName IsPc K text (Ok rest) pc code (λ r. good_pc.reads K fits k0 is_k0 r))

  site_then : (text : List ℕ) (read : Left) → Reads IsSomeName Code text read → Reads IsSomeName Behind text read → Reads IsSite K text (read >>= behind_site_name text)
  site_then text (Ok rest) code any = name_read text rest any code
  site_then text (Err rest) code any = name_breaks text rest code any

  site_read : (text : List ℕ) → Reads IsSite K text (site text)
  unfolding site
  site_read text = site_then text (some_name text) (by_code text) (by_any text)

pub good_site : Good (Begins ends_site) IsSite site
good_site = record { some = codes "args"; is_some = inl (inr refl); reads = λ K fits k is text. site_read K fits k is text }

-- ---- contexts

good_last_site : Good Any (Joined (Is (codes ",")) (Joined IsSite (Is (codes "]")))) last_site
unfolding last_site
good_last_site = good_then (good_word (codes ",")) (good_then good_site (good_word (codes "]")) (λ q k is h. subst (λ (t : List ℕ). Begins ends_site (t ++ k)) (sym is) refl)) (λ q k j h. tt)

sites_choose : Chooses Any (Joined (Is (codes ",")) (Joined IsSite (Is (codes "]")))) (Is (codes "]")) 44
sites_choose = record { starts = λ x p. starts_with 44 [] x p; never = λ x k q h b. true≢false (sym (subst (λ (t : List ℕ). Begins (λ n. n == 44) (t ++ k)) q b)) }

good_behind_site : Good Any EndsContext behind_site
unfolding behind_site
good_behind_site = good_like (λ x p. to x p) (λ x p. from x p) (good_choice 44 sites_choose good_last_site (good_word (codes "]")))
  where
    to : (x : List ℕ) → Joined (Is (codes ",")) (Joined IsSite (Is (codes "]"))) x ⊎ (x ≡ codes "]") → EndsContext x
    to x (inl p) = inr p
    to x (inr q) = inl q

    from : (x : List ℕ) → EndsContext x → Joined (Is (codes ",")) (Joined IsSite (Is (codes "]"))) x ⊎ (x ≡ codes "]")
    from x (inl q) = inr q
    from x (inr p) = inl p

ends_at_site : (q k : List ℕ) → EndsContext q → Begins ends_site (q ++ k)
ends_at_site q k (inl is) = subst (λ (t : List ℕ). Begins ends_site (t ++ k)) (sym is) refl
ends_at_site q k (inr j) = subst (λ (t : List ℕ). Begins ends_site (t ++ k)) (sym (j.parts ∙ ap (λ (t : List ℕ). t ++ j.rest) j.first)) refl

some_sites : Good Any (Joined IsSite EndsContext) (λ text. site text >>= behind_site)
some_sites = good_then good_site good_behind_site (λ q k e h. ends_at_site q k e)

-- no site begins with `]`
no_bracket : (x k : List ℕ) → IsSite x → Begins (λ b. b == 93) (x ++ k) → ⊥
no_bracket x k (inl (inl is)) b = true≢false (sym (subst (λ (t : List ℕ). Begins (λ n. n == 93) (t ++ k)) is b))
no_bracket x k (inl (inr is)) b = true≢false (sym (subst (λ (t : List ℕ). Begins (λ n. n == 93) (t ++ k)) is b))
no_bracket x k (inr j) b = by j.front j.first (subst (λ (t : List ℕ). Begins (λ n. n == 93) (t ++ k)) j.parts b)
  where
    by : (front : List ℕ) → IsSomeName front → Begins (λ n. n == 93) ((front ++ j.rest) ++ k) → ⊥
    by [] some b = let less = some.0 in absurd (omega arith)
    by (a ∷ front) some b =
        let same : a ≡ 93 = grind (arith, nat_tests) in
        no_name 93 front refl refl (subst (λ (n : ℕ). IsNameText (n ∷ front)) same some.1)

bracket_chooses : Chooses Any (Is (codes "]")) (Joined IsSite EndsContext) 93
bracket_chooses = record {
  starts = λ x is. subst (Begins (λ b. b == 93)) (sym is) refl;
  never = λ x k j h b. no_bracket j.front (j.rest ++ k) j.first (subst (Begins (λ n. n == 93)) (ap (λ (t : List ℕ). t ++ k) j.parts ∙ append_assoc j.front j.rest k) b);
}

good_behind_bracket : Good Any (λ rest. (rest ≡ codes "]") ⊎ Joined IsSite EndsContext rest) behind_bracket
unfolding behind_bracket
good_behind_bracket = good_choice 93 bracket_chooses (good_word (codes "]")) some_sites

pub good_context : Good Any IsContext context
unfolding context
good_context = good_then (good_word (codes "[")) good_behind_bracket (λ q k j h. tt)
