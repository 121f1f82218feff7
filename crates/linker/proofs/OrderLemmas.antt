-- Faults in their order: of each kind the first class, or none.
use Rattle.std.proofs.Common.{◌≡◌, ◌<◌, ◌≤◌, ℕ, zero, suc, ◌+◌, Bool, true, false, List, [], ◌∷◌, length, Option, Some, None, refl, sym, subst, ap, ◌∙◌, ◌⊎◌, inl, inr, arith}
use Rattle.std.specs.Prelude.{◌==◌, if◌then◌else◌, slice_get, position}
use Rattle.std.specs.List.{position_from}
use Rattle.std.specs.Option.{IsSomeAnd}
use Rattle.std.proofs.lemmas.Bool.{cases_lt}
use Rattle.std.proofs.lemmas.Iterator.Adapters.{position_from-zero}
use Rattle.class_pool.specs.declared.classes.ClassFile.{ClassFile}
use Rattle.jo_prog.specs.declared.program.Program.{Program}
use Rattle.linker.specs.declared.causes.LinkCode.{LinkCode}
use Rattle.linker.specs.declared.causes.LinkCode.TheVariants.{TwiceDefined, MissingClass, CyclicSuper, MissingMember, NotImplemented, InterfaceBody, StaticInit, Memory}
use Rattle.linker.specs.declared.causes.LinkFault.{LinkFault}
use Rattle.linker.specs.Linking.{program_among, linked_classes}
use Rattle.linker.specs.LinkFaults.{class_names}
use Rattle.program_faults.specs.FirstFaults.{IsFirst}
use Rattle.linker.specs.LinkOrder.{PassesAt, HasFault, HasProgramFault, HasNoProgramFault, HasNoFault, rank, HasNoneBefore, IsFirstFault, IsToldOf, IsFirstProgramFault, IsProgramAnswer, IsNamed, IsLinkFault, IsLinkAnswer}

-- ---- the first that passes a test

module _ {X : Type 0} (test : X → Bool) where
  abbrev Passes : List X → ℕ → Type 0
  Passes xs k = IsSomeAnd (slice_get xs k) (λ x. test x ≡ true)

  pub record IsFound (xs : List X) (n c : ℕ) : Type 0 where
    pub place : ℕ
    pub is : c ≡ n + place
    pub here : Passes xs place
    pub before : (j : ℕ) → j < place → Passes xs j → ⊥

  found_from : (xs : List X) (n c : ℕ) → position_from test n xs ≡ Some c → IsFound xs n c
  found_from [] n c at = absurd (cc)
  found_from (x ∷ xs) n c at = by_test (test x) refl at (found_from xs (n + 1) c)
    where
      by_test : (b : Bool) → test x ≡ b → (if b then Some n else position_from test (n + 1) xs) ≡ Some c → (position_from test (n + 1) xs ≡ Some c → IsFound xs (n + 1) c) → IsFound (x ∷ xs) n c
      by_test true is e rest = record { place = 0; is = (let s : n ≡ c = ap (λ (o : Option ℕ). number_or n o) e in omega arith); here = is; before = λ j below. absurd (omega arith) }
        where
          number_or : ℕ → Option ℕ → ℕ
          number_or d None = d
          number_or d (Some k) = k
      by_test false is e rest =
          let r = rest e in
          let found : c ≡ n + 1 + r.place = r.is in
          record { place = suc r.place; is = omega (arith, found); here = r.here; before = before_more r.place r.before }
        where
          before_more : (place : ℕ) → ((j : ℕ) → j < place → Passes xs j → ⊥) → (j : ℕ) → j < suc place → Passes (x ∷ xs) j → ⊥
          before_more place none zero below h = absurd (cc)
          before_more place none (suc j) below h = none j (omega arith) h

  none_from : (xs : List X) (n : ℕ) → position_from test n xs ≡ None → (k : ℕ) → Passes xs k → ⊥
  none_from [] n at k h = h
  none_from (x ∷ xs) n at k h = by_test (λ e j there. none_from xs (n + 1) e j there) (test x) refl at k h
    where
      by_test : (position_from test (n + 1) xs ≡ None → (j : ℕ) → Passes xs j → ⊥) → (b : Bool) → test x ≡ b → (if b then Some n else position_from test (n + 1) xs) ≡ None → (k : ℕ) → Passes (x ∷ xs) k → ⊥
      by_test rest true is e k there = absurd (cc)
      by_test rest false is e zero there = absurd (cc)
      by_test rest false is e (suc k) there = rest e k there

  pub first_at : (xs : List X) (c : ℕ) → Some c ≡ position test xs → IsFirst (λ k. IsSomeAnd (slice_get xs k) (λ x. test x ≡ true)) c
  first_at xs c at =
      let f = found_from xs 0 c (sym (at ∙ position_from-zero test xs)) in
      let same : f.place ≡ c = omega (arith, f.is) in
      record { here = subst (Passes xs) same f.here; before = λ j below. f.before j (subst (λ n. j < n) (sym same) below) }

  pub none_at : (xs : List X) → None ≡ position test xs → (k : ℕ) → IsSomeAnd (slice_get xs k) (λ x. test x ≡ true) → ⊥
  none_at xs at k = none_from xs 0 (sym (at ∙ position_from-zero test xs)) k

-- ---- kinds in their order

code_at : ℕ → LinkCode
code_at n =
    if n == 1 then TwiceDefined else if n == 2 then MissingClass else if n == 3 then CyclicSuper else if n == 4 then MissingMember
    else if n == 5 then NotImplemented else if n == 6 then InterfaceBody else if n == 7 then StaticInit else Memory

at_rank : (code : LinkCode) → code_at (rank code) ≡ code
unfolding code_at
at_rank TwiceDefined = refl
at_rank MissingClass = refl
at_rank CyclicSuper = refl
at_rank MissingMember = refl
at_rank NotImplemented = refl
at_rank InterfaceBody = refl
at_rank StaticInit = refl
at_rank Memory = refl

same_rank : (a b : LinkCode) → rank a ≡ rank b → a ≡ b
same_rank a b e = sym (at_rank a) ∙ ap code_at e ∙ at_rank b

least_rank : (code : LinkCode) → 0 < rank code
least_rank TwiceDefined = omega arith
least_rank MissingClass = omega arith
least_rank CyclicSuper = omega arith
least_rank MissingMember = omega arith
least_rank NotImplemented = omega arith
least_rank InterfaceBody = omega arith
least_rank StaticInit = omega arith
least_rank Memory = omega arith

-- any property of codes that holds of none before a code, and not of it, holds of none before the next
module _ (Has : LinkCode → ℕ → Type 0) where
  abbrev pub NoneBefore : ℕ → Type 0
  NoneBefore place = (code : LinkCode) → rank code < place → (c : ℕ) → Has code c → ⊥

  pub none_first : NoneBefore 1
  none_first code below c has = let least = least_rank code in absurd (omega arith)

  pub none_next : (code : LinkCode) (next : ℕ) → next ≡ rank code + 1 → NoneBefore (rank code) → ((c : ℕ) → Has code c → ⊥) → NoneBefore next
  none_next code next is before none other below c has = by_rank (cases_lt (rank other) (rank code))
    where
      by_rank : (rank other < rank code) ⊎ (rank code ≤ rank other) → ⊥
      by_rank (inl earlier) = before other earlier c has
      by_rank (inr later) = none c (subst (λ k. Has k c) (same_rank other code (omega arith)) has)

-- ---- one fault

one_code : (files : List ClassFile) (a b : LinkCode) (c d : ℕ) → IsFirstFault files a c → IsFirstFault files b d → a ≡ b
one_code files a b c d first other = by_rank (cases_lt (rank a) (rank b)) (cases_lt (rank b) (rank a))
  where
    by_rank : (rank a < rank b) ⊎ (rank b ≤ rank a) → (rank b < rank a) ⊎ (rank a ≤ rank b) → a ≡ b
    by_rank (inl earlier) q = absurd (other.none_before a earlier c first.first.here)
    by_rank (inr p) (inl earlier) = absurd (first.none_before b earlier d other.first.here)
    by_rank (inr p) (inr q) = same_rank a b (omega arith)

one_class : (P : ℕ → Type 0) (c d : ℕ) → IsFirst P c → IsFirst P d → c ≡ d
one_class P c d first other = by_place (cases_lt c d) (cases_lt d c)
  where
    by_place : (c < d) ⊎ (d ≤ c) → (d < c) ⊎ (c ≤ d) → c ≡ d
    by_place (inl earlier) q = absurd (other.before c earlier first.here)
    by_place (inr p) (inl earlier) = absurd (first.before d earlier other.here)
    by_place (inr p) (inr q) = omega arith

one_name : (found : Option (List ℕ)) (a b : List ℕ) → found ≡ Some a → found ≡ Some b → a ≡ b
one_name found a b e f = name_of (sym e ∙ f)
  where
    text_or : Option (List ℕ) → List ℕ
    text_or None = a
    text_or (Some text) = text

    name_of : Some a ≡ Some b → a ≡ b
    name_of same = ap text_or same

with_parts : (code other : LinkCode) (class class2 : ℕ) (name name2 : List ℕ) → code ≡ other → class ≡ class2 → name ≡ name2
    → ◌≡◌ {A = LinkFault} (record { code = code; class = class; name = name }) (record { code = other; class = class2; name = name2 })
with_parts code other class class2 name name2 e f g = rw (e, f, g) refl

pub one_fault : (files : List ClassFile) (a b : LinkFault) → IsLinkFault files a → IsLinkFault files b → a ≡ b
one_fault files a b first other =
    let code : a.code ≡ b.code = one_code (linked_classes files) a.code b.code a.class b.class first.told other.told in
    let again : IsFirst (HasFault (linked_classes files) a.code) b.class = subst (λ k. IsFirst (HasFault (linked_classes files) k) b.class) (sym code) other.told.first in
    let class : a.class ≡ b.class = one_class (HasFault (linked_classes files) a.code) a.class b.class first.told.first again in
    let there : slice_get (class_names (linked_classes files)) b.class ≡ Some a.name = subst (λ c. slice_get (class_names (linked_classes files)) c ≡ Some a.name) class first.name in
    with_parts a.code b.code a.class b.class a.name b.name code class (one_name (slice_get (class_names (linked_classes files)) b.class) a.name b.name there other.name)

pub no_fault : (files : List ClassFile) (fault : LinkFault) → HasNoFault (linked_classes files) → IsLinkFault files fault → ⊥
no_fault files fault none told = none fault.code fault.class told.told.first.here
