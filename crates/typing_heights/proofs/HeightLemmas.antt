-- The heights of a method are those of its code.
use Rattle.std.proofs.Common.{◌≡◌, ℕ, List, [], Option, Some, None, sym, ◌∙◌, ap, subst}
use Rattle.std.specs.Prelude.{◌↔◌}
use Rattle.jo_prog.specs.declared.program.Program.{Program}
use Rattle.jo_prog.specs.declared.program.Method.{Method}
use Rattle.jo_prog.specs.Program.{method_at}
use Rattle.jo_prog.specs.TypingPaths.{Typable, Step, IsTypable, TypingPath, IsFirst, HasHeightAt, arrives_at}
use Rattle.typing_heights.specs.FirstPaths.{HasFirstPaths}
use Rattle.typing_heights.specs.Searches.{height_at, AreHeights}

pub some_same : {A : Type 0} (a b : A) → Some a ≡ Some b → a ≡ b
some_same a b e = ap (λ (o : Option _). elim o [ Some x ↦ x | None ↦ a ]) e

pub one_typable : (program : Program) (m : ℕ) (s t : Typable) → IsTypable program m s → IsTypable program m t → s ≡ t
one_typable program m s t hs ht =
    let numbers : s.number ≡ t.number = hs.0 ∙ sym ht.0 in
    let methods : s.method ≡ t.method = some_same s.method t.method (sym hs.1 ∙ ht.1) in
    let codes : s.code ≡ t.code = some_same s.code t.code (sym hs.2 ∙ ap (λ (x : Method). x.code) methods ∙ ht.2) in
    let step1 : ◌≡◌ {A = Typable} s (record { number = t.number; method = s.method; code = s.code }) = ap (λ n. record { number = n; method = s.method; code = s.code }) numbers in
    let step2 : ◌≡◌ {A = Typable} (record { number = t.number; method = s.method; code = s.code }) (record { number = t.number; method = t.method; code = s.code }) =
    ap (λ x. record { number = t.number; method = x; code = s.code }) methods in
    let step3 : ◌≡◌ {A = Typable} (record { number = t.number; method = t.method; code = s.code }) t = ap (λ x. record { number = t.number; method = t.method; code = x }) codes in
    step1 ∙ step2 ∙ step3

pub heights_exact : (program : Program) (m : ℕ) (t : Typable) (heights : List (Option ℕ)) → IsTypable program m t → AreHeights program t heights
    → (pc h : ℕ) → (height_at heights pc ≡ Some h) ↔ HasHeightAt program m pc h
heights_exact program m t heights is are pc h = (there, back)
  where
    there : height_at heights pc ≡ Some h → HasHeightAt program m pc h
    there e = let f = are.is_first pc h e in record { typable = t; is_typable = is; path = f.0; is_first = f.1; same_height = f.2 }

    back_at : (s : Typable) → s ≡ t → AreHeights program s heights
    back_at s e = subst (λ (r : Typable). AreHeights program r heights) (sym e) are

    back : HasHeightAt program m pc h → height_at heights pc ≡ Some h
    back has =
        (back_at has.typable (one_typable program m has.typable t has.is_typable is)).has_first pc has.path has.is_first ∙ ap (λ n. Some n) has.same_height

pub no_method : (program : Program) (m : ℕ) → method_at program m ≡ None → (pc h : ℕ) → (height_at [] pc ≡ Some h) ↔ HasHeightAt program m pc h
no_method program m none pc h = (λ e. absurd (cc), λ has. absurd (let f = has.is_typable.1 in cc))

pub no_code : (program : Program) (m : ℕ) (method : Method) → method_at program m ≡ Some method → method.code ≡ None → (pc h : ℕ) → (height_at [] pc ≡ Some h) ↔ HasHeightAt program m pc h
no_code program m method found none pc h = (λ e. absurd (cc), λ has. absurd (never has))
  where
    never : HasHeightAt program m pc h → ⊥
    never has =
        let same : has.typable.method ≡ method = some_same has.typable.method method (sym has.is_typable.1 ∙ found) in
        let coded : method.code ≡ Some has.typable.code = ap (λ (x : Method). x.code) (sym same) ∙ has.is_typable.2 in
        absurd (cc)

-- ---- first paths

first_from : (program : Program) (t : Typable) (heights : List (Option ℕ)) → AreHeights program t heights → (path : List Step) → TypingPath program t path
    → (first : List Step) × IsFirst (TypingPath program t) (arrives_at path) first
first_from program t heights are path is =
    let known = are.reached path is in
    let found = are.is_first (arrives_at path) known.0 known.1 in
    (found.0, found.1)

pub first_paths : (program : Program) (m : ℕ) (t : Typable) (heights : List (Option ℕ)) → IsTypable program m t → AreHeights program t heights → HasFirstPaths program m
first_paths program m t heights is are = λ s of_s path is_path.
    subst (λ (x : Typable). (p : List Step) → TypingPath program x p → (first : List Step) × IsFirst (TypingPath program x) (arrives_at p) first)
    (one_typable program m t s is of_s) (first_from program t heights are) path is_path

pub no_first_paths : (program : Program) (m : ℕ) (method : Method) → method_at program m ≡ Some method → method.code ≡ None → HasFirstPaths program m
no_first_paths program m method found none = λ s of_s path is_path. absurd (codeless s of_s)
  where
    codeless : (s : Typable) → IsTypable program m s → ⊥
    codeless s of_s =
        let methods : s.method ≡ method = some_same s.method method (sym of_s.1 ∙ found) in
        let e : Some s.code ≡ None = sym of_s.2 ∙ ap (λ (x : Method). x.code) methods ∙ none in
        absurd (cc)
