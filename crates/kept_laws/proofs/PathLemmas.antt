-- A typing path of a typed method goes on with each step that the code may take.
use Rattle.std.proofs.Common.{◌≡◌, ℕ, suc, zero, ◌<◌, ◌≤◌, false, ◌||◌, List, length, Option, refl, sym, ap, subst, inl, inr, arith}
use Rattle.std.proofs.lemmas.Bool.{cases_eq, false_from_ne_true, or_from}
use Rattle.jo_prog.specs.declared.program.Program.{Program}
use Rattle.jo_prog.specs.declared.typed.TypeCode.{TypeCode}
use Rattle.jo_prog.specs.declared.typed.TypeCode.TheVariants.{Underflow, Overflow, HeightDiffers, FallsOff}
use Rattle.jo_prog.specs.TypingPaths.{Typable, Step, arrives_at, height_of, underflows, overflows, falls_off, ends_at, shorter, IsFirst, IsTypable, TypingPath, PathWithin, GoesOn, TakesStep, MeetsAtEnd, IsTypedMethod}
use Rattle.kept_laws.specs.Paths.{prolonged_by}
use Rattle.typing_heights.specs.FirstPaths.{HasFirstPaths}

-- ---- paths of at most so many steps

module _ (program : Program) (t : Typable) where
  within_own : (n : ℕ) (path : List Step) → PathWithin program t n path → TypingPath program t path
  within_own zero path e = subst (λ (p : List Step). TypingPath program t p) (sym e) refl
  within_own (suc n) path (inl h) = within_own n path h
  within_own (suc n) path (inr h) = subst (λ (k : ℕ). PathWithin program t k path) (sym h.0) (inr h)

  within_length : (n : ℕ) (path : List Step) → PathWithin program t n path → length path ≤ n
  within_length zero path e = let f : length path ≡ 0 = ap length e in omega (arith, f)
  within_length (suc n) path (inl h) = let below = within_length n path h in omega (arith, below)
  within_length (suc n) path (inr h) = omega (arith, h.0)

  within_up : (n k : ℕ) (path : List Step) → n ≤ k → PathWithin program t n path → PathWithin program t k path
  within_up n zero path below h =
      let same : n ≡ 0 = omega (arith, below) in
      subst (λ (j : ℕ). PathWithin program t j path) same h
  within_up n (suc k) path below h = elim (cases_eq n (suc k)) [
    | inl same ↦ subst (λ (j : ℕ). PathWithin program t j path) same h
    | inr other ↦ inl (within_up n k path (omega (arith, below, other)) h)
  ]

  -- the first path at the end of a path is no longer than this
  first_within : (path first : List Step) → TypingPath program t path → IsFirst (TypingPath program t) (arrives_at path) first
      → IsFirst (PathWithin program t (length path)) (arrives_at path) first
  first_within path first is is_first =
      let not_longer : length path < length first → ⊥ = λ less. is_first.first path is refl (shorter less) in
      let below : length first ≤ length path = omega (arith, not_longer) in
      record {
        is_path = within_up (length first) (length path) first below is_first.is_path;
        arrives = is_first.arrives;
        first = λ other within arrives. is_first.first other (within_own (length path) other within) arrives;
      }

-- ---- a typed method has no fault at the end of a path

module _ (program : Program) (m : ℕ) (typed : IsTypedMethod program m) (firsts : HasFirstPaths program m) (t : Typable) (is : IsTypable program m t)
    (path : List Step) (is_path : TypingPath program t path) where
  no_fault : (code : TypeCode) → MeetsAtEnd program t path code → ⊥
  no_fault code meets = typed (arrives_at path) code (record { typable = t; is_typable = is; path = path; is_path = is_path; arrives = refl; meets = meets })

  is_steady : ends_at program t (arrives_at path) (height_of program t path) ≡ false
  is_steady =
      let pc = arrives_at path in
      let height = height_of program t path in
      or_from (underflows program t pc height || overflows program t pc height) (falls_off t.code pc)
      (or_from (underflows program t pc height) (overflows program t pc height) (false_from_ne_true _ (λ h. no_fault Underflow h)) (false_from_ne_true _ (λ h. no_fault Overflow h)))
      (false_from_ne_true _ (λ h. no_fault FallsOff h))

  same_height : (first : List Step) → IsFirst (TypingPath program t) (arrives_at path) first → height_of program t first ≡ height_of program t path
  same_height first is_first = elim (cases_eq (height_of program t first) (height_of program t path)) [
    | inl same ↦ same
    | inr other ↦ absurd (no_fault HeightDiffers (record { first = first; is_first = is_first; other_height = other }))
  ]

  goes_on : GoesOn program t (PathWithin program t (length path)) path
  goes_on =
      let found = firsts t is path is_path in
      record { steady = is_steady; first = found.0; is_first = first_within program t path found.0 is_path found.1; same_height = same_height found.0 found.1 }

  pub prolonged : (row : Option ℕ) (to : ℕ) → TakesStep t.code (arrives_at path) row to → TypingPath program t (prolonged_by row to path)
  prolonged row to takes = inr (refl, record { is_path = is_path; goes_on = goes_on; takes = takes })
