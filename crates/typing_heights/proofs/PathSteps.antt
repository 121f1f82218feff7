-- Typing paths, step by step.
use Rattle.std.proofs.Common.{◌≡◌, ℕ, zero, suc, ◌+◌, ◌-◌, ◌≤◌, Bool, true, false, ltb, List, [], ◌∷◌, length, map, drop, refl, sym, ◌∙◌, ap, subst, inl, inr, arith, length-append, length-drop}
use Rattle.std.proofs.lemmas.List.{length-map}
use Rattle.std.proofs.lemmas.Bool.{ltb-true, ltb-false}
use Rattle.jo_prog.specs.declared.program.Program.{Program}
use Rattle.jo_prog.specs.Typing.{Shape}
use Rattle.jo_prog.specs.Shapes.{Effect, after, kind_from}
use Rattle.jo_prog.specs.TypingPaths.{Typable, Step, arrives_at, height_after, IsBefore, shorter, by_pcs, by_rows, IsFirst, Prolongs, PathWithin, TypingPath}
use Rattle.typing_heights.proofs.PathOrder.{same_length}

pub heights_after : (program : Program) (effect : Effect) (s : Shape) → length (after program effect s).stack ≡ height_after effect (length s.stack)
heights_after program effect s =
    length-append (map (kind_from program s) effect.pushes) (drop (length effect.pops) s.stack)
    ∙ ap (λ n. n + length (drop (length effect.pops) s.stack)) (length-map effect.pushes (kind_from program s))
    ∙ ap (λ n. length effect.pushes + n) (length-drop (length effect.pops) s.stack)

is_typing : (program : Program) (t : Typable) (n : ℕ) (p : List Step) → PathWithin program t n p → TypingPath program t p
is_typing program t zero p h = subst (λ (q : List Step). TypingPath program t q) (sym h) refl
is_typing program t (suc n) p (inl h) = is_typing program t n p h
is_typing program t (suc n) p (inr h) = subst (λ (k : ℕ). PathWithin program t k p) (sym h.0) (inr h)

within : (program : Program) (t : Typable) (k n : ℕ) (p : List Step) → PathWithin program t k p → PathWithin program t (k + n) p
within program t k zero p h = let e : k + 0 ≡ k = omega arith in rw e h
within program t k (suc n) p h = let e : k + suc n ≡ suc (k + n) = omega arith in rw e (inl (within program t k n p h))

-- a typing path is within each bound that its length is
within_bound : (program : Program) (t : Typable) (n : ℕ) (p : List Step) → TypingPath program t p → length p ≤ n → PathWithin program t n p
within_bound program t n p h below =
    let e : length p + (n - length p) ≡ n = omega arith in subst (λ (k : ℕ). PathWithin program t k p) e (within program t (length p) (n - length p) p h)

-- what is before a path is no longer
no_longer : (p q : List Step) → IsBefore p q → length p ≤ length q
no_longer p q (shorter h) = omega arith
no_longer p q (by_pcs e h) = omega arith
no_longer p q (by_rows e h) = let f = same_length p q e in omega arith

-- which path is first is known among those that are no longer
first_within : (program : Program) (t : Typable) (n : ℕ) (pc : ℕ) (p : List Step) → IsFirst (PathWithin program t n) pc p → length p ≤ n → IsFirst (TypingPath program t) pc p
first_within program t n pc p is below = record {
  is_path = is_typing program t n p is.is_path;
  arrives = is.arrives;
  first = λ other path to before. is.first other (within_bound program t n other path (let h = no_longer other p before in omega arith)) to before;
}

bounded : (program : Program) (t : Typable) (n : ℕ) (p : List Step) → PathWithin program t n p → length p ≤ n
bounded program t zero p h = subst (λ (q : List Step). length q ≤ 0) (sym h) (omega arith)
bounded program t (suc n) p (inl h) = let k = bounded program t n p h in omega arith
bounded program t (suc n) p (inr h) = let e = h.0 in omega arith

no_longer_first : (program : Program) (t : Typable) (p f : List Step) → TypingPath program t p → IsFirst (TypingPath program t) (arrives_at p) f → length f ≤ length p
no_longer_first program t p f path is = by_test (ltb (length p) (length f)) refl
  where
    by_test : (b : Bool) → ltb (length p) (length f) ≡ b → length f ≤ length p
    by_test true e = absurd (is.first p path refl (shorter (ltb-true (length p) (length f) e)))
    by_test false e = ltb-false (length p) (length f) e

first_among : (program : Program) (t : Typable) (p f : List Step) → TypingPath program t p → IsFirst (TypingPath program t) (arrives_at p) f → IsFirst (PathWithin program t (length p)) (arrives_at p) f
first_among program t p f path is = record {
  is_path = within_bound program t (length p) f is.is_path (no_longer_first program t p f path is);
  arrives = is.arrives;
  first = λ other h to before. is.first other (is_typing program t (length p) other h) to before;
}

pub begins : (program : Program) (t : Typable) → TypingPath program t []
begins program t = refl

pub onward : (program : Program) (t : Typable) (step : Step) (path : List Step) → Prolongs program t (TypingPath program t) step path → TypingPath program t (step ∷ path)
onward program t step path h = inr (
  refl,
  record {
    is_path = h.is_path;
    goes_on = record {
      steady = h.goes_on.steady;
      first = h.goes_on.first;
      is_first = first_among program t path h.goes_on.first h.is_path h.goes_on.is_first;
      same_height = h.goes_on.same_height;
    };
    takes = h.takes;
  },
)

back_from : (program : Program) (t : Typable) (step : Step) (path : List Step) → Prolongs program t (PathWithin program t (length path)) step path → Prolongs program t (TypingPath program t) step path
back_from program t step path h = record {
  is_path = h.is_path;
  goes_on = record {
    steady = h.goes_on.steady;
    first = h.goes_on.first;
    is_first = first_within program t (length path) (arrives_at path) h.goes_on.first h.goes_on.is_first (bounded program t (length path) h.goes_on.first h.goes_on.is_first.is_path);
    same_height = h.goes_on.same_height;
  };
  takes = h.takes;
}

pub back : (program : Program) (t : Typable) (step : Step) (path : List Step) → TypingPath program t (step ∷ path) → Prolongs program t (TypingPath program t) step path
back program t step path (inl h) = let k = bounded program t (length path) (step ∷ path) h in absurd (omega arith)
back program t step path (inr h) = back_from program t step path h.1
