-- Superclasses and interfaces that are classes of the program.
use Rattle.std.proofs.Common.{◌≡◌, ◌∙◌, ◌↔◌, ℕ, zero, suc, ◌+◌, ◌<◌, ◌≤◌, List, [], ◌∷◌, ◌++◌, length, take, drop, get_or, Option, Some, None, refl, sym, subst, inl, inr}
use Rattle.std.specs.Prelude.{slice_get}
use Rattle.std.specs.List.{Contains, AllByRecursion}
use Rattle.std.specs.Option.{option_to_list}
use Rattle.std.proofs.lemmas.List.{take_more, drop_all}
use Rattle.std.proofs.lemmas.List.Elements.{Contains-push_cases, Contains-append_cases, Contains-append_left, Contains-append_right}
use Rattle.std.proofs.lemmas.Option.{none-some, same_Some}
use Rattle.jo_prog.specs.declared.program.Program.{Program}
use Rattle.jo_prog.specs.declared.program.Class.{Class}
use Rattle.jo_prog.specs.Program.{class_at}
use Rattle.jo_prog.specs.Hierarchy.{interfaces_in, superclass_in}
use Rattle.jo_prog.proofs.WalkLemmas.{here, head_or_behind, none_there, at_recursion}
use Rattle.hierarchy.specs.Hierarchies.{HasItsParents, IsInside}
use Rattle.hierarchy.proofs.OrderLemmas.{drop_here}

-- ---- in loops

pub one_below : (classes : List ℕ) (i count x : ℕ) → i < length classes → x ≡ get_or classes i x → x < count → ((c : ℕ) → Contains (take i classes) c → c < count)
    → (c : ℕ) → Contains (take (i + 1) classes) c → c < count
one_below classes i count x inside is below before c among =
    elim (Contains-push_cases (take i classes) (get_or classes i x) c (subst (λ (ys : List ℕ). Contains ys c) (take_more classes i x inside) among)) [
      | inl first ↦ before c first
      | inr last ↦ subst (λ n. n < count) (is ∙ last) below
    ]

-- ---- a class

pub inside_by_parts : (count : ℕ) (class : Class) → ((p : ℕ) → Contains class.interfaces p → p < count) → ((s : ℕ) → class.superclass ≡ Some s → s < count) → IsInside count class
inside_by_parts count class interfaces superclass p among = elim (Contains-append_cases class.interfaces (option_to_list class.superclass) p among) [
  | inl first ↦ interfaces p first
  | inr last ↦ by_superclass class.superclass refl last
]
  where
    by_superclass : (o : Option ℕ) → class.superclass ≡ o → Contains (option_to_list o) p → p < count
    by_superclass None is c = absurd (none_there p c)
    by_superclass (Some s) is c = elim (head_or_behind s [] p c) [
      | inl e ↦ subst (λ n. n < count) e (superclass s is)
      | inr none ↦ absurd (none_there p none)
    ]

pub interfaces_inside : (count : ℕ) (class : Class) → IsInside count class → (p : ℕ) → Contains class.interfaces p → p < count
interfaces_inside count class inside p among = inside p (Contains-append_left class.interfaces (option_to_list class.superclass) p among)

pub superclass_inside : (count : ℕ) (class : Class) (s : ℕ) → class.superclass ≡ Some s → IsInside count class → s < count
superclass_inside count class s is inside =
    inside s (Contains-append_right class.interfaces (option_to_list class.superclass) s (subst (λ o. Contains (option_to_list o) s) (sym is) (here s [])))

-- ---- all classes

all_at : (P : Class → Type 0) (xs : List Class) (k : ℕ) (x : Class) → AllByRecursion P xs → slice_get xs k ≡ Some x → P x
all_at P [] k x all e = absurd (none-some x e)
all_at P (y ∷ ys) zero x all e = subst P (same_Some y x e) all.0
all_at P (y ∷ ys) (suc k) x all e = all_at P ys k x all.1 e

all_from_each : (P : Class → Type 0) (xs : List Class) → ((k : ℕ) (x : Class) → slice_get xs k ≡ Some x → P x) → AllByRecursion P xs
all_from_each P [] each = tt
all_from_each P (x ∷ xs) each = (each 0 x refl, all_from_each P xs (λ k y e. each (suc k) y e))

pub all_inside : (program : Program) → AllByRecursion (IsInside (length program.classes)) program.classes → HasItsParents program
all_inside program all c p edge = by_class (class_at program c) refl edge
  where
    by_class : (o : Option Class) → class_at program c ≡ o → Contains (interfaces_in o ++ superclass_in o) p → p < length program.classes
    by_class None is lead = absurd (none_there p lead)
    by_class (Some class) is lead = all_at (IsInside (length program.classes)) program.classes c class all is p lead

pub each_inside : (program : Program) → HasItsParents program → AllByRecursion (IsInside (length program.classes)) program.classes
each_inside program there = all_from_each (IsInside (length program.classes)) program.classes each
  where
    each : (k : ℕ) (class : Class) → slice_get program.classes k ≡ Some class → IsInside (length program.classes) class
    each k class is p among = there k p (subst (λ o. Contains (interfaces_in o ++ superclass_in o) p) (sym is) among)

-- ---- a loop over the classes

pub inside_at : (program : Program) (xs : List Class) (i : ℕ) (x : Class) → xs ≡ program.classes → i < length xs → x ≡ get_or xs i x → HasItsParents program → IsInside (length xs) x
inside_at program xs i x e below is there =
    at_recursion (IsInside (length xs)) xs x (subst (λ (ys : List Class). AllByRecursion (IsInside (length ys)) ys) (sym e) (each_inside program there)) (i, below, sym is)

pub all_step : (P : Class → Type 0) (xs : List Class) (i : ℕ) (x : Class) → i < length xs → x ≡ get_or xs i x → P x
    → AllByRecursion P (drop i xs) ↔ AllByRecursion P xs → AllByRecursion P (drop (i + 1) xs) ↔ AllByRecursion P xs
all_step P xs i x below is here_is both = (λ rest. both.0 (subst (AllByRecursion P) (sym here_at) (here_is, rest)), λ all. (subst (AllByRecursion P) here_at (both.1 all)).1)
  where
    here_at : drop i xs ≡ x ∷ drop (i + 1) xs
    here_at = drop_here xs i x below is

pub all_done : (program : Program) (xs : List Class) (i : ℕ) → xs ≡ program.classes → length xs ≤ i
    → AllByRecursion (IsInside (length xs)) (drop i xs) ↔ AllByRecursion (IsInside (length xs)) xs → HasItsParents program
all_done program xs i e past both =
    all_inside program (subst (λ (ys : List Class). AllByRecursion (IsInside (length ys)) ys) e (both.0 (subst (AllByRecursion (IsInside (length xs))) (sym (drop_all i xs past)) tt)))
