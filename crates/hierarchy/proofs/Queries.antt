-- What the orders that a hierarchy keeps find is what the definitions find.
use Rattle.std.proofs.Common.{◌≡◌, ◌∙◌, ◌↔◌, ℕ, suc, ◌<◌, ◌≤◌, Bool, true, false, cond, ◌||◌, List, [], ◌∷◌, ◌++◌, length, Option, Some, None, refl, sym, ap, arith, inl, inr}
use Rattle.std.specs.Prelude.{◌==◌, is_some, option_and_then}
use Rattle.std.specs.List.{Contains, flat_map, list_any}
use Rattle.std.specs.Option.{option_or}
use Rattle.std.proofs.lemmas.Bool.{cases_lt, ne_eqb, or_left, eq-eqb}
use Rattle.std.proofs.lemmas.Option.{slice_get_past}
use Rattle.std.proofs.lemmas.List.{get_or_past}
use Rattle.jo_prog.specs.declared.program.Program.{Program}
use Rattle.jo_prog.specs.declared.program.Class.{Class}
use Rattle.jo_prog.specs.Program.{class_at, first_with}
use Rattle.jo_prog.specs.Walks.{walk, first_found}
use Rattle.jo_prog.specs.Hierarchy.{superclass_in, interfaces_in, superclass_of, interfaces_of, parents_of, most_steps, first_field, unless_static, Subtype, supertypes, is_subtype, superclasses, superinterfaces, own_method, own_field, own_instance_method, method_order, resolve_method, resolve_field, search_from}
use Rattle.jo_prog.proofs.WalkLemmas.{any_contains, contains_any}
use Rattle.jo_prog.proofs.HierarchyLemmas.{subtype_along, subtype_every}
use Rattle.hierarchy.specs.declared.Hierarchy.{Hierarchy}
use Rattle.hierarchy.specs.Orders.{SameFirst, edges}
use Rattle.hierarchy.specs.Hierarchies.{KeepsOrder, IsHierarchyOf}

-- whether a number is in a list, by a look-up
abbrev just : ℕ → ℕ → Option ℕ
just b k = cond (k == b) (Some k) None

any_by_look : (xs : List ℕ) (b : ℕ) → list_any (λ k. k == b) xs ≡ is_some (first_found (just b) xs)
any_by_look [] b = refl
any_by_look (x ∷ xs) b = by_test (x == b) (list_any (λ k. k == b) xs) (first_found (just b) xs) (any_by_look xs b)
  where
    by_test : (t rest : Bool) (o : Option ℕ) → rest ≡ is_some o → (t || rest) ≡ is_some (option_or (cond t (Some x) None) o)
    by_test true rest o e = refl
    by_test false rest o e = e

same_any : (xs ys : List ℕ) (b : ℕ) → SameFirst xs ys → list_any (λ k. k == b) xs ≡ list_any (λ k. k == b) ys
same_any xs ys b same = any_by_look xs b ∙ ap is_some (same (just b)) ∙ sym (any_by_look ys b)

answers : (r : Bool) (xs : List ℕ) (b : ℕ) → (r ≡ true) ↔ Contains xs b → r ≡ list_any (λ k. k == b) xs
answers true xs b both = sym (contains_any xs b (both.0 refl))
answers false xs b both = is_false (list_any (λ k. k == b) xs) (λ t. both.1 (any_contains xs b t))
  where
    is_false : (t : Bool) → (t ≡ true → false ≡ true) → false ≡ t
    is_false true h = h refl
    is_false false h = refl

-- ---- a class that isn't there is above itself alone

module _ (program : Program) (c : ℕ) (missing : class_at program c ≡ None) where
  no_interfaces : interfaces_of program c ≡ []
  no_interfaces = ap (λ (o : Option Class). interfaces_in o) missing

  no_superclass : superclass_of program c ≡ []
  no_superclass = ap (λ (o : Option Class). superclass_in o) missing

  no_parents : parents_of program c ≡ []
  no_parents = ap (λ (o : Option Class). interfaces_in o ++ superclass_in o) missing

  alone : (next : ℕ → List ℕ) (steps : ℕ) → next c ≡ [] → walk (suc steps) next c ≡ c ∷ []
  alone next steps e = ap (λ xs. c ∷ flat_map (walk steps next) xs) e

  supertypes_alone : supertypes program c ≡ c ∷ []
  unfolding supertypes
  supertypes_alone = alone (parents_of program) (length program.classes) no_parents

  superclasses_alone : superclasses program c ≡ c ∷ []
  unfolding superclasses
  superclasses_alone = alone (superclass_of program) (length program.classes) no_superclass

  no_superinterfaces : superinterfaces program c ≡ []
  unfolding superinterfaces
  no_superinterfaces = ap (flat_map (walk (most_steps program) (interfaces_of program))) no_interfaces

  methods_alone : method_order program c ≡ c ∷ []
  methods_alone =
      ap (λ xs. xs ++ flat_map (superinterfaces program) xs) superclasses_alone
      ∙ ap (λ is. (c ∷ []) ++ (is ++ [])) no_superinterfaces

  nothing_alone : (look : ℕ → Option ℕ) (xs : List ℕ) → look c ≡ None → xs ≡ c ∷ [] → first_found look xs ≡ None
  nothing_alone look xs none e = ap (first_found look) e ∙ ap (λ o. option_or o None) none

  no_own_method : (name desc : List ℕ) → own_method program name desc c ≡ None
  no_own_method name desc = ap (λ (o : Option Class). option_and_then (λ (class : Class). first_with program name desc class.methods) o) missing

  no_own_field : (name desc : List ℕ) → own_field program name desc c ≡ None
  no_own_field name desc = ap (λ (o : Option Class). option_and_then (λ (class : Class). first_field program name desc class.fields) o) missing

  no_own_instance_method : (name desc : List ℕ) → own_instance_method program name desc c ≡ None
  no_own_instance_method name desc = ap (λ (o : Option ℕ). option_and_then (unless_static program) o) (no_own_method name desc)

  resolves_none : (name desc : List ℕ) → resolve_method program c name desc ≡ None
  resolves_none name desc = nothing_alone (own_method program name desc) (method_order program c) (no_own_method name desc) methods_alone

  resolves_no_field : (name desc : List ℕ) → resolve_field program c name desc ≡ None
  resolves_no_field name desc = nothing_alone (own_field program name desc) (supertypes program c) (no_own_field name desc) supertypes_alone

  searches_none : (name desc : List ℕ) → search_from program c name desc ≡ None
  searches_none name desc = nothing_alone (own_instance_method program name desc) (superclasses program c) (no_own_instance_method name desc) superclasses_alone

  is_itself : (b : ℕ) → (c == b) ≡ is_subtype program c b
  is_itself b = sym (ap (list_any (λ k. k == b)) supertypes_alone ∙ or_nothing (c == b))
    where
      or_nothing : (t : Bool) → (t || false) ≡ t
      or_nothing true = refl
      or_nothing false = refl

module _ (program : Program) (hierarchy : Hierarchy) (is : IsHierarchyOf program hierarchy) (c : ℕ) where
  nothing_past : (orders : List (List ℕ)) (order : ℕ → List ℕ) → KeepsOrder program orders order → length program.classes ≤ c → edges orders c ≡ []
  nothing_past orders order kept past = get_or_past orders c [] (omega (arith, past, kept.same_length))

  finds_same : (orders : List (List ℕ)) (order : ℕ → List ℕ) (look : ℕ → Option ℕ) → KeepsOrder program orders order
      → (class_at program c ≡ None → first_found look (order c) ≡ None) → first_found look (edges orders c) ≡ first_found look (order c)
  finds_same orders order look kept missing = elim (cases_lt c (length program.classes)) [
    | inl below ↦ kept.each c below look
    | inr past ↦ ap (first_found look) (nothing_past orders order kept past) ∙ sym (missing (slice_get_past program.classes c past))
  ]

  pub method_here : (name desc : List ℕ) → first_found (own_method program name desc) (edges hierarchy.methods.items c) ≡ resolve_method program c name desc
  method_here name desc = finds_same hierarchy.methods.items (method_order program) (own_method program name desc) is.methods_kept (λ missing. resolves_none program c missing name desc)

  pub field_here : (name desc : List ℕ) → first_found (own_field program name desc) (edges hierarchy.supertypes.items c) ≡ resolve_field program c name desc
  field_here name desc = finds_same hierarchy.supertypes.items (supertypes program) (own_field program name desc) is.supertypes_kept (λ missing. resolves_no_field program c missing name desc)

  pub search_here : (name desc : List ℕ) → first_found (own_instance_method program name desc) (edges hierarchy.superclasses.items c) ≡ search_from program c name desc
  search_here name desc = finds_same hierarchy.superclasses.items (superclasses program) (own_instance_method program name desc) is.superclasses_kept (λ missing. searches_none program c missing name desc)

  pub subtype_here : (b : ℕ) (r : Bool) → (c ≡ b → ⊥) → (r ≡ true) ↔ Contains (edges hierarchy.supertypes.items c) b → r ≡ is_subtype program c b
  subtype_here b r apart both = answers r (edges hierarchy.supertypes.items c) b both ∙ elim (cases_lt c (length program.classes)) [
    | inl below ↦ same_any (edges hierarchy.supertypes.items c) (supertypes program c) b (is.supertypes_kept.each c below)
    | inr past ↦
        ap (list_any (λ k. k == b)) (nothing_past hierarchy.supertypes.items (supertypes program) is.supertypes_kept past)
        ∙ sym (ne_eqb c b apart) ∙ is_itself program c (slice_get_past program.classes c past) b
  ]

-- the order that is kept has exactly the class and those above it
pub above_here : (program : Program) (hierarchy : Hierarchy) → IsHierarchyOf program hierarchy → (c : ℕ) → c < length program.classes → (b : ℕ)
    → Contains (edges hierarchy.supertypes.items c) b ↔ Subtype program c b
above_here program hierarchy is c there b =
    let same = same_any (edges hierarchy.supertypes.items c) (supertypes program c) b (is.supertypes_kept.each c there) in (
      λ among. subtype_along program c b (sym same ∙ contains_any (edges hierarchy.supertypes.items c) b among),
      λ above. any_contains (edges hierarchy.supertypes.items c) b (same ∙ subtype_every program is.no_cycle c b above),
    )

pub subtype_itself : (program : Program) (c b : ℕ) → c ≡ b → true ≡ is_subtype program c b
unfolding supertypes
subtype_itself program c b same =
    sym (or_left (c == b) (list_any (λ k. k == b) (flat_map (walk (length program.classes) (parents_of program)) (parents_of program c))) (eq-eqb c b same))
