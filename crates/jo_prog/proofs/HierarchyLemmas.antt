-- Subtypes, and the orders in which members are looked for.
use Rattle.std.proofs.Common.{◌≡◌, ◌∙◌, ℕ, ◌<◌, true, List, ◌∷◌, ◌++◌, length, Option, Some, None, refl, ap}
use Rattle.std.specs.List.{Contains, flat_map}
use Rattle.std.specs.Option.{option_or}
use Rattle.std.proofs.lemmas.Option.{slice_get_within}
use Rattle.std.proofs.lemmas.List.Elements.{Contains-append_left, Contains-append_right}
use Rattle.jo_ids.proofs.PathLemmas.{path_in}
use Rattle.jo_prog.specs.declared.program.Program.{Program}
use Rattle.jo_prog.specs.declared.program.Class.{Class}
use Rattle.jo_prog.specs.Program.{class_at}
use Rattle.jo_prog.specs.Walks.{Leads, IsAcyclic, walk, first_found}
use Rattle.jo_prog.specs.Hierarchy.{superclass_in, interfaces_in, superclass_of, interfaces_of, parents_of, Subtype, HasNoCycle, most_steps, supertypes, is_subtype, superclasses, superinterfaces, own_field, resolve_field}
use Rattle.jo_prog.proofs.WalkLemmas.{none_there, any_contains, contains_any, walk_reaches, walk_unfolds, walk_has_reached, flat_map_same, found_in_each}

-- ---- edges lead from classes of the program

module _ (program : Program) where
  pub parents_inside : (c p : ℕ) → Leads (parents_of program) c p → c < length program.classes
  parents_inside c p among = by_class (class_at program c) refl among
    where
      by_class : (o : Option Class) → class_at program c ≡ o → Contains (interfaces_in o ++ superclass_in o) p → c < length program.classes
      by_class None is lead = absurd (none_there p lead)
      by_class (Some class) is lead = slice_get_within program.classes c class is

  pub from_interfaces : (c p : ℕ) → Leads (interfaces_of program) c p → Leads (parents_of program) c p
  from_interfaces c p among = Contains-append_left (interfaces_of program c) (superclass_of program c) p among

  pub from_superclass : (c p : ℕ) → Leads (superclass_of program) c p → Leads (parents_of program) c p
  from_superclass c p among = Contains-append_right (interfaces_of program c) (superclass_of program c) p among

  module _ (none : HasNoCycle program) where
    pub no_interface_cycle : IsAcyclic (interfaces_of program)
    no_interface_cycle a b edge p = none a b (from_interfaces a b edge) (path_in (λ c. c) from_interfaces p)

    pub no_superclass_cycle : IsAcyclic (superclass_of program)
    no_superclass_cycle a b edge p = none a b (from_superclass a b edge) (path_in (λ c. c) from_superclass p)

    -- ---- the orders by their rules

    pub supertypes_unfold : (c : ℕ) → supertypes program c ≡ c ∷ flat_map (supertypes program) (parents_of program c)
    unfolding supertypes
    supertypes_unfold c = walk_unfolds (parents_of program) none (length program.classes) parents_inside c

    pub superclasses_unfold : (c : ℕ) → superclasses program c ≡ c ∷ flat_map (superclasses program) (superclass_of program c)
    unfolding superclasses
    superclasses_unfold c =
        walk_unfolds (superclass_of program) no_superclass_cycle (length program.classes) (λ a b edge. parents_inside a b (from_superclass a b edge)) c

    interfaces_unfold : (c : ℕ) → walk (most_steps program) (interfaces_of program) c ≡ c ∷ flat_map (walk (most_steps program) (interfaces_of program)) (interfaces_of program c)
    interfaces_unfold c =
        walk_unfolds (interfaces_of program) no_interface_cycle (length program.classes) (λ a b edge. parents_inside a b (from_interfaces a b edge)) c

    pub superinterfaces_unfold : (c : ℕ) → superinterfaces program c ≡ flat_map (λ i. i ∷ superinterfaces program i) (interfaces_of program c)
    unfolding superinterfaces
    superinterfaces_unfold c =
        flat_map_same (walk (most_steps program) (interfaces_of program)) (λ i. i ∷ superinterfaces program i) (interfaces_of program c) (λ i _. interfaces_unfold i)

    pub field_by_rule : (c : ℕ) (name desc : List ℕ)
        → resolve_field program c name desc ≡ option_or (own_field program name desc c) (first_found (λ k. resolve_field program k name desc) (parents_of program c))
    field_by_rule c name desc =
        ap (first_found (own_field program name desc)) (supertypes_unfold c)
        ∙ ap (option_or (own_field program name desc c)) (found_in_each (own_field program name desc) (supertypes program) (parents_of program c))

    -- ---- subtypes

    pub subtype_every : (a b : ℕ) → Subtype program a b → is_subtype program a b ≡ true
    unfolding supertypes
    subtype_every a b p = contains_any (supertypes program a) b (walk_has_reached (parents_of program) none (length program.classes) parents_inside a b p)

  pub subtype_along : (a b : ℕ) → is_subtype program a b ≡ true → Subtype program a b
  unfolding supertypes
  subtype_along a b h = walk_reaches (parents_of program) (most_steps program) a b (any_contains (supertypes program a) b h)
