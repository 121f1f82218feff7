-- The graphs of a program's superclasses and interfaces, as lists.
use Rattle.std.proofs.Common.{◌≡◌, ◌∙◌, ℕ, zero, suc, ◌<◌, List, [], ◌∷◌, ◌++◌, length, map, Option, Some, None, refl, sym, ap, subst, arith}
use Rattle.std.specs.Prelude.{slice_get}
use Rattle.std.specs.List.{Contains, flat_map}
use Rattle.std.proofs.lemmas.List.{length-map}
use Rattle.std.proofs.lemmas.List.Elements.{AllZip-get_or, length_all_zip}
use Rattle.jo_ids.proofs.PathLemmas.{path_in}
use Rattle.jo_prog.specs.declared.program.Program.{Program}
use Rattle.jo_prog.specs.declared.program.Class.{Class}
use Rattle.jo_prog.specs.Program.{class_at}
use Rattle.jo_prog.specs.Walks.{Leads, IsAcyclic, walk, first_found}
use Rattle.jo_prog.specs.Hierarchy.{superclass_of, interfaces_of, parents_of, superclass_in, interfaces_in, IsAboveItself, HasNoCycle, most_steps, supertypes, superclasses, superinterfaces, method_order}
use Rattle.jo_prog.proofs.WalkLemmas.{walk_same}
use Rattle.jo_prog.proofs.HierarchyLemmas.{from_interfaces, from_superclass, no_interface_cycle, no_superclass_cycle}
use Rattle.hierarchy.specs.Orders.{SameFirst, edges, LeadsInside, AreWalks}
use Rattle.hierarchy.specs.declared.HierarchyFault.TheVariants.{Cyclic}
use Rattle.hierarchy.specs.Cycles.{IsOnCycle, IsFirstOnCycle}
use Rattle.hierarchy.specs.Hierarchies.{HasItsParents, KeepsOrder, IsFaultOf, superclass_list, interface_list, parent_list, methods_by, AreMethodsBy}
use Rattle.hierarchy.proofs.OrderLemmas.{same_then, same_in_two, same_flat_map, same_each}

-- ---- a list for each class

module _ (f : Class → List ℕ) where
  abbrev pub by_class : Option Class → List ℕ
  by_class None = []
  by_class (Some class) = f class

  edges-map : (classes : List Class) (c : ℕ) → edges (map f classes) c ≡ by_class (slice_get classes c)
  edges-map [] c = refl
  edges-map (class ∷ classes) zero = refl
  edges-map (class ∷ classes) (suc c) = edges-map classes c

  pub edges_by_class : (graph : List (List ℕ)) (classes : List Class) (c : ℕ) → graph ≡ map f classes → edges graph c ≡ by_class (slice_get classes c)
  edges_by_class graph classes c e = ap (λ (g : List (List ℕ)). edges g c) e ∙ edges-map classes c

module _ (program : Program) where
  pub same_superclasses : (graph : List (List ℕ)) → graph ≡ map superclass_list program.classes → (c : ℕ) → edges graph c ≡ superclass_of program c
  same_superclasses graph e c = edges_by_class superclass_list graph program.classes c e ∙ by_cases (class_at program c)
    where
      by_cases : (o : Option Class) → by_class superclass_list o ≡ superclass_in o
      by_cases None = refl
      by_cases (Some class) = refl

  pub same_interfaces : (graph : List (List ℕ)) → graph ≡ map interface_list program.classes → (c : ℕ) → edges graph c ≡ interfaces_of program c
  same_interfaces graph e c = edges_by_class interface_list graph program.classes c e ∙ by_cases (class_at program c)
    where
      by_cases : (o : Option Class) → by_class interface_list o ≡ interfaces_in o
      by_cases None = refl
      by_cases (Some class) = refl

  pub same_parents : (graph : List (List ℕ)) → graph ≡ map parent_list program.classes → (c : ℕ) → edges graph c ≡ parents_of program c
  same_parents graph e c = edges_by_class parent_list graph program.classes c e ∙ by_cases (class_at program c)
    where
      by_cases : (o : Option Class) → by_class parent_list o ≡ interfaces_in o ++ superclass_in o
      by_cases None = refl
      by_cases (Some class) = refl

-- ---- the same edges

module _ (graph : List (List ℕ)) (next : ℕ → List ℕ) (same : (c : ℕ) → edges graph c ≡ next c) where
  pub leads_there : (a b : ℕ) → Leads (edges graph) a b → Leads next a b
  leads_there a b among = subst (λ ys. Contains ys b) (same a) among

  pub leads_here : (a b : ℕ) → Leads next a b → Leads (edges graph) a b
  leads_here a b among = subst (λ ys. Contains ys b) (sym (same a)) among

  pub acyclic_here : IsAcyclic next → IsAcyclic (edges graph)
  acyclic_here none a b edge way = none a b (leads_there a b edge) (path_in (λ k. k) leads_there way)

  pub acyclic_there : ((a : ℕ) → IsOnCycle graph a → ⊥) → IsAcyclic next
  acyclic_there none a b edge way = none a (b, leads_here a b edge, path_in (λ k. k) leads_here way)

  pub kept_walks : (program : Program) (orders : List (List ℕ)) → length graph ≡ length program.classes → AreWalks graph orders
      → KeepsOrder program orders (walk (most_steps program) next)
  kept_walks program orders long walks = record { same_length = walks.same_length ∙ long; each = each }
    where
      each : (c : ℕ) → c < length program.classes → SameFirst (edges orders c) (walk (most_steps program) next c)
      each c below look =
          walks.each c (subst (λ n. c < n) (sym long) below) look
          ∙ ap (first_found look) (ap (λ n. walk (suc n) (edges graph) c) long ∙ walk_same (edges graph) next same (most_steps program) c)

-- ---- the graphs of a program

module _ (program : Program) (there : HasItsParents program) where
  pub parents_lead_inside : (graph : List (List ℕ)) → graph ≡ map parent_list program.classes → LeadsInside graph
  parents_lead_inside graph e a b edge = inside graph parent_list e b (there a b (leads_there graph (parents_of program) (same_parents program graph e) a b edge))
    where
      inside : (graph : List (List ℕ)) (f : Class → List ℕ) → graph ≡ map f program.classes → (b : ℕ) → b < length program.classes → b < length graph
      inside graph f e b below = omega (arith, below, ap length e, length-map program.classes f)

  pub superclasses_lead_inside : (graph : List (List ℕ)) → graph ≡ map superclass_list program.classes → LeadsInside graph
  superclasses_lead_inside graph e a b edge =
      let below = there a b (from_superclass program a b (leads_there graph (superclass_of program) (same_superclasses program graph e) a b edge)) in
      omega (arith, below, ap length e, length-map program.classes superclass_list)

  pub interfaces_lead_inside : (graph : List (List ℕ)) → graph ≡ map interface_list program.classes → LeadsInside graph
  interfaces_lead_inside graph e a b edge =
      let below = there a b (from_interfaces program a b (leads_there graph (interfaces_of program) (same_interfaces program graph e) a b edge)) in
      omega (arith, below, ap length e, length-map program.classes interface_list)

module _ (program : Program) (none : HasNoCycle program) where
  pub parents_acyclic : (graph : List (List ℕ)) → graph ≡ map parent_list program.classes → IsAcyclic (edges graph)
  parents_acyclic graph e = acyclic_here graph (parents_of program) (same_parents program graph e) none

  pub superclasses_acyclic : (graph : List (List ℕ)) → graph ≡ map superclass_list program.classes → IsAcyclic (edges graph)
  superclasses_acyclic graph e = acyclic_here graph (superclass_of program) (same_superclasses program graph e) (no_superclass_cycle program none)

  pub interfaces_acyclic : (graph : List (List ℕ)) → graph ≡ map interface_list program.classes → IsAcyclic (edges graph)
  interfaces_acyclic graph e = acyclic_here graph (interfaces_of program) (same_interfaces program graph e) (no_interface_cycle program none)

module _ (program : Program) where
  pub long_as_classes : (f : Class → List ℕ) (graph : List (List ℕ)) → graph ≡ map f program.classes → length graph ≡ length program.classes
  long_as_classes f graph e = ap length e ∙ length-map program.classes f

  pub supertypes_are_kept : (graph orders : List (List ℕ)) → graph ≡ map parent_list program.classes → AreWalks graph orders → KeepsOrder program orders (supertypes program)
  unfolding supertypes
  supertypes_are_kept graph orders e walks = kept_walks graph (parents_of program) (same_parents program graph e) program orders (long_as_classes parent_list graph e) walks

  pub superclasses_are_kept : (graph orders : List (List ℕ)) → graph ≡ map superclass_list program.classes → AreWalks graph orders → KeepsOrder program orders (superclasses program)
  unfolding superclasses
  superclasses_are_kept graph orders e walks = kept_walks graph (superclass_of program) (same_superclasses program graph e) program orders (long_as_classes superclass_list graph e) walks

  -- ---- the order of methods

  module _ (there : HasItsParents program) (interfaces walks above orders : List (List ℕ)) (lists : interfaces ≡ map interface_list program.classes)
      (walk_kept : AreWalks interfaces walks) (above_kept : KeepsOrder program above (superclasses program)) (made : AreMethodsBy interfaces walks above orders) where
    kept : KeepsOrder program walks (walk (most_steps program) (interfaces_of program))
    kept = kept_walks interfaces (interfaces_of program) (same_interfaces program interfaces lists) program walks (long_as_classes interface_list interfaces lists) walk_kept

    same_superinterfaces : (k : ℕ) → SameFirst (flat_map (edges walks) (edges interfaces k)) (superinterfaces program k)
    unfolding superinterfaces
    same_superinterfaces k look =
        ap (λ is. first_found look (flat_map (edges walks) is)) (same_interfaces program interfaces lists k)
        ∙ same_each (edges walks) (walk (most_steps program) (interfaces_of program)) (interfaces_of program k)
        (λ i among. kept.each i (there k i (from_interfaces program k i among))) look

    pub methods_are_kept : KeepsOrder program orders (method_order program)
    methods_are_kept = record { same_length = sym (length_all_zip _ above orders made) ∙ above_kept.same_length; each = each }
      where
        each : (c : ℕ) → c < length program.classes → SameFirst (edges orders c) (method_order program c)
        each c below look =
            AllZip-get_or (λ xs order. SameFirst order (methods_by interfaces walks xs)) above orders c [] [] made (subst (λ n. c < n) (sym above_kept.same_length) below) look
            ∙ same_in_two (edges above c) (superclasses program c) (flat_map (λ k. flat_map (edges walks) (edges interfaces k)) (edges above c)) (flat_map (superinterfaces program) (superclasses program c))
            (above_kept.each c below)
            (same_then (flat_map (λ k. flat_map (edges walks) (edges interfaces k)) (edges above c)) (flat_map (λ k. flat_map (edges walks) (edges interfaces k)) (superclasses program c)) (flat_map (superinterfaces program) (superclasses program c))
            (same_flat_map (λ k. flat_map (edges walks) (edges interfaces k)) (edges above c) (superclasses program c) (above_kept.each c below))
            (same_each (λ k. flat_map (edges walks) (edges interfaces k)) (superinterfaces program) (superclasses program c) (λ k among. same_superinterfaces k)))
            look

  -- ---- the first class that is above itself

  pub above_itself : (graph : List (List ℕ)) (c : ℕ) → graph ≡ map parent_list program.classes → IsOnCycle graph c → IsAboveItself program c
  above_itself graph c e (p, edge, way) =
      (p, leads_there graph (parents_of program) (same_parents program graph e) c p edge, path_in (λ k. k) (leads_there graph (parents_of program) (same_parents program graph e)) way)

  pub on_cycle_of : (graph : List (List ℕ)) (c : ℕ) → graph ≡ map parent_list program.classes → IsAboveItself program c → IsOnCycle graph c
  on_cycle_of graph c e (p, edge, way) =
      (p, leads_here graph (parents_of program) (same_parents program graph e) c p edge, path_in (λ k. k) (leads_here graph (parents_of program) (same_parents program graph e)) way)

  pub is_cyclic : (graph : List (List ℕ)) (c : ℕ) → graph ≡ map parent_list program.classes → IsFirstOnCycle graph (Some c) → IsFaultOf program (Cyclic c)
  is_cyclic graph c e first = (above_itself graph c e first.0, λ k below itself. first.1 k below (on_cycle_of graph k e itself))

  pub no_cycle : (graph : List (List ℕ)) → graph ≡ map parent_list program.classes → IsFirstOnCycle graph None → HasNoCycle program
  no_cycle graph e none = acyclic_there graph (parents_of program) (same_parents program graph e) none
