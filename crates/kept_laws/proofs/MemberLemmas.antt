-- Methods that are found by name and descriptor, and the classes that declare them.
use Rattle.std.proofs.Common.{◌≡◌, ◌∙◌, ℕ, Bool, true, false, List, [], ◌∷◌, Option, Some, None, refl, sym, ap, subst, inl, inr}
use Rattle.std.specs.Prelude.{if◌then◌else◌, option_and_then, Contains}
use Rattle.std.specs.List.{flat_map}
use Rattle.std.specs.Str.{bytes_eq}
use Rattle.std.proofs.lemmas.Bool.{and_parts}
use Rattle.std.proofs.lemmas.List.Elements.{Contains-append_cases}
use Rattle.jo_ids.specs.Path.{stays, goes}
use Rattle.jo_ids.proofs.PathLemmas.{path_in, path_on}
use Rattle.jo_prog.specs.declared.program.Program.{Program}
use Rattle.jo_prog.specs.declared.program.Class.{Class}
use Rattle.jo_prog.specs.declared.program.Method.{Method}
use Rattle.jo_prog.specs.Program.{class_at, method_at, has_signature, first_with}
use Rattle.jo_prog.specs.Walks.{walk, first_found}
use Rattle.jo_prog.specs.Hierarchy.{superclass_of, interfaces_of, most_steps, Subtype, is_subtype, superclasses, superinterfaces, method_order, own_method, resolve_method, is_static_method, unless_static, own_instance_method, search_from, HasNoCycle}
use Rattle.jo_prog.proofs.WalkLemmas.{here, behind, in_flat_map, walk_reaches, is_first}
use Rattle.jo_prog.proofs.HierarchyLemmas.{from_interfaces, from_superclass, subtype_every}
use Rattle.step_laws.proofs.TypeLemmas.{same_some, same_bytes}
use Rattle.std.proofs.lemmas.List.Elements.{Contains-append_right}

-- ---- what a class declares

-- the class has a method of this name and descriptor
pub record Declares (program : Program) (name desc : List ℕ) (c m : ℕ) : Type 0 where
  pub class : Class
  pub is_class : class_at program c ≡ Some class
  pub among : Contains class.methods m
  pub method : Method
  pub is_method : method_at program m ≡ Some method
  pub name_is : method.name ≡ name
  pub desc_is : method.desc ≡ desc

-- it is a method of this name and descriptor
abbrev Signed : Program → List ℕ → List ℕ → ℕ → Type 0
Signed program name desc m = (method : Method) × (method_at program m ≡ Some method) × (method.name ≡ name) × (method.desc ≡ desc)

module _ (program : Program) (name desc : List ℕ) where
  signed : (m : ℕ) (o : Option Method) → method_at program m ≡ o → has_signature name desc o ≡ true → Signed program name desc m
  signed m None is h = absurd (cc)
  signed m (Some method) is h =
      let both = and_parts (bytes_eq method.name name) (bytes_eq method.desc desc) h in
      (method, is, same_bytes method.name name both.0, same_bytes method.desc desc both.1)

  first_signed : (ms : List ℕ) (m : ℕ) → first_with program name desc ms ≡ Some m → Contains ms m × Signed program name desc m
  first_signed [] m e = absurd (cc)
  first_signed (x ∷ xs) m e = by_test (has_signature name desc (method_at program x)) refl e (λ later. first_signed xs m later)
    where
      by_test : (b : Bool) → has_signature name desc (method_at program x) ≡ b → (if b then Some x else first_with program name desc xs) ≡ Some m
          → (first_with program name desc xs ≡ Some m → Contains xs m × Signed program name desc m) → Contains (x ∷ xs) m × Signed program name desc m
      by_test true is at later = subst (λ (k : ℕ). Contains (x ∷ xs) k × Signed program name desc k) (same_some at) (here x xs, signed x (method_at program x) refl is)
      by_test false is at later = let more = later at in (behind x xs m more.0, more.1)

  pub own_declared : (c m : ℕ) → own_method program name desc c ≡ Some m → Declares program name desc c m
  own_declared c m e = by_class (class_at program c) refl e
    where
      by_class : (o : Option Class) → class_at program c ≡ o → option_and_then (λ (class : Class). first_with program name desc class.methods) o ≡ Some m → Declares program name desc c m
      by_class None is at = absurd (cc)
      by_class (Some class) is at =
          let found = first_signed class.methods m at in
          record { class = class; is_class = is; among = found.0; method = found.1.0; is_method = found.1.1; name_is = found.1.2; desc_is = found.1.3 }

  first_at : (look : ℕ → Option ℕ) (ks : List ℕ) (m : ℕ) → first_found look ks ≡ Some m → (k : ℕ) × Contains ks k × (look k ≡ Some m)
  first_at look ks m e =
      let found = is_first look ks m e in
      (found.0, subst (λ (xs : List ℕ). Contains xs found.0) (sym found.3) (Contains-append_right found.1 (found.0 ∷ found.2) found.0 (here found.0 found.2)), found.5)

  -- ---- resolution and selection

  -- the class that declares what another resolves is above it
  pub record Resolves (c m : ℕ) : Type 0 where
    pub above : ℕ
    pub is_above : is_subtype program c above ≡ true
    pub own : own_method program name desc above ≡ Some m

  module _ (none : HasNoCycle program) where
    in_superclasses : (c k : ℕ) → Contains (superclasses program c) k → Subtype program c k
    unfolding superclasses
    in_superclasses c k among = path_in (λ x. x) (from_superclass program) (walk_reaches (superclass_of program) (most_steps program) c k among)

    in_superinterfaces : (c k : ℕ) → Contains (superinterfaces program c) k → Subtype program c k
    unfolding superinterfaces
    in_superinterfaces c k among =
        let found = in_flat_map (walk (most_steps program) (interfaces_of program)) (interfaces_of program c) k among in
        path_on (goes c found.0 found.0 (from_interfaces program c found.0 found.1) (stays found.0))
        (path_in (λ x. x) (from_interfaces program) (walk_reaches (interfaces_of program) (most_steps program) found.0 k found.2))

    in_order : (c k : ℕ) → Contains (method_order program c) k → Subtype program c k
    in_order c k among = elim (Contains-append_cases (superclasses program c) (flat_map (superinterfaces program) (superclasses program c)) k among) [
      | inl first ↦ in_superclasses c k first
      | inr later ↦
          let found = in_flat_map (superinterfaces program) (superclasses program c) k later in
          path_on (in_superclasses c found.0 found.1) (in_superinterfaces found.0 k found.2)
    ]

    pub resolved : (c m : ℕ) → resolve_method program c name desc ≡ Some m → Resolves c m
    resolved c m e =
        let found = first_at (own_method program name desc) (method_order program c) m e in
        record { above = found.0; is_above = subtype_every program none c found.0 (in_order c found.0 found.1); own = found.2 }

    -- what is selected is declared by a class above, and isn't static
    pub record Selects (c m : ℕ) : Type 0 where
      pub above : ℕ
      pub is_above : is_subtype program c above ≡ true
      pub declared : Declares program name desc above m
      pub no_static : is_static_method (method_at program m) ≡ false

    pub selected : (c m : ℕ) → search_from program c name desc ≡ Some m → Selects c m
    selected c m e =
        let found = first_at (own_instance_method program name desc) (superclasses program c) m e in
        let own = by_own found.0 (own_method program name desc found.0) refl found.2 in
        record { above = found.0; is_above = subtype_every program none c found.0 (in_superclasses c found.0 found.1); declared = own_declared found.0 m own.0; no_static = own.1 }
      where
        by_static : (b : Bool) (k : ℕ) → is_static_method (method_at program k) ≡ b → (if b then None else Some k) ≡ Some m → (k ≡ m) × (is_static_method (method_at program m) ≡ false)
        by_static true k is at = absurd (cc)
        by_static false k is at = (same_some at, subst (λ (x : ℕ). is_static_method (method_at program x) ≡ false) (same_some at) is)

        by_own : (above : ℕ) (o : Option ℕ) → own_method program name desc above ≡ o → option_and_then (unless_static program) o ≡ Some m
            → (own_method program name desc above ≡ Some m) × (is_static_method (method_at program m) ≡ false)
        by_own above None is at = absurd (cc)
        by_own above (Some k) is at =
            let both = by_static (is_static_method (method_at program k)) k refl at in
            (is ∙ ap (λ (x : ℕ). Some x) both.0, both.1)
