-- Subtypes of subtypes.
use Rattle.std.proofs.Common.{◌≡◌, ◌⊎◌, ◌∙◌, ℕ, suc, ◌+◌, ◌-◌, ◌<◌, ◌≤◌, Bool, true, false, cond, List, [], ◌∷◌, Option, Some, None, refl, sym, ap, subst, inl, inr, arith}
use Rattle.std.specs.Prelude.{◌==◌, nat_lt, Contains, slice_get}
use Rattle.std.specs.List.{position_from}
use Rattle.std.specs.Str.{bytes_eq}
use Rattle.std.specs.Cmp.Lexicographic.{bytes_decides}
use Rattle.std.proofs.lemmas.Bool.{false≢true, or_cases, or_left, or_right, cases_Bool, eqb-true, eq-eqb, ne_eqb, ltb-true, lt-ltb}
use Rattle.jo_text.specs.declared.descriptors.Base.{Base}
use Rattle.jo_text.specs.declared.descriptors.Base.TheVariants.{Byte, Char, Double, Float, Int, Long, Short, Boolean, Class as OfName}
use Rattle.jo_text.specs.declared.descriptors.FieldDesc.{FieldDesc}
use Rattle.jo_ids.specs.Path.{Path, stays, goes}
use Rattle.jo_ids.proofs.PathLemmas.{path_on, kept_along}
use Rattle.jo_prog.specs.declared.program.Program.{Program}
use Rattle.jo_prog.specs.declared.program.Class.{Class}
use Rattle.jo_prog.specs.declared.program.TypeRef.{TypeRef}
use Rattle.jo_prog.specs.declared.program.TypeRef.TheVariants.{Class as OfClass, Array as OfArray}
use Rattle.jo_prog.specs.Program.{class_at}
use Rattle.jo_prog.specs.PreludeClasses.{object_name, object_number}
use Rattle.jo_prog.specs.Walks.{Leads}
use Rattle.jo_prog.specs.Hierarchy.{parents_of, is_subtype}
use Rattle.jo_prog.specs.Types.{class_named, is_subtype_of, letter_of, base_fits, is_object, array_fits, type_fits}
use Rattle.jo_prog.specs.Shapes.{is_interface, takes_type, is_class_base}
use Rattle.jo_prog.proofs.WalkLemmas.{none_there}
use Rattle.jo_prog.proofs.HierarchyLemmas.{subtype_every, subtype_along}
use Rattle.step_laws.specs.Premises.{HasSoundHierarchy, IsBelowObject}

pub never : {X : Type 0} → false ≡ true → X
never e = absurd (false≢true e)

pub same_some : {X : Type 0} {x y : X} → Some x ≡ Some y → x ≡ y
same_some e = cc

-- ---- a class by its name

found_from : {X : Type 0} (test : X → Bool) (xs : List X) (first k : ℕ) → position_from test first xs ≡ Some k
    → (x : X) × (slice_get xs (k - first) ≡ Some x) × (test x ≡ true) × (first ≤ k)
found_from test [] first k e = absurd (cc)
found_from {X = X} test (x ∷ xs) first k e = by_test (test x) refl e (λ later. found_from test xs (first + 1) k later)
  where
    some_same : (a b : ℕ) → Some a ≡ Some b → a ≡ b
    some_same a b e = cc

    by_test : (b : Bool) → test x ≡ b → cond b (Some first) (position_from test (first + 1) xs) ≡ Some k
        → (position_from test (first + 1) xs ≡ Some k → (y : X) × (slice_get xs (k - (first + 1)) ≡ Some y) × (test y ≡ true) × (first + 1 ≤ k))
        → (y : X) × (slice_get (x ∷ xs) (k - first) ≡ Some y) × (test y ≡ true) × (first ≤ k)
    by_test true is f go =
        let same : first ≡ k = some_same first k f in
        (x, subst (λ (n : ℕ). slice_get (x ∷ xs) (n - first) ≡ Some x) same (let z : first - first ≡ 0 = omega arith in rw z refl), is, omega arith)
    by_test false is f go =
        let later = go f in
        let same : k - first ≡ suc (k - (first + 1)) = omega (arith, later.3) in
        (later.0, rw same later.1, later.2, omega (arith, later.3))

pub same_bytes : (a b : List ℕ) → bytes_eq a b ≡ true → a ≡ b
same_bytes a b e = (bytes_decides a b).0 e

-- the class of a name has that name
pub named_class : (program : Program) (name : List ℕ) (c : ℕ) → class_named program name ≡ Some c
    → (class : Class) × (class_at program c ≡ Some class) × (class.name ≡ name)
named_class program name c e =
    let found = found_from (λ (class : Class). bytes_eq class.name name) program.classes 0 c e in
    let same : c - 0 ≡ c = omega arith in
    (found.0, subst (λ (n : ℕ). slice_get program.classes n ≡ Some found.0) same found.1, same_bytes found.0.name name found.2)

-- ---- bases

pub letters : (base : Base) → is_class_base base ≡ (letter_of base == 76)
letters Byte = refl
letters Char = refl
letters Double = refl
letters Float = refl
letters Int = refl
letters Long = refl
letters Short = refl
letters Boolean = refl
letters (OfName name) = refl

-- where one of two bases is no class, they fit by their letters
pub by_letters : (program : Program) (a b : Base) → is_class_base b ≡ false → base_fits program a b ≡ (letter_of a == letter_of b)
by_letters program Byte b e = refl
by_letters program Char b e = refl
by_letters program Double b e = refl
by_letters program Float b e = refl
by_letters program Int b e = refl
by_letters program Long b e = refl
by_letters program Short b e = refl
by_letters program Boolean b e = refl
by_letters program (OfName name) Byte e = refl
by_letters program (OfName name) Char e = refl
by_letters program (OfName name) Double e = refl
by_letters program (OfName name) Float e = refl
by_letters program (OfName name) Int e = refl
by_letters program (OfName name) Long e = refl
by_letters program (OfName name) Short e = refl
by_letters program (OfName name) Boolean e = refl
by_letters program (OfName name) (OfName other) e = never (sym e)

-- ---- arrays

-- the bases fit under as many dimensions, or the second is java/lang/Object under fewer
abbrev pub ArraysFit : Program → FieldDesc → FieldDesc → Type 0
ArraysFit program a b = ((a.dims ≡ b.dims) × (base_fits program a.base b.base ≡ true)) ⊎ ((b.dims < a.dims) × (is_object b.base ≡ true))

pub arrays_fit : (program : Program) (a b : FieldDesc) → array_fits program a b ≡ true → ArraysFit program a b
arrays_fit program a b = by_tests (a.dims == b.dims) (nat_lt b.dims a.dims) refl refl
  where
    by_tests : (same less : Bool) → (a.dims == b.dims) ≡ same → nat_lt b.dims a.dims ≡ less
        → cond same (base_fits program a.base b.base) (cond less (is_object b.base) false) ≡ true → ArraysFit program a b
    by_tests true less is lt e = inl (eqb-true a.dims b.dims is, e)
    by_tests false true is lt e = inr (ltb-true b.dims a.dims lt, e)
    by_tests false false is lt e = never e

pub fit_arrays : (program : Program) (a b : FieldDesc) → ArraysFit program a b → array_fits program a b ≡ true
fit_arrays program a b (inl h) = let e : (a.dims == b.dims) ≡ true = eq-eqb a.dims b.dims h.0 in rw e h.1
fit_arrays program a b (inr h) =
    let e : (a.dims == b.dims) ≡ false = ne_eqb a.dims b.dims (λ same. omega arith) in
    let f : nat_lt b.dims a.dims ≡ true = lt-ltb b.dims a.dims h.0 in
    rw e (rw f h.1)

pub object_base : (base : Base) → is_object base ≡ true → base ≡ OfName object_name
object_base (OfName name) e = ap (λ (n : List ℕ). OfName n) (same_bytes name object_name e)
object_base Byte e = never e
object_base Char e = never e
object_base Double e = never e
object_base Float e = never e
object_base Int e = never e
object_base Long e = never e
object_base Short e = never e
object_base Boolean e = never e

module _ (program : Program) (sound : HasSoundHierarchy program) where
  -- ---- classes

  pub subtype_on : (a b c : ℕ) → is_subtype program a b ≡ true → is_subtype program b c ≡ true → is_subtype program a c ≡ true
  subtype_on a b c p q = subtype_every program sound.no_cycle a c (path_on (subtype_along program a b p) (subtype_along program b c q))

  above_object_path : (a c : ℕ) → Path (Leads (parents_of program)) a c → a ≡ object_number → c ≡ object_number
  above_object_path a c (stays _) e = e
  above_object_path a c (goes _ b _ edge p) e =
      absurd (none_there b (subst (λ (xs : List ℕ). Contains xs b) (ap (parents_of program) e ∙ sound.object_first) edge))

  pub above_object : (c : ℕ) → is_subtype program object_number c ≡ true → c ≡ object_number
  above_object c p = above_object_path object_number c (subtype_along program object_number c p) refl

  pub above_interface : (a c : ℕ) → is_interface program (OfClass a) ≡ true → is_subtype program a c ≡ true → (is_interface program (OfClass c) ≡ true) ⊎ (c ≡ object_number)
  above_interface a c is p = kept_along (λ k. (is_interface program (OfClass k) ≡ true) ⊎ (k ≡ object_number)) keeps (subtype_along program a c p) (inl is)
    where
      keeps : (x y : ℕ) → Leads (parents_of program) x y → (is_interface program (OfClass x) ≡ true) ⊎ (x ≡ object_number) → (is_interface program (OfClass y) ≡ true) ⊎ (y ≡ object_number)
      keeps x y edge (inl h) = sound.interfaces x y h edge
      keeps x y edge (inr e) = absurd (none_there y (subst (λ (xs : List ℕ). Contains xs y) (ap (parents_of program) e ∙ sound.object_first) edge))

  -- ---- bases

  pub named_on : (a b c : Option ℕ) → is_subtype_of program a b ≡ true → is_subtype_of program b c ≡ true → is_subtype_of program a c ≡ true
  named_on (Some a) (Some b) (Some c) p q = subtype_on a b c p q
  named_on None b c p q = never p
  named_on (Some a) None c p q = never p
  named_on (Some a) (Some b) None p q = never q

  pub is_class : (a b : Base) → base_fits program a b ≡ true → is_class_base b ≡ true → (name : List ℕ) × (a ≡ OfName name)
  is_class (OfName name) b p q = (name, refl)
  is_class Byte (OfName n) p q = never p
  is_class Char (OfName n) p q = never p
  is_class Double (OfName n) p q = never p
  is_class Float (OfName n) p q = never p
  is_class Int (OfName n) p q = never p
  is_class Long (OfName n) p q = never p
  is_class Short (OfName n) p q = never p
  is_class Boolean (OfName n) p q = never p
  is_class a Byte p q = never q
  is_class a Char p q = never q
  is_class a Double p q = never q
  is_class a Float p q = never q
  is_class a Int p q = never q
  is_class a Long p q = never q
  is_class a Short p q = never q
  is_class a Boolean p q = never q

  is_name : (a : Base) → is_class_base a ≡ true → (name : List ℕ) × (a ≡ OfName name)
  is_name (OfName name) e = (name, refl)
  is_name Byte e = never e
  is_name Char e = never e
  is_name Double e = never e
  is_name Float e = never e
  is_name Int e = never e
  is_name Long e = never e
  is_name Short e = never e
  is_name Boolean e = never e

  -- a class fits classes alone
  fits_class : (name : List ℕ) (c : Base) → base_fits program (OfName name) c ≡ true → is_class_base c ≡ true
  fits_class name (OfName n) p = refl
  fits_class name Byte p = never p
  fits_class name Char p = never p
  fits_class name Double p = never p
  fits_class name Float p = never p
  fits_class name Int p = never p
  fits_class name Long p = never p
  fits_class name Short p = never p
  fits_class name Boolean p = never p

  pub bases_on : (a b c : Base) → base_fits program a b ≡ true → base_fits program b c ≡ true → base_fits program a c ≡ true
  bases_on a b c p q = elim (cases_Bool (is_class_base b)) [ inl e ↦ by_classes e | inr e ↦ by_others e ]
    where
      by_classes : is_class_base b ≡ true → base_fits program a c ≡ true
      by_classes e =
          let x = is_class a b p e in
          let y = is_name b e in
          let q1 : base_fits program (OfName y.0) c ≡ true = subst (λ (base : Base). base_fits program base c ≡ true) y.1 q in
          let z = is_name c (fits_class y.0 c q1) in
          let p1 : base_fits program a (OfName y.0) ≡ true = subst (λ (base : Base). base_fits program a base ≡ true) y.1 p in
          let p2 : base_fits program (OfName x.0) (OfName y.0) ≡ true = subst (λ (base : Base). base_fits program base (OfName y.0) ≡ true) x.1 p1 in
          let q2 : base_fits program (OfName y.0) (OfName z.0) ≡ true = subst (λ (base : Base). base_fits program (OfName y.0) base ≡ true) z.1 q1 in
          let r : base_fits program (OfName x.0) (OfName z.0) ≡ true = named_on (class_named program x.0) (class_named program y.0) (class_named program z.0) p2 q2 in
          subst (λ (base : Base). base_fits program a base ≡ true) (sym z.1) (subst (λ (base : Base). base_fits program base (OfName z.0) ≡ true) (sym x.1) r)

      by_others : is_class_base b ≡ false → base_fits program a c ≡ true
      by_others e =
          let same_ab : letter_of a ≡ letter_of b = eqb-true (letter_of a) (letter_of b) (sym (by_letters program a b e) ∙ p) in
          elim (cases_Bool (is_class_base c)) [
            | inl is ↦ never (sym e ∙ by_name (is_name c is))
            | inr other ↦
                let same_bc : letter_of b ≡ letter_of c = eqb-true (letter_of b) (letter_of c) (sym (by_letters program b c other) ∙ q) in
                by_letters program a c other ∙ eq-eqb (letter_of a) (letter_of c) (same_ab ∙ same_bc)
          ]
        where
          by_name : (name : List ℕ) × (c ≡ OfName name) → is_class_base b ≡ true
          by_name found = ap (λ (base : Base). is_class_base base) (is_class b c q (ap is_class_base found.1)).1

  -- ---- arrays

  -- no base but java/lang/Object is above it
  object_above : (b c : Base) → is_object b ≡ true → base_fits program b c ≡ true → is_object c ≡ true
  object_above b c is p =
      let p1 : base_fits program (OfName object_name) c ≡ true = subst (λ (base : Base). base_fits program base c ≡ true) (object_base b is) p in
      let z = is_name c (fits_class object_name c p1) in
      let p2 : is_subtype_of program (class_named program object_name) (class_named program z.0) ≡ true = subst (λ (base : Base). base_fits program (OfName object_name) base ≡ true) z.1 p1 in
      let p3 : is_subtype_of program (Some object_number) (class_named program z.0) ≡ true = subst (λ (o : Option ℕ). is_subtype_of program o (class_named program z.0) ≡ true) sound.object_named p2 in
      subst (λ (base : Base). is_object base ≡ true) (sym z.1) (by_class z.0 (class_named program z.0) refl p3)
    where
      by_class : (name : List ℕ) (o : Option ℕ) → class_named program name ≡ o → is_subtype_of program (Some object_number) o ≡ true → bytes_eq name object_name ≡ true
      by_class name None e q = never q
      by_class name (Some k) e q =
          let same : class_named program name ≡ Some object_number = e ∙ ap (λ (n : ℕ). Some n) (above_object k q) in
          let one = named_class program name object_number same in
          let other = named_class program object_name object_number sound.object_named in
          let classes : one.0 ≡ other.0 = some_same (sym one.1 ∙ other.1) in
          (bytes_decides name object_name).1 (sym one.2 ∙ ap (λ (class : Class). class.name) classes ∙ other.2)
        where
          some_same : {X : Type 0} {x y : X} → Some x ≡ Some y → x ≡ y
          some_same f = cc

  pub arrays_on : (a b c : FieldDesc) → array_fits program a b ≡ true → array_fits program b c ≡ true → array_fits program a c ≡ true
  arrays_on a b c p q = fit_arrays program a c (by_parts (arrays_fit program a b p) (arrays_fit program b c q))
    where
      by_parts : ArraysFit program a b → ArraysFit program b c → ArraysFit program a c
      by_parts (inl h) (inl k) = inl (h.0 ∙ k.0, bases_on a.base b.base c.base h.1 k.1)
      by_parts (inl h) (inr k) = inr (omega arith, k.1)
      by_parts (inr h) (inl k) = inr (omega arith, object_above b.base c.base h.1 k.1)
      by_parts (inr h) (inr k) = inr (omega arith, k.1)

  -- ---- types

  pub fits_on : (a b c : TypeRef) → type_fits program a b ≡ true → type_fits program b c ≡ true → type_fits program a c ≡ true
  fits_on (OfClass a) (OfClass b) (OfClass c) p q = subtype_on a b c p q
  fits_on (OfClass a) (OfClass b) (OfArray c) p q = never q
  fits_on (OfClass a) (OfArray b) c p q = never p
  fits_on (OfArray a) (OfClass b) (OfClass c) p q =
      let e : b ≡ object_number = eqb-true b object_number p in
      eq-eqb c object_number (above_object c (subst (λ (k : ℕ). is_subtype program k c ≡ true) e q))
  fits_on (OfArray a) (OfClass b) (OfArray c) p q = never q
  fits_on (OfArray a) (OfArray b) (OfClass c) p q = q
  fits_on (OfArray a) (OfArray b) (OfArray c) p q = arrays_on a b c p q

  -- what is passed as an interface may be any object
  pub takes_on : (a b c : TypeRef) → IsBelowObject program a → takes_type program a b ≡ true → takes_type program b c ≡ true → takes_type program a c ≡ true
  takes_on a b c below p q = elim (or_cases (is_interface program c) (type_fits program b c) q) [
    | inl is ↦ or_left (is_interface program c) (type_fits program a c) is
    | inr fits ↦ elim (or_cases (is_interface program b) (type_fits program a b) p) [
      | inl is ↦ by_types b c is fits
      | inr first ↦ or_right (is_interface program c) (type_fits program a c) (fits_on a b c first fits)
    ]
  ]
    where
      by_types : (b c : TypeRef) → is_interface program b ≡ true → type_fits program b c ≡ true → takes_type program a c ≡ true
      by_types (OfClass b) (OfClass c) is fits = elim (above_interface b c is fits) [
        | inl high ↦ or_left (is_interface program (OfClass c)) (type_fits program a (OfClass c)) high
        | inr e ↦ or_right (is_interface program (OfClass c)) (type_fits program a (OfClass c)) (subst (λ (k : ℕ). type_fits program a (OfClass k) ≡ true) (sym e) below)
      ]
      by_types (OfClass b) (OfArray c) is fits = never fits
      by_types (OfArray b) c is fits = never is
