-- What the hierarchy sees of the prelude's classes, in any program that begins with them.
use Rattle.std.proofs.Common.{◌≡◌, ◌∙◌, ℕ, zero, suc, ◌+◌, true, false, List, [], ◌∷◌, ◌++◌, map, length, Option, Some, None, refl, sym, subst, ap, not, ◌||◌, arith}
use Rattle.std.specs.Prelude.{codes, slice_get, option_map}
use Rattle.std.specs.List.{Contains, flat_map, position_from, AllByRecursion}
use Rattle.std.specs.Option.{option_to_list}
use Rattle.std.specs.Str.{bytes_eq}
use Rattle.std.proofs.lemmas.Option.{slice_get-map, same_Some}
use Rattle.std.proofs.lemmas.List.Elements.{Contains-append_right}
use Rattle.jo_ids.specs.Path.{stays, goes}
use Rattle.jo_insn.specs.AccessFlags.{has_flag, abstract_flag}
use Rattle.linked_laws.proofs.Lists.{all_append, each_at}
use Rattle.jo_prog.specs.declared.program.Program.{Program}
use Rattle.jo_prog.specs.declared.program.Class.{Class}
use Rattle.jo_prog.specs.declared.sites.Cause.{Cause}
use Rattle.jo_prog.specs.declared.sites.Cause.TheVariants.{ZeroDivisor, NullBase, FailingCast, WrongElement, NegativeLength, BadIndex, SecondStart, MissingInterface}
use Rattle.jo_prog.specs.Program.{class_at}
use Rattle.jo_prog.specs.PreludeClasses.{object_name, object_number, string_name, string_class}
use Rattle.jo_prog.specs.Hierarchy.{superclass_in, interfaces_in, superclass_of, parents_of, Subtype}
use Rattle.jo_prog.specs.Shapes.{is_interface, is_interface_class, interface_flag}
use Rattle.jo_prog.specs.Sites.{class_raised}
use Rattle.jo_prog.specs.Types.{class_named}
use Rattle.jo_prog.specs.InsnTyping.{throwable}
use Rattle.jo_prog.specs.Walks.{Leads}
use Rattle.jo_prog.proofs.WalkLemmas.{here}
use Rattle.machine.specs.Heaps.{first_content, own_contents}
use Rattle.step_laws.specs.TypedStates.{has_objects}

-- a class without its pool, and of its members the count of fields alone
pub record Outline : Type 0 where
  pub name : List ℕ
  pub flags : ℕ
  pub superclass : Option ℕ
  pub interfaces : List ℕ
  pub fields : ℕ

abbrev pub outline_of : Class → Outline
outline_of class = record { name = class.name; flags = class.flags; superclass = class.superclass; interfaces = class.interfaces; fields = length class.fields }

-- a class of exceptions in java/lang
abbrev pub below : List ℕ → ℕ → Outline
below name above = record { name = codes "java/lang/" ++ name; flags = 0x0021; superclass = Some above; interfaces = []; fields = 0 }

-- those below java/lang/Object
abbrev lower_outlines : List Outline
lower_outlines =
    record { name = string_name; flags = 0x0021; superclass = Some 0; interfaces = []; fields = 0 }
    ∷ record { name = codes "java/lang/Runnable"; flags = 0x0601; superclass = Some 0; interfaces = []; fields = 0 }
    ∷ record { name = codes "java/lang/Thread"; flags = 0x0021; superclass = Some 0; interfaces = 2 ∷ []; fields = 1 }
    ∷ record { name = codes "java/lang/Throwable"; flags = 0x0021; superclass = Some 0; interfaces = []; fields = 1 } ∷ below (codes "Exception") 4 ∷ below (codes "Error") 4 ∷ below (codes "RuntimeException") 5
    ∷ below (codes "ArithmeticException") 7 ∷ below (codes "NullPointerException") 7 ∷ below (codes "ClassCastException") 7
    ∷ below (codes "IndexOutOfBoundsException") 7 ∷ below (codes "ArrayStoreException") 7 ∷ below (codes "NegativeArraySizeException") 7
    ∷ below (codes "IllegalArgumentException") 7 ∷ below (codes "IllegalStateException") 7 ∷ below (codes "IllegalMonitorStateException") 7
    ∷ below (codes "UnsupportedOperationException") 7 ∷ below (codes "ArrayIndexOutOfBoundsException") 11
    ∷ below (codes "IllegalThreadStateException") 14 ∷ below (codes "InterruptedException") 5 ∷ below (codes "LinkageError") 6
    ∷ below (codes "IncompatibleClassChangeError") 21 ∷ []

abbrev pub prelude_outlines : List Outline
prelude_outlines = record { name = object_name; flags = 0x0021; superclass = None; interfaces = []; fields = 0 } ∷ lower_outlines

-- the classes of a program begin so
pub record BeginsWithPrelude (program : Program) : Type 0 where
  pub more : List Outline
  pub outlines : map outline_of program.classes ≡ prelude_outlines ++ more

-- ---- what an outline says

abbrev superclass_by : Option Outline → List ℕ
superclass_by None = []
superclass_by (Some outline) = option_to_list outline.superclass

abbrev interfaces_by : Option Outline → List ℕ
interfaces_by None = []
interfaces_by (Some outline) = outline.interfaces

superclass_same : (o : Option Class) → superclass_in o ≡ superclass_by (option_map outline_of o)
superclass_same None = refl
superclass_same (Some class) = refl

interfaces_same : (o : Option Class) → interfaces_in o ≡ interfaces_by (option_map outline_of o)
interfaces_same None = refl
interfaces_same (Some class) = refl

named_same : (name : List ℕ) (classes : List Class) (k : ℕ)
    → position_from (λ (class : Class). bytes_eq class.name name) k classes ≡ position_from (λ (outline : Outline). bytes_eq outline.name name) k (map outline_of classes)
named_same name [] k = refl
named_same name (class ∷ more) k = rw (named_same name more (k + 1)) refl

-- there is a superclass
pub record HasAbove (outline : Outline) : Type 0 where
  pub above : ℕ
  pub is_above : outline.superclass ≡ Some above

-- each class but java/lang/Object has one
abbrev pub HasSuperclasses : Program → Type 0
HasSuperclasses program = (c : ℕ) (class : Class) → class_at program c ≡ Some class → (c ≡ object_number → ⊥) → (s : ℕ) × (class.superclass ≡ Some s)

above_by : (s : ℕ) {outline : Outline} → outline.superclass ≡ Some s → HasAbove outline
above_by s is = record { above = s; is_above = is }

lower_above : AllByRecursion HasAbove lower_outlines
lower_above = (above_by 0 refl, (above_by 0 refl, (above_by 0 refl, (above_by 0 refl, (above_by 4 refl, (above_by 4 refl, (above_by 5 refl, (above_by 7 refl, (above_by 7 refl, (above_by 7 refl, (above_by 7 refl, (above_by 7 refl, (above_by 7 refl, (above_by 7 refl, (above_by 7 refl, (above_by 7 refl, (above_by 7 refl, (above_by 11 refl, (above_by 14 refl, (above_by 5 refl, (above_by 6 refl, (above_by 21 refl, tt))))))))))))))))))))))

-- a class with an outline is there
pub record HasOutline (program : Program) (c : ℕ) (outline : Outline) : Type 0 where
  pub class : Class
  pub is_there : class_at program c ≡ Some class
  pub is_so : outline_of class ≡ outline

-- a class that may have objects
pub record IsMadeAt (program : Program) (c : ℕ) : Type 0 where
  pub class : Class
  pub is_there : class_at program c ≡ Some class
  pub made : has_objects class ≡ true

outlined : (program : Program) (c : ℕ) (outline : Outline) → option_map outline_of (class_at program c) ≡ Some outline → HasOutline program c outline
outlined program c outline is = by_class (class_at program c) refl is
  where
    by_class : (o : Option Class) → class_at program c ≡ o → option_map outline_of o ≡ Some outline → HasOutline program c outline
    by_class None at e = absurd (cc)
    by_class (Some class) at e = record { class = class; is_there = at; is_so = same_Some (outline_of class) outline e }

-- ---- in a program that begins with the prelude

module _ (program : Program) (begins : BeginsWithPrelude program) where
  outline_at : (c : ℕ) → option_map outline_of (class_at program c) ≡ slice_get (prelude_outlines ++ begins.more) c
  outline_at c = sym (slice_get-map outline_of program.classes c) ∙ ap (λ (outlines : List Outline). slice_get outlines c) begins.outlines

  pub has_outline : (c : ℕ) (outline : Outline) → slice_get (prelude_outlines ++ begins.more) c ≡ Some outline → HasOutline program c outline
  has_outline c outline is = outlined program c outline (outline_at c ∙ is)

  pub superclasses : AllByRecursion HasAbove begins.more → HasSuperclasses program
  superclasses above zero class at apart = absurd (apart refl)
  superclasses above (suc k) class at apart =
      let drawn : slice_get (prelude_outlines ++ begins.more) (suc k) ≡ Some (outline_of class) = sym (outline_at (suc k)) ∙ ap (option_map outline_of) at in
      let has : HasAbove (outline_of class) = each_at HasAbove (lower_outlines ++ begins.more) k (outline_of class) (all_append HasAbove lower_outlines begins.more lower_above above) drawn in
      (has.above, has.is_above)

  superclass_is : (c : ℕ) → superclass_of program c ≡ superclass_by (slice_get (prelude_outlines ++ begins.more) c)
  superclass_is c = superclass_same (class_at program c) ∙ ap superclass_by (outline_at c)

  interfaces_are : (c : ℕ) → interfaces_in (class_at program c) ≡ interfaces_by (slice_get (prelude_outlines ++ begins.more) c)
  interfaces_are c = interfaces_same (class_at program c) ∙ ap interfaces_by (outline_at c)

  -- ---- java/lang/Object

  pub object_named : class_named program object_name ≡ Some object_number
  object_named = named_same object_name program.classes 0 ∙ ap (position_from (λ (outline : Outline). bytes_eq outline.name object_name) 0) begins.outlines

  pub object_first : parents_of program object_number ≡ []
  object_first = ap (λ (front : List ℕ). front ++ superclass_of program object_number) (interfaces_are object_number) ∙ superclass_is object_number

  -- ---- exceptions

  pub throwable_class : is_interface program throwable ≡ false
  throwable_class =
      let at = has_outline 4 _ refl in
      ap is_interface_class at.is_there ∙ ap (λ (outline : Outline). has_flag interface_flag outline.flags) at.is_so

  up : (c s : ℕ) → superclass_by (slice_get (prelude_outlines ++ begins.more) c) ≡ s ∷ [] → Leads (parents_of program) c s
  up c s is =
      Contains-append_right (interfaces_in (class_at program c)) (superclass_of program c) s
      (subst (λ (ys : List ℕ). Contains ys s) (sym (superclass_is c ∙ is)) (here s []))

  step : (c s b : ℕ) → superclass_by (slice_get (prelude_outlines ++ begins.more) c) ≡ s ∷ [] → Subtype program s b → Subtype program c b
  step c s b is more = goes c s b (up c s is) more

  runtime_below : Subtype program 7 4
  runtime_below = step 7 5 4 refl (step 5 4 4 refl (stays 4))

  pub raised_below : (cause : Cause) → Subtype program (class_raised cause) 4
  raised_below ZeroDivisor = step 8 7 4 refl runtime_below
  raised_below NullBase = step 9 7 4 refl runtime_below
  raised_below FailingCast = step 10 7 4 refl runtime_below
  raised_below WrongElement = step 12 7 4 refl runtime_below
  raised_below NegativeLength = step 13 7 4 refl runtime_below
  raised_below BadIndex = step 18 11 4 refl (step 11 7 4 refl runtime_below)
  raised_below SecondStart = step 19 14 4 refl (step 14 7 4 refl runtime_below)
  raised_below MissingInterface = step 22 21 4 refl (step 21 6 4 refl (step 6 4 4 refl (stays 4)))

  -- a class of the prelude that is neither abstract nor an interface
  pub made_by : (c : ℕ) (outline : Outline) → slice_get (prelude_outlines ++ begins.more) c ≡ Some outline → outline.flags ≡ 0x0021 → IsMadeAt program c
  made_by c outline is flags =
      let at = has_outline c outline is in
      record { class = at.class; is_there = at.is_there; made = ap (λ (bits : ℕ). not (has_flag abstract_flag bits || has_flag interface_flag bits)) (ap (λ (o : Outline). o.flags) at.is_so ∙ flags) }

  -- the class of the machine's exception is one
  pub raised_made : (cause : Cause) → IsMadeAt program (class_raised cause)
  raised_made ZeroDivisor = made_by 8 _ refl refl
  raised_made NullBase = made_by 9 _ refl refl
  raised_made FailingCast = made_by 10 _ refl refl
  raised_made WrongElement = made_by 12 _ refl refl
  raised_made NegativeLength = made_by 13 _ refl refl
  raised_made BadIndex = made_by 18 _ refl refl
  raised_made SecondStart = made_by 19 _ refl refl
  raised_made MissingInterface = made_by 22 _ refl refl

  -- ---- java/lang/String

  pub string_named : class_named program string_name ≡ Some string_class
  string_named = named_same string_name program.classes 0 ∙ ap (position_from (λ (outline : Outline). bytes_eq outline.name string_name) 0) begins.outlines

  pub string_made : IsMadeAt program string_class
  string_made = made_by string_class _ refl refl

  pub string_above : superclass_of program string_class ≡ object_number ∷ []
  string_above = superclass_is string_class

  pub object_above : superclass_of program object_number ≡ []
  object_above = superclass_is object_number

  nothing_in : (o : Option Class) (outline : Outline) → option_map outline_of o ≡ Some outline → outline.fields ≡ 0 → own_contents program o ≡ []
  nothing_in None outline is none = refl
  nothing_in (Some class) outline is none = by_fields class.fields (ap (λ (o : Outline). o.fields) (same_Some (outline_of class) outline is) ∙ none)
    where
      by_fields : (fs : List ℕ) → length fs ≡ 0 → flat_map (λ f. first_content f (slice_get program.fields f)) fs ≡ []
      by_fields [] e = refl
      by_fields (f ∷ fs) e = absurd (omega (arith, e))

  pub string_empty : own_contents program (class_at program string_class) ≡ []
  string_empty = nothing_in (class_at program string_class) _ (outline_at string_class) refl

  pub object_empty : own_contents program (class_at program object_number) ≡ []
  object_empty = nothing_in (class_at program object_number) _ (outline_at object_number) refl

  -- its class has no fields
  pub object_listing : (class : Class) → class_at program object_number ≡ Some class → class.fields ≡ []
  object_listing class at = no_items class.fields (ap (λ (o : Outline). o.fields) (same_Some (outline_of class) _ (sym (ap (option_map outline_of) at) ∙ outline_at object_number)))
    where
      no_items : (fs : List ℕ) → length fs ≡ 0 → fs ≡ []
      no_items [] e = refl
      no_items (f ∷ fs) e = absurd (omega (arith, e))
