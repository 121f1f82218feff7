-- Superclasses and interfaces, subtypes, and the members that classes resolve and select (JVM Specification SE 8, 5.4.3.2 to
-- 5.4.3.4 and 6.5; the order of superinterfaces, and selection by name and descriptor alone, are this project's own).
use Rattle.std.specs.Prelude.{ℕ, suc, Bool, false, ◌==◌, ◌&&◌, if◌then◌else◌, List, [], ◌∷◌, ◌++◌, length, Option, Some, None, option_and_then, slice_get}
use Rattle.std.specs.List.{flat_map, list_any}
use Rattle.std.specs.Option.{option_to_list}
use Rattle.std.specs.Str.{bytes_eq}
use Rattle.jo_ids.specs.Path.{Path}
use Rattle.jo_insn.specs.AccessFlags.{has_flag, static_flag}
use Rattle.jo_prog.specs.declared.program.Program.{Program}
use Rattle.jo_prog.specs.declared.program.Class.{Class}
use Rattle.jo_prog.specs.declared.program.Field.{Field}
use Rattle.jo_prog.specs.declared.program.Method.{Method}
use Rattle.jo_prog.specs.Program.{method_at, class_at, first_with}
use Rattle.jo_prog.specs.Walks.{Leads, IsAcyclic, walk, first_found}

-- ---- what stands directly above a class

abbrev pub superclass_in : Option Class → List ℕ
superclass_in None = []
superclass_in (Some class) = option_to_list class.superclass

abbrev pub interfaces_in : Option Class → List ℕ
interfaces_in None = []
interfaces_in (Some class) = class.interfaces

-- its superclass, where it has one
abbrev pub superclass_of : Program → ℕ → List ℕ
superclass_of program c = superclass_in (class_at program c)

-- its direct superinterfaces in order
abbrev pub interfaces_of : Program → ℕ → List ℕ
interfaces_of program c = interfaces_in (class_at program c)

abbrev pub parents_of : Program → ℕ → List ℕ
parents_of program c = interfaces_of program c ++ superclass_of program c

-- ---- subtypes

-- the second class is the first, or is reached from it by superclasses and interfaces
abbrev pub Subtype : Program → ℕ → ℕ → Type 0
Subtype program = Path (Leads (parents_of program))

-- a class is above itself
abbrev pub IsAboveItself : Program → ℕ → Type 0
IsAboveItself program c = (p : ℕ) × Leads (parents_of program) c p × Subtype program p c

-- no class is
abbrev pub HasNoCycle : Program → Type 0
HasNoCycle program = IsAcyclic (parents_of program)

-- a way upwards has fewer steps than this, if no class is above itself
abbrev pub most_steps : Program → ℕ
most_steps program = suc (length program.classes)

-- the class and all that are above it: superinterfaces before the superclass
unfoldable pub supertypes : Program → ℕ → List ℕ
supertypes program c = walk (most_steps program) (parents_of program) c

abbrev pub is_subtype : Program → ℕ → ℕ → Bool
is_subtype program a b = list_any (λ k. k == b) (supertypes program a)

-- ---- members of a class itself

-- the first of these fields with that name and descriptor
abbrev pub is_field : List ℕ → List ℕ → Option Field → Bool
is_field name desc None = false
is_field name desc (Some field) = bytes_eq field.name name && bytes_eq field.desc desc

abbrev pub first_field : Program → List ℕ → List ℕ → List ℕ → Option ℕ
first_field program name desc [] = None
first_field program name desc (f ∷ fs) =
    if is_field name desc (slice_get program.fields f) then Some f else first_field program name desc fs

-- of two members of one class with one name and descriptor only the first counts
abbrev pub own_method : Program → List ℕ → List ℕ → ℕ → Option ℕ
own_method program name desc c =
    option_and_then (λ (class : Class). first_with program name desc class.methods) (class_at program c)

abbrev pub own_field : Program → List ℕ → List ℕ → ℕ → Option ℕ
own_field program name desc c =
    option_and_then (λ (class : Class). first_field program name desc class.fields) (class_at program c)

-- ---- resolution (5.4.3.2 to 5.4.3.4)

-- the class and its superclasses upward
unfoldable pub superclasses : Program → ℕ → List ℕ
superclasses program c = walk (most_steps program) (superclass_of program) c

-- the superinterfaces of one class: each direct one in order, directly after it its own by the same rule
unfoldable pub superinterfaces : Program → ℕ → List ℕ
superinterfaces program c = flat_map (walk (most_steps program) (interfaces_of program)) (interfaces_of program c)

-- where methods are looked for: in the class and its superclasses upward, then in the superinterfaces of the class, and then in
-- those of each superclass upward
abbrev pub method_order : Program → ℕ → List ℕ
method_order program c = superclasses program c ++ flat_map (superinterfaces program) (superclasses program c)

-- the method that a class resolves
abbrev pub resolve_method : Program → ℕ → List ℕ → List ℕ → Option ℕ
resolve_method program c name desc = first_found (own_method program name desc) (method_order program c)

-- The field that a class resolves: its own, else that of the first direct superinterface that resolves one, else that of its superclass.
abbrev pub resolve_field : Program → ℕ → List ℕ → List ℕ → Option ℕ
resolve_field program c name desc = first_found (own_field program name desc) (supertypes program c)

-- ---- selection (6.5)

abbrev pub is_static_method : Option Method → Bool
is_static_method None = false
is_static_method (Some method) = has_flag static_flag method.flags

abbrev pub unless_static : Program → ℕ → Option ℕ
unless_static program m = if is_static_method (method_at program m) then None else Some m

-- a class whose first method of that name and descriptor is static is passed over
abbrev pub own_instance_method : Program → List ℕ → List ℕ → ℕ → Option ℕ
own_instance_method program name desc c = option_and_then (unless_static program) (own_method program name desc c)

-- the instance method that a search from a class upward finds
abbrev pub search_from : Program → ℕ → List ℕ → List ℕ → Option ℕ
search_from program c name desc = first_found (own_instance_method program name desc) (superclasses program c)

-- the method that a class selects for one that was resolved
abbrev pub select : Program → ℕ → ℕ → Option ℕ
select program receiver m =
    option_and_then (λ (method : Method). search_from program receiver method.name method.desc) (method_at program m)
