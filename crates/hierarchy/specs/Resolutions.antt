-- The members that the operands of each class resolve to (JVM Specification SE 8, 5.4.3.2 and 5.4.3.3).
use Rattle.std.specs.Prelude.{◌≡◌, ℕ, Bool, false, ◌==◌, if◌then◌else◌, List, [], ◌∷◌, map, Option, None, option_map, option_and_then, slice_get}
use Rattle.jo_prog.specs.declared.program.Program.{Program}
use Rattle.jo_prog.specs.declared.program.Class.{Class}
use Rattle.jo_prog.specs.declared.program.TypeRef.{TypeRef}
use Rattle.jo_prog.specs.declared.program.TypeRef.TheVariants.{Class as OfClass, Array as OfArray}
use Rattle.jo_prog.specs.declared.program.Operand.{Operand}
use Rattle.jo_prog.specs.declared.program.Operand.TheVariants.{Member as OfMember}
use Rattle.jo_prog.specs.Program.{class_at}
use Rattle.jo_prog.specs.Calls.{receiver_class}
use Rattle.jo_prog.specs.Hierarchy.{resolve_method, resolve_field}
use Rattle.hierarchy.specs.declared.resolutions.Member.{Member}
use Rattle.hierarchy.specs.declared.resolutions.Member.TheVariants.{Field, Method}
use Rattle.hierarchy.specs.declared.resolutions.Resolutions.{Resolutions}

-- a method's descriptor begins with a parenthesis (40)
abbrev pub is_of_method : List ℕ → Bool
is_of_method [] = false
is_of_method (first ∷ rest) = first == 40

-- an array has the methods of java/lang/Object, and no fields
abbrev pub field_of : Program → TypeRef → List ℕ → List ℕ → Option Member
field_of program (OfClass c) name desc = option_map (λ field. Field field) (resolve_field program c name desc)
field_of program (OfArray array) name desc = None

abbrev pub member_of : Program → TypeRef → List ℕ → List ℕ → Option Member
member_of program owner name desc =
    if is_of_method desc
    then option_map (λ method. Method method) (resolve_method program (receiver_class owner) name desc)
    else field_of program owner name desc

abbrev pub resolved_operand : Program → Operand → Option Member
resolved_operand program (OfMember ref) = member_of program ref.owner ref.name ref.desc
resolved_operand program _ = None

-- what the operand with that index in the pool of a class resolves to
abbrev pub resolved_at : Program → ℕ → ℕ → Option Member
resolved_at program c index =
    option_and_then (resolved_operand program)
    (option_and_then (λ (class : Class). slice_get class.operands index) (class_at program c))

abbrev pub resolved_of_class : Program → Class → List (Option Member)
resolved_of_class program class = map (resolved_operand program) class.operands

abbrev pub AreResolutionsOf : Program → Resolutions → Type 0
AreResolutionsOf program resolutions = resolutions.members.items ≡ map (resolved_of_class program) program.classes
