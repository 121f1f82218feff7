-- Members that instructions can't take (JVM Specification SE 8, 5.4.3.2, 5.4.3.3 and 6.5).
use Rattle.std.specs.Prelude.{◌≡◌, ℕ, Bool, true, false, ◌==◌, ◌&&◌, ◌||◌, not, if◌then◌else◌, Option, Some, None, slice_get}
use Rattle.std.specs.List.{Contains, list_any}
use Rattle.jo_insn.specs.AccessFlags.{has_flag, static_flag}
use Rattle.jo_prog.specs.declared.program.Program.{Program}
use Rattle.jo_prog.specs.declared.program.Field.{Field}
use Rattle.jo_prog.specs.declared.program.TypeRef.{TypeRef}
use Rattle.jo_prog.specs.declared.program.TypeRef.TheVariants.{Class as OfClass, Array as OfArray}
use Rattle.jo_prog.specs.declared.program.Operand.{Operand}
use Rattle.jo_prog.specs.declared.program.Operand.TheVariants.{Member as OfMember}
use Rattle.jo_prog.specs.Operations.{within}
use Rattle.jo_prog.specs.Program.{method_at}
use Rattle.jo_prog.specs.Hierarchy.{is_static_method}
use Rattle.hierarchy.specs.declared.resolutions.Member.{Member}
use Rattle.hierarchy.specs.declared.resolutions.Member.TheVariants.{Field as OfField, Method as OfMethod}
use Rattle.hierarchy.specs.Resolutions.{resolved_at}
use Rattle.program_faults.specs.declared.uses.Use.{Use}
use Rattle.program_faults.specs.SuperFaults.{is_interface}
use Rattle.program_faults.specs.UsedOperands.{uses_of, operand_in}

-- ---- opcodes

-- getstatic, putstatic, getfield and putfield
abbrev pub takes_field : ℕ → Bool
takes_field op = within 178 181 op

-- invokevirtual, invokespecial, invokestatic and invokeinterface
abbrev pub takes_method : ℕ → Bool
takes_method op = within 182 185 op

-- getstatic, putstatic and invokestatic; the others need a member of instances
abbrev pub needs_static : ℕ → Bool
needs_static op = op == 178 || (op == 179 || op == 184)

-- invokevirtual and invokespecial
abbrev pub needs_class : ℕ → Bool
needs_class op = op == 182 || op == 183

-- ---- members

abbrev pub is_static_field : Option Field → Bool
is_static_field None = false
is_static_field (Some field) = has_flag static_flag field.flags

abbrev pub is_as_needed : Bool → Bool → Bool
is_as_needed needed is_static = if needed then is_static else not is_static

-- an instruction with this opcode can take the member that its operand resolves to
abbrev pub can_take : Program → ℕ → Option Member → Bool
can_take program op None = false
can_take program op (Some (OfField f)) = takes_field op && is_as_needed (needs_static op) (is_static_field (slice_get program.fields f))
can_take program op (Some (OfMethod m)) = takes_method op && is_as_needed (needs_static op) (is_static_method (method_at program m))

-- an interface, not a class or an array
abbrev pub is_interface_type : Program → TypeRef → Bool
is_interface_type program (OfClass c) = is_interface program c
is_interface_type program (OfArray desc) = false

-- the operand is a member of an interface, by the class that it names
abbrev pub names_interface : Program → Option Operand → Bool
names_interface program (Some (OfMember ref)) = is_interface_type program ref.owner
names_interface program _ = false

abbrev pub takes_member : ℕ → Bool
takes_member op = takes_field op || takes_method op

-- an instruction of a class names no member that it can take, or an interface where it needs a class
abbrev pub is_wrong_use : Program → ℕ → Use → Bool
is_wrong_use program c used =
    takes_member used.op
    && (not (can_take program used.op (resolved_at program c used.index)) || (needs_class used.op && names_interface program (operand_in program c used.index)))

-- some instruction of the class does
pub record LacksMember (program : Program) (c : ℕ) : Type 0 where
  pub used : Use
  pub is_there : Contains (uses_of program c) used
  pub is_wrong : is_wrong_use program c used ≡ true

-- the same as a test
abbrev pub lacks_member : Program → ℕ → Bool
lacks_member program c = list_any (is_wrong_use program c) (uses_of program c)
