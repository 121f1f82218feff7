-- The steps of the wide graph from a node as a list, in the order in which they are found (this project's own).
use Rattle.std.specs.Prelude.{ℕ, suc, ◌^◌, Bool, true, false, not, ◌&&◌, nat_lt, if◌then◌else◌, ℤ, pos, negsuc, List, [], ◌∷◌, ◌++◌, Option, Some, None, option_map}
use Rattle.std.specs.List.{flat_map}
use Rattle.std.specs.Option.{option_to_list}
use Rattle.jo_insn.specs.declared.instructions.Insn.{Insn}
use Rattle.jo_insn.specs.Jumps.{targets_of}
use Rattle.jo_prog.specs.declared.program.Program.{Program}
use Rattle.jo_prog.specs.declared.program.Code.{Code}
use Rattle.jo_prog.specs.declared.program.Row.{Row}
use Rattle.jo_prog.specs.InsnTyping.{covers}
use Rattle.jo_prog.specs.Program.{code_at}
use Rattle.jo_prog.specs.Sites.{opcode_of}
use Rattle.dep_nodes.specs.declared.kinds.NodeKind.{NodeKind}
use Rattle.dep_nodes.specs.declared.kinds.NodeKind.TheVariants.{Entry, Exit, Instr, Call, RetVal, RetKind, Throw, Catch, Poll, XPoll}
use Rattle.dependence.specs.WideGraph.{insn_at, row_at, operand_of, resolved_by, field_by, names_field, names_method, node_of_insn, is_call, is_return, goes_on, may_throw, calls_native}

-- ---- what an instruction resolves to

abbrev pub method_of : Program → ℕ → Option (Insn × ℕ) → Option ℕ
method_of program m found = if names_method found then resolved_by program (operand_of program m found) else None

abbrev pub field_of : Program → ℕ → Option (Insn × ℕ) → Option ℕ
field_of program m found = if names_field found then field_by program (operand_of program m found) else None

-- ---- parts

-- the node at which a thread stands whose pc this is
abbrev pub first_at : Program → ℕ → ℕ → Option NodeKind
first_at program m pc = option_map (λ (found : Insn × ℕ). node_of_insn pc found.0) (insn_at program m pc)

abbrev pub first_steps : Program → ℕ → ℕ → List NodeKind
first_steps program m pc = option_to_list (first_at program m pc)

abbrev pub step_if : Bool → NodeKind → List NodeKind
step_if test n = if test then n ∷ [] else []

-- code has fewer than 65,536 bytes
abbrev pub pc_of : ℤ → Option ℕ
pc_of (pos pc) = if nat_lt pc (2 ^ 16) then Some pc else None
pc_of (negsuc k) = None

-- a branch backwards passes a Poll
abbrev pub turned : ℕ → ℕ → NodeKind → NodeKind
turned pc target first = if nat_lt pc target then first else Poll pc target

abbrev pub jump_to : Program → ℕ → ℕ → Option ℕ → List NodeKind
jump_to program m pc None = []
jump_to program m pc (Some target) = option_to_list (option_map (turned pc target) (first_at program m target))

abbrev pub targets_in : Option Code → ℕ → Insn → List ℤ
targets_in None pc insn = []
targets_in (Some code) pc insn = targets_of code.bytes pc insn

abbrev pub jump_steps : Program → ℕ → ℕ → Insn → List NodeKind
jump_steps program m pc insn = flat_map (λ target. jump_to program m pc (pc_of target)) (targets_in (code_at program m) pc insn)

abbrev pub fall_steps : Program → ℕ → Insn → ℕ → List NodeKind
fall_steps program m insn next = if goes_on (opcode_of insn) then first_steps program m next else []

-- ---- nodes

abbrev pub entry_steps : Program → ℕ → List NodeKind
entry_steps program m = first_steps program m 0 ++ Exit ∷ []

abbrev pub insn_steps : Program → ℕ → ℕ → Option (Insn × ℕ) → List NodeKind
insn_steps program m pc None = []
insn_steps program m pc (Some (insn, next)) =
    fall_steps program m insn next ++ jump_steps program m pc insn ++ step_if (is_return (opcode_of insn)) Exit
    ++ step_if (may_throw (opcode_of insn) && not (is_call (opcode_of insn))) (Throw pc)

abbrev pub answer_of : Program → ℕ → ℕ → NodeKind
answer_of program m pc = if calls_native program m pc then RetVal pc else RetKind pc

abbrev pub call_steps : Program → ℕ → ℕ → Option (Insn × ℕ) → List NodeKind
call_steps program m pc None = []
call_steps program m pc (Some (insn, next)) =
    if is_call (opcode_of insn)
    then answer_of program m pc ∷ step_if (may_throw (opcode_of insn)) (Throw pc)
    else []

abbrev pub result_steps : Program → ℕ → Option (Insn × ℕ) → List NodeKind
result_steps program m None = []
result_steps program m (Some (insn, next)) = if is_call (opcode_of insn) then first_steps program m next else []

-- an exception that is handled at its own pc or before it passes an XPoll
abbrev pub thrown_to : ℕ → ℕ → ℕ → NodeKind
thrown_to pc k handler = if nat_lt pc handler then Catch k else XPoll pc k

abbrev pub row_step : ℕ → ℕ → Row → List NodeKind
row_step pc k row = if covers pc row then thrown_to pc k row.handler ∷ [] else []

abbrev pub row_steps : ℕ → ℕ → List Row → List NodeKind
row_steps pc k [] = []
row_steps pc k (row ∷ rows) = row_step pc k row ++ row_steps pc (suc k) rows

abbrev pub throw_steps : ℕ → Option Code → List NodeKind
throw_steps pc None = Exit ∷ []
throw_steps pc (Some code) = row_steps pc 0 code.rows ++ Exit ∷ []

abbrev pub catch_steps : Program → ℕ → Option Row → List NodeKind
catch_steps program m None = []
catch_steps program m (Some row) = first_steps program m row.handler

abbrev pub poll_steps : Program → ℕ → ℕ → List NodeKind
poll_steps program m target = first_steps program m target ++ Exit ∷ []

-- all steps from a node of the wide graph
abbrev pub steps_from : Program → ℕ → NodeKind → List NodeKind
steps_from program m Entry = entry_steps program m
steps_from program m (Instr pc) = insn_steps program m pc (insn_at program m pc)
steps_from program m (Call pc) = call_steps program m pc (insn_at program m pc)
steps_from program m (RetVal pc) = result_steps program m (insn_at program m pc)
steps_from program m (RetKind pc) = RetVal pc ∷ Throw pc ∷ Exit ∷ []
steps_from program m (Throw pc) = throw_steps pc (code_at program m)
steps_from program m (Catch k) = catch_steps program m (row_at program m k)
steps_from program m (Poll pc target) = poll_steps program m target
steps_from program m (XPoll pc k) = Catch k ∷ Exit ∷ []
steps_from program m _ = []
