use Rattle.std.proofs.Common.{rules, ◌≡◌, ℕ, sym, subst, Some, w32}
use Rattle.std.proofs.lemmas.Int.{to_z-of_z}
use Rattle.jo_insn.specs.declared.instructions.Insn.{Insn}
use Rattle.jo_insn.specs.declared.instructions.Insn.TheVariants.{TableSwitch, LookupSwitch}
use Rattle.jo_insn.proofs.SpelledFromDecoded.{decoded_is_spelled}
use Rattle.jo_insn.proofs.SwitchTables.{all_bytes}
use Rattle.machine.specs.Instructions.{instruction_of, pc_behind}
use Rattle.jvm_values.specs.Resolved.{IsSeen}
use Rattle.resolved_insns.proofs.resolving.instruction_of.Goals as goal

pub returns-in-Local : goal.returns-in-Local
returns-in-Local c =
    subst (λ (insn : Insn). IsSeen c.args.program.now (instruction_of c.args.program.now c.args.method c.args.code.now c.args.placed.now.pc insn) c.local.result) (sym c.in-Local.is)
    (c.local.ensures c.args.program.now)

pub returns-in-Jump : goal.returns-in-Jump
returns-in-Jump c =
    let target : c.pc_behind.result ≡ pc_behind c.args.placed.now.pc c.in-Jump.by = search rules in
    subst (λ (insn : Insn). IsSeen c.args.program.now (instruction_of c.args.program.now c.args.method c.args.code.now c.args.placed.now.pc insn) c.jump.result) (sym c.in-Jump.is)
    (rw target at (c.jump.ensures c.args.program.now))

pub returns-in_ok-found-in-TableSwitch : goal.returns-in_ok-found-in-TableSwitch
returns-in_ok-found-in-TableSwitch c =
    let code = c.args.code.now in
    let bytes = λ (k : ℕ). (c.type_inv.code k).fits in
    let s = c.in-TableSwitch in
    let read = decoded_is_spelled code c.args.placed.now.pc c.args.placed.now.next (TableSwitch s.other s.low s.high s.at) (all_bytes code bytes) (rw s.is at c.requires.placed) in
    let given = rw (to_z-of_z w32 s.other read.3.0, to_z-of_z w32 s.low read.3.1, to_z-of_z w32 s.high read.3.2) at (c.in_ok-found-in-TableSwitch.ensures c.args.program.now c.args.method) in
    subst (λ (insn : Insn). IsSeen c.args.program.now (instruction_of c.args.program.now c.args.method code c.args.placed.now.pc insn) (Some c.in_ok-found-in-TableSwitch.found)) (sym s.is) given

pub returns-in_ok-found-in-LookupSwitch : goal.returns-in_ok-found-in-LookupSwitch
returns-in_ok-found-in-LookupSwitch c =
    let code = c.args.code.now in
    let bytes = λ (k : ℕ). (c.type_inv.code k).fits in
    let s = c.in-LookupSwitch in
    let read = decoded_is_spelled code c.args.placed.now.pc c.args.placed.now.next (LookupSwitch s.other s.pairs s.at) (all_bytes code bytes) (rw s.is at c.requires.placed) in
    let given = rw (to_z-of_z w32 s.other read.3.0) at (c.in_ok-found-in-LookupSwitch.ensures c.args.program.now c.args.method) in
    subst (λ (insn : Insn). IsSeen c.args.program.now (instruction_of c.args.program.now c.args.method code c.args.placed.now.pc insn) (Some c.in_ok-found-in-LookupSwitch.found)) (sym s.is) given
