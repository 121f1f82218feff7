use Rattle.std.proofs.Common.{rules, ◌≡◌, sym, subst, Option, Some}
use Rattle.jo_prog.specs.MethodTypes.{field_desc_in}
use Rattle.machine.specs.Instructions.{Instruction, field_named}
use Rattle.jvm_values.specs.Resolved.{IsSeen}
use Rattle.resolved_insns.proofs.OperandLemmas.{field_is}
use Rattle.resolved_insns.proofs.operands.of_field.Goals as goal

pub returns-in-Some-found : goal.returns-in-Some-found
returns-in-Some-found c =
    let program = c.args.program.now in
    let member = c.args.member.now in
    let named : field_named program member ≡ Some c.in-Some.field = search rules in
    let found : field_desc_in member.desc ≡ Some c.in-Some-found.desc = search rules in
    subst (λ (wanted : Option Instruction). IsSeen program wanted (Some c.field_instruction.result)) (sym (field_is program c.args.op member c.in-Some.field c.in-Some-found.desc named found))
    (c.field_instruction.ensures program)
