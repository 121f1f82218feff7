use Rattle.std.proofs.Common.{rules, ◌≡◌, sym, subst, Option, Some}
use Rattle.jo_prog.specs.MethodTypes.{method_desc_in}
use Rattle.machine.specs.Instructions.{Instruction, method_named}
use Rattle.jvm_values.specs.Resolved.{IsSeen}
use Rattle.resolved_insns.proofs.OperandLemmas.{method_is}
use Rattle.resolved_insns.proofs.operands.of_method.Goals as goal

pub returns-in_ok-call-in-Some-found : goal.returns-in_ok-call-in-Some-found
returns-in_ok-call-in-Some-found c =
    let program = c.args.program.now in
    let member = c.args.member.now in
    let named : method_named program member ≡ Some c.in-Some.method = search rules in
    let found : method_desc_in member.desc ≡ Some c.in-Some-found.desc = search rules in
    subst (λ (wanted : Option Instruction). IsSeen program wanted (Some c.in_ok-call-in-Some-found.call)) (sym (method_is program c.args.op member c.in-Some.method c.in-Some-found.desc named found))
    (c.in_ok-call-in-Some-found.ensures program)
