use Rattle.std.proofs.Common.{rules, sym, subst, Option}
use Rattle.machine.specs.Instructions.{Instruction}
use Rattle.jvm_values.specs.Resolved.{IsSeen}
use Rattle.resolved_insns.proofs.PlainLemmas.{behind_stores}
use Rattle.resolved_insns.proofs.plain.plain_form.Goals as goal

pub returns-else-is_element_store : goal.returns-else-is_element_store
returns-else-is_element_store c = λ program.
    let op = c.args.op in
    let is = behind_stores op (search rules) (search rules) (search rules) (search rules) (search rules) (search rules) (search rules) (search rules) (search rules) in
    subst (λ (wanted : Option Instruction). IsSeen program wanted c.later_form.result) (sym is) (c.later_form.ensures program)
