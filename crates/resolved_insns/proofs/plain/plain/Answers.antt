use Rattle.std.proofs.Common.{rules, sym, subst, Option}
use Rattle.jo_prog.specs.Program.{method_at}
use Rattle.machine.specs.Instructions.{Instruction, method_desc}
use Rattle.jvm_values.specs.Resolved.{IsSeen}
use Rattle.resolved_insns.proofs.PlainLemmas.{returns_none}
use Rattle.resolved_insns.proofs.plain.plain.Goals as goal

pub returns : goal.returns
returns c =
    let is = returns_none (method_desc (method_at c.args.program.now c.args.method)) c.args.op (search rules) (search rules) in
    subst (λ (wanted : Option Instruction). IsSeen c.args.program.now wanted c.plain_form.result) (sym is) (c.plain_form.ensures c.args.program.now)
