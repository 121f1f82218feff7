use Rattle.std.specs.Prelude.{cond}
use Rattle.std.proofs.Common.{rules, ◌≡◌, ℕ, true, Some, None, sym, ◌∙◌, ap}
use Rattle.dependence.specs.WideGraph.{operand_of, resolved_by, names_method}
use Rattle.flow_graph.proofs.insns.method_of_insn.Goals as goal

pub returns : goal.returns
returns c = λ next.
    let program = c.args.program.now in
    let named : names_method (Some (c.args.insn, next)) ≡ true = search rules in
    c.resolved_by-found.ensures ∙ ap (resolved_by program) (c.operand_of-operand.ensures next) ∙ sym (ap (λ b. cond b (resolved_by program (operand_of program c.args.method (Some (c.args.insn, next)))) None) named)
