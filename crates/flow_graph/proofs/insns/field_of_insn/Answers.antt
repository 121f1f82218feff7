use Rattle.std.specs.Prelude.{cond}
use Rattle.std.proofs.Common.{rules, ◌≡◌, ℕ, true, Some, None, sym, ◌∙◌, ap}
use Rattle.dependence.specs.WideGraph.{operand_of, field_by, names_field}
use Rattle.flow_graph.proofs.insns.field_of_insn.Goals as goal

pub returns : goal.returns
returns c = λ next.
    let program = c.args.program.now in
    let named : names_field (Some (c.args.insn, next)) ≡ true = search rules in
    c.field_by-found.ensures ∙ ap (field_by program) (c.operand_of-operand.ensures next) ∙ sym (ap (λ b. cond b (field_by program (operand_of program c.args.method (Some (c.args.insn, next)))) None) named)
