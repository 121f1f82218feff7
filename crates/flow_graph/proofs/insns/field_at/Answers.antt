use Rattle.std.proofs.Common.{rules, ◌≡◌, Some, sym, ◌∙◌, ap}
use Rattle.dependence.specs.WideGraph.{insn_at}
use Rattle.flow_graph.specs.Steps.{field_of}
use Rattle.flow_graph.proofs.insns.field_at.Goals as goal

pub returns-in-Some : goal.returns-in-Some
returns-in-Some c =
    let found : insn_at c.args.program.now c.args.method c.args.pc ≡ Some (c.in-Some.insn, c.in-Some.field-0-1) = search rules in
    c.field_of_insn.ensures c.in-Some.field-0-1 ∙ ap (field_of c.args.program.now c.args.method) (sym found)
