use Rattle.std.proofs.Common.{rules, ◌≡◌, Some, sym, ◌∙◌, ap}
use Rattle.dependence.specs.WideGraph.{insn_at}
use Rattle.flow_graph.specs.NodeUses.{member_if_call}
use Rattle.flow_graph.proofs.node_places.called_at.Goals as goal

pub returns-in-Some : goal.returns-in-Some
returns-in-Some c =
    let found : insn_at c.args.program.now c.args.method c.args.pc ≡ Some (c.in-Some.insn, c.in-Some.field-0-1) = search rules in
    c.call_named.ensures c.in-Some.field-0-1 ∙ ap (member_if_call c.args.program.now c.args.method) (sym found)
