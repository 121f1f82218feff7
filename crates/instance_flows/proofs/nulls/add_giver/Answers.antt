use Rattle.std.proofs.Common.{rules, ◌≡◌, true, length}
use Rattle.instance_flows.specs.NodeTests.{gives_null_by, GivesNullAt}
use Rattle.instance_flows.proofs.NullLemmas.{node_says, giver_added}
use Rattle.instance_flows.proofs.nulls.add_giver.Goals as goal

pub returns-clause-edges : goal.returns-clause-edges
returns-clause-edges c =
    let wide = c.args.wide.now in
    let n = c.args.n in
    let node = c.node.result.now in
    let gives : gives_null_by node.kind node.insn ≡ true = search rules in
    let here : GivesNullAt wide n = (node_says wide (λ x. gives_null_by x.kind x.insn ≡ true) n node c.node.ensures).1 gives in
    giver_added c.args.graph.now c.add.new.self c.len.result n (length wide) (GivesNullAt wide n) c.in_ok-add.ensures.ok c.len.ensures here
