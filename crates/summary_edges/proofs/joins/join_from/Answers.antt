use Rattle.std.proofs.Common.{Contains, sym, arith}
use Rattle.summary_edges.proofs.JoinLemmas.{from_same, over_named}
use Rattle.summary_edges.proofs.joins.join_from.Goals as goal

pub returns : goal.returns
returns c =
    from_same c.args.graph.now c.args.sides.now c.args.out c.args.to (Contains c.args.joins.now.items) (Contains c.join_each.new.joins.items) c.args.from c.number-number.result c.at-intos.result.now (omega arith)
    (over_named c.args.graph.now c.args.from c.args.to c.node-beginning.result.now c.node-end.result.now c.node-beginning.ensures c.node-end.ensures (sym c.if-not-passes_over.ensures)) c.number-number.ensures c.at-intos.ensures
    c.in_ok-join_each.ensures
