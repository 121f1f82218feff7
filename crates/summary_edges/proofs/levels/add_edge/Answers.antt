use Rattle.std.proofs.Common.{sym, arith}
use Rattle.summary_edges.specs.Levels.{way_test}
use Rattle.summary_edges.proofs.EdgeLemmas.{straight_added}
use Rattle.summary_edges.proofs.levels.add_edge.Goals as goal

pub returns-clause-ok : goal.returns-clause-ok
returns-clause-ok c =
    straight_added (way_test c.args.way) c.args.count c.args.to c.args.edge.now c.args.rows.now c.add.new.self c.number-from.result c.of.result c.number-from.ensures c.of.ensures (sym c.if-not-is_of.ensures) (omega arith) c.requires.count c.in_ok-add.ensures.ok
