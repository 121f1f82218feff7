use Rattle.std.proofs.Common.{arith, rules}
use Rattle.summary_edges.proofs.TableLemmas.{none_read, row_read}
use Rattle.summary_edges.proofs.calls.add_to_table.Goals as goal

pub returns-in-None : goal.returns-in-None
returns-in-None c = none_read c.args.graph.now c.args.n c.len-count.result c.node.result.now c.args.rows.now c.len-count.ensures (search rules) c.in-None.ensures.row c.requires.table

pub returns-in_ok-add-in-Some : goal.returns-in_ok-add-in-Some
returns-in_ok-add-in-Some c =
    row_read c.args.graph.now c.args.n c.len-count.result c.of-node.result c.in-Some.row c.node.result.now c.args.rows.now c.add.new.self c.len-count.ensures (search rules) c.in-Some.ensures.row
    (omega (arith, c.in-Some.ensures.below, c.requires.table.same_length)) c.of-node.ensures (search rules) c.requires.table
