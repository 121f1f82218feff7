use Rattle.std.proofs.Common.{Contains, arith}
use Rattle.summary_edges.proofs.JoinLemmas.{to_within}
use Rattle.summary_edges.proofs.joins.join_return_inside.Goals as goal

pub returns : goal.returns
returns c = to_within c.args.graph.now c.args.sides.now c.args.out c.args.to (Contains c.args.joins.now.items) (Contains c.join_return.new.joins.items) (omega arith) c.in_ok-join_return.ensures
