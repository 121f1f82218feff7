use Rattle.std.proofs.Common.{◌≡◌, List, ℕ, length, sym, subst, arith}
use Rattle.summary_edges.specs.Calls.{IsTableBelow}
use Rattle.summary_edges.proofs.TableLemmas.{table_first}
use Rattle.summary_edges.proofs.calls.call_table.Goals as goal

pub loop-n-init : goal.loop-n-init
loop-n-init c = subst (λ (rows : List (List ℕ)). IsTableBelow c.args.graph.now 0 rows) (sym c.in_ok-rows.ensures) (table_first c.args.graph.now c.len-count.result c.len-count.ensures)

pub returns : goal.returns
returns c =
    let all : c.loop-n.n ≡ length c.args.graph.now = omega arith in
    subst (λ k. IsTableBelow c.args.graph.now k c.loop-n.rows) all c.loop-n.invariant
