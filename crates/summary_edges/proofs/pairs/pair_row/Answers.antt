use Rattle.std.proofs.Common.{◌≡◌, List, ℕ}
use Rattle.std.specs.List.{filter}
use Rattle.std.proofs.lemmas.Result.{IfOk-weaker}
use Rattle.summary_edges.specs.Pairs.{pairs_with, IsPairRow}
use Rattle.summary_edges.proofs.PairLemmas.{pairs_read}
use Rattle.summary_edges.proofs.pairs.pair_row.Goals as goal

pub returns-clause-pairs : goal.returns-clause-pairs
returns-clause-pairs c =
    IfOk-weaker c.found_beginnings.result (λ (r : List ℕ). r ≡ filter (pairs_with c.args.graph.now c.reach.new.found c.args.to) c.at.result.now) (λ (r : List ℕ). IsPairRow c.args.graph.now c.args.to r)
    (pairs_read c.args.graph.now c.args.levels.now c.args.calls.now c.args.to c.len.result c.in-Some.row c.number.result c.node-name.result.now c.reach.new.found c.at.result.now c.requires.levels c.requires.calls c.len.ensures
    c.node-name.ensures c.if-not-comes_out.ensures c.in-Some.ensures.row c.number.ensures c.reach.ensures.reached c.at.ensures)
    c.found_beginnings.ensures
