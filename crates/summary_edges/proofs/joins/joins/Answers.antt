use Rattle.std.proofs.Common.{[], ◌≡◌, ◌-◌, List, length, Contains, sym, subst, arith}
use Rattle.summary_edges.specs.declared.joins.Join.{Join}
use Rattle.summary_edges.specs.Adds.{Adds, FromBelow}
use Rattle.summary_edges.specs.Levels.{JoinsOut}
use Rattle.summary_edges.proofs.AddsLemmas.{adds_alike, below_none, below_step, below_turned}
use Rattle.summary_edges.proofs.JoinLemmas.{all_joins}
use Rattle.summary_edges.proofs.joins.joins.Goals as goal

pub loop-k-init : goal.loop-k-init
loop-k-init c =
    subst (λ (items : List Join). Adds (Contains []) (Contains items) (FromBelow 0 (λ k. JoinsOut c.args.graph.now c.args.sides.now (length c.args.graph.now - 1 - k)))) (sym c.new-joins.ensures.items)
    (below_none (Contains []) (λ k. JoinsOut c.args.graph.now c.args.sides.now (length c.args.graph.now - 1 - k)))

pub loop-k-preserved : goal.loop-k-preserved
loop-k-preserved c =
    let e : c.of.result ≡ length c.args.graph.now - 1 - c.loop-k.k = omega arith in
    below_step (Contains []) (Contains c.loop-k.joins.items) (Contains c.join_returns.new.joins.items) c.loop-k.k (λ k. JoinsOut c.args.graph.now c.args.sides.now (length c.args.graph.now - 1 - k)) c.loop-k.invariant
    (subst (λ m. Adds (Contains c.loop-k.joins.items) (Contains c.join_returns.new.joins.items) (JoinsOut c.args.graph.now c.args.sides.now m)) e c.in_ok-join_returns.ensures)

pub returns : goal.returns
returns c =
    let all : c.loop-k.k ≡ length c.args.graph.now = omega arith in
    all_joins c.args.graph.now c.args.sides.now c.requires.openings c.requires.returns c.requires.calls (Contains c.loop-k.joins.items)
    (adds_alike (Contains []) (Contains c.loop-k.joins.items) (FromBelow (length c.args.graph.now) (λ m. JoinsOut c.args.graph.now c.args.sides.now (length c.args.graph.now - 1 - m))) (FromBelow (length c.args.graph.now) (JoinsOut c.args.graph.now c.args.sides.now))
    (subst (λ n. Adds (Contains []) (Contains c.loop-k.joins.items) (FromBelow n (λ m. JoinsOut c.args.graph.now c.args.sides.now (length c.args.graph.now - 1 - m)))) all c.loop-k.invariant)
    (below_turned (length c.args.graph.now) (JoinsOut c.args.graph.now c.args.sides.now)))
