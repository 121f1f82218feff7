use Rattle.std.proofs.Common.{ℕ, List, subst, sym}
use Rattle.jo_graph.specs.Graphs.{HasEdge}
use Rattle.jo_prog.specs.TypingPaths.{HasHeightAt}
use Rattle.instance_flows.proofs.NullLemmas.{null_steps, no_edges}
use Rattle.instance_flows.proofs.nulls.null_graph.Goals as goal

pub returns-clause-edges : goal.returns-clause-edges
returns-clause-edges c =
    let program = c.args.program.now in
    let m = c.args.method in
    null_steps program m (HasHeightAt program m) c.args.wide.now c.in_ok-graph.graph c.add_givers.new.graph c.add_moves.new.graph c.args.uses.now
    (subst (λ (empty : List (List ℕ)). (x y : ℕ) → HasEdge empty x y → ⊥) (sym c.in_ok-graph.ensures) (no_edges c.args.len))
    c.in_ok-add_givers.ensures.edges c.in_ok-add_moves.ensures.edges
