use Rattle.std.proofs.Common.{ℕ, subst}
use Rattle.jo_graph.specs.Graphs.{IsReach}
use Rattle.jo_prog.specs.TypingPaths.{HasHeightAt}
use Rattle.instance_flows.proofs.NullLemmas.{nulls_are}
use Rattle.instance_flows.proofs.nulls.nulls_of.Goals as goal

pub returns : goal.returns
returns c =
    let program = c.args.program.now in
    let m = c.args.method in
    nulls_are program m (HasHeightAt program m) c.args.wide.now c.requires.graph c.args.uses.now c.requires.uses c.in_ok-graph.graph c.reach.new.found
    c.in_ok-graph.ensures.edges c.in_ok-graph.ensures.room (subst (λ (n : ℕ). IsReach c.in_ok-graph.graph n c.reach.new.found) c.len-2.ensures c.reach.ensures.reached)
