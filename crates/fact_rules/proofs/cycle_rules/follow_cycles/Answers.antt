use Rattle.std.proofs.Common.{◌↔◌, ℕ, length, subst}
use Rattle.std.proofs.lemmas.Result.{on_ok_weaker}
use Rattle.jo_graph.specs.Graphs.{HasEdge}
use Rattle.fact_rules.specs.CycleRules.{IsCallEdge}
use Rattle.fact_rules.proofs.CycleLemmas.{all_cycles}
use Rattle.fact_rules.proofs.cycle_rules.follow_cycles.Goals as goal

pub returns : goal.returns
returns g c =
    let lists = c.args.facts.now in
    let graph = c.in_ok-calls.calls in
    let edges : (x y : ℕ) → HasEdge graph x y ↔ IsCallEdge lists (length lists.instances) x y =
    subst (λ (n : ℕ). (x y : ℕ) → HasEdge graph x y ↔ IsCallEdge lists n x y) c.instances-count.ensures.count c.in_ok-calls.ensures.edges in
    on_ok_weaker c.add_recurring.result
    (λ adds list tells. all_cycles list tells lists c.names_once.ensures graph edges c.args.following.now.items c.add_recurring.new.following.items adds) c.add_recurring.ensures
