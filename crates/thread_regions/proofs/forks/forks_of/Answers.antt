use Rattle.std.proofs.Common.{◌≡◌, ℕ, Some, slice_get, option_map, Result, Ok, Err, IfOk, subst, arith}
use Rattle.dep_nodes.specs.declared.dependence_graph.GraphNode.{GraphNode}
use Rattle.thread_regions.proofs.ForkLemmas.{marked_node, forks_are}
use Rattle.thread_regions.proofs.forks.forks_of.Goals as goal

if_ok_also : {A E : Type 0} (P Q : A → Type 0) (r : Result A E) → ((a : A) → P a → Q a) → IfOk r P → IfOk r Q
if_ok_also P Q (Ok a) f h = f a h
if_ok_also P Q (Err e) f h = tt

pub loop-n-preserved : goal.loop-n-preserved
loop-n-preserved c =
    let nodes = c.args.graph.now in
    let edges = c.edges_into.result.now in
    marked_node nodes c.loop-n.forks c.mark_forks.new.forks c.loop-n.n edges
    (subst (λ (k : ℕ). option_map (λ (x : GraphNode). x.edges) (slice_get nodes k) ≡ Some edges) c.of.ensures c.edges_into.ensures.edges) c.loop-n.invariant c.mark_forks.ensures

pub returns : goal.returns
returns c =
    if_ok_also _ _ c.numbers_of.result
    (λ numbers are. forks_are c.args.graph.now c.loop-n.forks numbers c.loop-n.n (omega (arith, c.loop-n-test.false, c.len-n-end.ensures)) c.loop-n.invariant are) c.numbers_of.ensures
