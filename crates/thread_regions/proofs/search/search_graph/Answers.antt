use Rattle.std.proofs.Common.{◌≡◌, ℕ, ◌*◌, List, [], length, replicate, subst, below_more, arith}
use Rattle.thread_regions.specs.Searches.{AddsSpots, NodePart}
use Rattle.thread_regions.proofs.SpotLemmas.{below_step, searches}
use Rattle.thread_regions.proofs.search.search_graph.Goals as goal

pub loop-n-preserved : goal.loop-n-preserved
loop-n-preserved c =
    let nodes = c.args.graph.now in
    let ends = c.in_ok-ends.ends.items in
    let calls = c.in_ok-calls.calls.items in
    let n = c.loop-n.n in
    let new = c.add_node.new.search in
    let adds : AddsSpots c.loop-n.search new (NodePart nodes ends calls n) =
    subst (λ (xs : List ℕ). AddsSpots c.loop-n.search new (NodePart nodes ends xs n)) c.as_slice-in-loop-n.ensures.value
    (subst (λ (xs : List ℕ). AddsSpots c.loop-n.search new (NodePart nodes xs c.as_slice-in-loop-n.result.now n)) c.as_slice.ensures.value c.in_ok-add_node.ensures.adds) in
    record {
      adds = below_step nodes ends calls (replicate {A = List ℕ} (5 * length nodes) []) c.loop-n.search new n c.loop-n.invariant.adds adds;
      inside = below_more _ _ c.loop-n.invariant.inside c.in_ok-add_node.ensures.inside;
    }

pub returns : goal.returns
returns c =
    let all : length c.args.graph.now ≡ c.loop-n.n = omega (arith, c.loop-n-test.false, c.len-n-end.ensures, c.loop-n.auto.n-end) in
    searches c.args.graph.now c.in_ok-ends.ends.items c.in_ok-calls.calls.items c.loop-n.search c.loop-n.n (record { ends_are = c.in_ok-ends.ensures; calls_are = c.in_ok-calls.ensures }) all
    c.loop-n.invariant.adds c.loop-n.invariant.inside
