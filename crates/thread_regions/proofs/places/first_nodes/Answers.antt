use Rattle.std.proofs.Common.{◌≡◌, ℕ, map, length, Some, slice_get, option_map, subst, arith}
use Rattle.std.proofs.lemmas.List.{length-map}
use Rattle.std.specs.HashMap.{get}
use Rattle.dep_nodes.specs.declared.dependence_graph.GraphNode.{GraphNode}
use Rattle.thread_regions.specs.Places.{place_of, same_place}
use Rattle.thread_regions.proofs.FirstLemmas.{known_step}
use Rattle.thread_regions.proofs.PlaceLemmas.{place_equal, place_reflexive, place_listed, are_firsts}
use Rattle.thread_regions.proofs.places.first_nodes.Goals as goal

pub loop-n-preserved : goal.loop-n-preserved
loop-n-preserved c =
    let nodes = c.args.graph.now in
    let group = c.args.group in
    let keys = map (λ (one : GraphNode). place_of group one.name) nodes in
    let place = c.make_place-place.result in
    let at : slice_get keys c.loop-n.n ≡ Some place =
    place_listed group nodes c.loop-n.n c.node.result.now place
    (subst (λ (k : ℕ). option_map (λ (x : GraphNode). x.name) (slice_get nodes k) ≡ Some c.node.result.now) c.of.ensures c.node.ensures) c.make_place-place.ensures in
    rw c.in_ok-push.ensures.items
    (known_step same_place place_equal place_reflexive keys (get same_place c.loop-n.known) (get same_place c.note.new.known) c.loop-n.firsts.items c.loop-n.n c.in_ok-first.first place at
    c.in_ok-first.ensures.first_is c.in_ok-first.ensures.each c.loop-n.invariant)

pub returns : goal.returns
returns c =
    let nodes = c.args.graph.now in
    let keys = map (λ (one : GraphNode). place_of c.args.group one.name) nodes in
    let all : c.loop-n.n ≡ length keys = omega (arith, length-map nodes (λ (one : GraphNode). place_of c.args.group one.name), c.len-n-end.ensures, c.loop-n-test.false, c.loop-n.auto.n-end) in
    are_firsts keys (get same_place c.loop-n.known) c.loop-n.firsts.items c.loop-n.n all c.loop-n.invariant
