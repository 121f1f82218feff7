use Rattle.std.proofs.Common.{◌≡◌, [], get_or, Contains, ◌∙◌, subst, arith}
use Rattle.std.proofs.lemmas.List.{get_or_read}
use Rattle.jo_graph.specs.Queues.{Follows}
use Rattle.jo_graph.proofs.GraphLemmas.{spreads_first, node_inside, spreads_more, reached}
use Rattle.jo_graph.proofs.spread.Goals as goal

pub loop-done-init : goal.loop-done-init
loop-done-init c = spreads_first c.args.graph.now c.args.found.now c.args.queue.now c.requires.room c.requires.first

pub follow-end-requires-clause-inside : goal.follow-end-requires-clause-inside
follow-end-requires-clause-inside c = λ n among.
    let graph = c.args.graph.now in
    let node = get_or c.loop-done.queue c.loop-done.done 0 in
    let within = node_inside graph (get_or c.args.queue.now 0 0) c.loop-done.found c.loop-done.queue c.loop-done.done c.loop-done.end c.loop-done.invariant c.loop-done-test.true in
    let same : c.as_slice.result.now ≡ get_or graph node [] = c.as_slice.ensures ∙ get_or_read graph node c.index-graph-node.result within c.index-graph-node.is [] in
    omega (arith, c.requires.inside node n (subst (λ ns. Contains ns n) same among), c.loop-done.invariant.same_length)

pub loop-done-preserved : goal.loop-done-preserved
loop-done-preserved c =
    let graph = c.args.graph.now in
    let node = get_or c.loop-done.queue c.loop-done.done 0 in
    let within = node_inside graph (get_or c.args.queue.now 0 0) c.loop-done.found c.loop-done.queue c.loop-done.done c.loop-done.end c.loop-done.invariant c.loop-done-test.true in
    let same : c.as_slice.result.now ≡ get_or graph node [] = c.as_slice.ensures ∙ get_or_read graph node c.index-graph-node.result within c.index-graph-node.is [] in
    spreads_more graph (get_or c.args.queue.now 0 0) c.loop-done.found c.loop-done.queue c.loop-done.done c.loop-done.end c.loop-done.invariant c.loop-done-test.true
    c.follow-end.new.found c.follow-end.new.queue c.follow-end.result
    (subst (λ ns. Follows ns c.loop-done.found c.loop-done.queue c.loop-done.end c.follow-end.new.found c.follow-end.new.queue c.follow-end.result) same c.follow-end.ensures)

pub returns : goal.returns
returns c = reached c.args.graph.now (get_or c.args.queue.now 0 0) c.loop-done.found c.loop-done.queue c.loop-done.done c.loop-done.end c.loop-done.invariant c.loop-done-test.false
