use Rattle.std.proofs.Common.{◌≡◌, get_or, ◌∙◌, arith}
use Rattle.std.proofs.lemmas.List.{get_or_read}
use Rattle.slicer.proofs.SearchLemmas.{pass_more, pass_all, pass_each}
use Rattle.slicer.proofs.search.follow_passes.Goals as goal

pub loop-node-preserved : goal.loop-node-preserved
loop-node-preserved c =
    let i = c.loop-node.node-index in
    let nodes = c.args.nodes.now in
    let mid = c.loop-node.finds.found in
    let new = c.add.new.self.found in
    let is : c.node-item.result ≡ get_or nodes i 0 = get_or_read nodes i c.node-item.result c.loop-node-test.true c.node-item.is 0 in
    record {
      count = c.add.ensures.count ∙ c.loop-node.invariant.count;
      more = pass_more nodes c.args.number c.args.place.now mid new i c.node-item.result c.loop-node-test.true is c.add.ensures.added c.args.finds.now.found c.loop-node.invariant.more;
      all = pass_all nodes c.args.number c.args.place.now mid new i c.node-item.result c.loop-node-test.true is c.add.ensures.added c.loop-node.invariant.all;
    }

pub returns-clause-all : goal.returns-clause-all
returns-clause-all c = pass_each c.args.nodes.now c.args.place.now c.loop-node.finds.found (λ k below. c.loop-node.invariant.all k (omega (arith, below)))
