use Rattle.std.proofs.Common.{◌≡◌}
use Rattle.dep_nodes.specs.Nodes.{node_named}
use Rattle.dep_nodes.specs.NumberedChains.{name_at}
use Rattle.slicer.proofs.SearchLemmas.{name_is, edge_more, edge_all}
use Rattle.slicer.proofs.search.go_back.Goals as goal

pub returns-in-Some-clause-more : goal.returns-in-Some-clause-more
returns-in-Some-clause-more c =
    let nodes = c.args.graph.now in
    let begin : name_at nodes c.args.edge.0 ≡ node_named c.node.result.now = name_is nodes c.args.edge.0 c.node.result.now c.node.ensures in
    let end : name_at nodes c.args.place.now.node ≡ node_named c.node-2.result.now = name_is nodes c.args.place.now.node c.node-2.result.now c.node-2.ensures in
    edge_more nodes c.args.number c.args.place.now c.args.finds.now.found c.add.new.self.found c.args.edge.0 c.args.edge.1 c.in-Some.phase c.node.result.now c.node-2.result.now begin end c.in-Some.ensures
    c.add.ensures.added c.requires.edge

pub returns-in-Some-clause-all : goal.returns-in-Some-clause-all
returns-in-Some-clause-all c =
    let nodes = c.args.graph.now in
    let begin : name_at nodes c.args.edge.0 ≡ node_named c.node.result.now = name_is nodes c.args.edge.0 c.node.result.now c.node.ensures in
    let end : name_at nodes c.args.place.now.node ≡ node_named c.node-2.result.now = name_is nodes c.args.place.now.node c.node-2.result.now c.node-2.ensures in
    edge_all nodes c.args.number c.args.place.now c.args.finds.now.found c.add.new.self.found c.args.edge.0 c.args.edge.1 c.in-Some.phase c.node.result.now c.node-2.result.now begin end c.in-Some.ensures
    c.add.ensures.added
