use Rattle.std.proofs.Common.{◌≡◌, [], ◌∷◌, Contains}
use Rattle.dependence.specs.declared.flow.Place.TheVariants.{Local}
use Rattle.dependence.proofs.FlowLemmas.{if_ok}
use Rattle.flow_graph.proofs.AddingLemmas.{adds_item}
use Rattle.flow_graph.proofs.node_places.add_local.Goals as goal

pub returns-in-Some : goal.returns-in-Some
returns-in-Some c = if_ok c.add.result _ _ (λ appends. rw c.in-Some.is (adds_item c.args.places.now c.add.new.self (Local c.in-Some.k) appends)) c.add.ensures.ok
