use Rattle.control_dep.proofs.WayLemmas.{one_successor, one_next, no_way_out}
use Rattle.control_dep.proofs.laws.next_node.Goals as goal

pub returns : goal.returns
returns g c = record {
  one_successor = one_successor g.N.ChosenNodes.leads g.N.ChosenNodes.ends g.N.ChosenNodes.chosen g.N.ChosenNodes.compared;
  one_next = one_next g.N.ChosenNodes.leads g.N.ChosenNodes.ends g.N.ChosenNodes.chosen g.N.ChosenNodes.compared;
  no_way_out = no_way_out g.N.ChosenNodes.leads g.N.ChosenNodes.ends g.N.ChosenNodes.chosen g.N.ChosenNodes.compared g.N.ChosenNodes.ends_lead_nowhere;
}
