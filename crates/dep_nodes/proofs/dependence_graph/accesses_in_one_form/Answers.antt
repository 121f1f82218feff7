use Rattle.dep_nodes.proofs.CellLemmas.{plain_access}
use Rattle.dep_nodes.proofs.dependence_graph.accesses_in_one_form.Goals as goal

pub returns : goal.returns
returns c = plain_access
