use Rattle.low_run.proofs.CleanRuns.{clean_secure}
use Rattle.low_run.proofs.Verdicts.{clean_graph_secure}
use Rattle.low_run.proofs.laws.clean_is_secure.Goals as goal

pub returns-clause-graph : goal.returns-clause-graph
returns-clause-graph c = λ program labels graph plain whole clean. clean_graph_secure program labels plain (graph, whole, clean)

pub returns-clause-edges : goal.returns-clause-edges
returns-clause-edges c = clean_secure
