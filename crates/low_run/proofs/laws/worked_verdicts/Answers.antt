use Rattle.low_run.proofs.LeakChain.{leak_unclean, leak_unclean_graph}
use Rattle.low_run.proofs.WorkedClean.{worked_clean, worked_clean_graph}
use Rattle.low_run.proofs.laws.worked_verdicts.Goals as goal

pub returns-clause-clean_edges : goal.returns-clause-clean_edges
returns-clause-clean_edges c = worked_clean

pub returns-clause-clean_graph : goal.returns-clause-clean_graph
returns-clause-clean_graph c = worked_clean_graph

pub returns-clause-leak_edges : goal.returns-clause-leak_edges
returns-clause-leak_edges c = leak_unclean

pub returns-clause-leak_graph : goal.returns-clause-leak_graph
returns-clause-leak_graph c = leak_unclean_graph
