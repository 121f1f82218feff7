use Rattle.conflicts.proofs.ClashLemmas.{data_of_cells}
use Rattle.conflicts.proofs.finding.data_at.Goals as goal

pub returns : goal.returns
returns c = data_of_cells c.args.graph.now c.cells.result.now c.cells.ensures c.args.regions.now c.args.leads.now c.data_among.result c.data_among.ensures
