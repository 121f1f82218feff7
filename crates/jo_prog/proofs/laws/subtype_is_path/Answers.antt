use Rattle.jo_prog.proofs.HierarchyLemmas.{subtype_along, subtype_every}
use Rattle.jo_prog.proofs.laws.subtype_is_path.Goals as goal

pub returns-clause-along : goal.returns-clause-along
returns-clause-along c = subtype_along

pub returns-clause-every : goal.returns-clause-every
returns-clause-every c = subtype_every
