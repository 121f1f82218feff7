use Rattle.dep_nodes.proofs.OnceLemmas.{contains_at, told_yes, told_no}
use Rattle.dep_nodes.proofs.once_lists.OnceList.has.Goals as goal

pub returns-in-Some : goal.returns-in-Some
returns-in-Some g c = told_yes (contains_at _ _ _ c.in-Some.ensures.found)

pub returns-in-None : goal.returns-in-None
returns-in-None g c = told_no c.in-None.ensures.absent
