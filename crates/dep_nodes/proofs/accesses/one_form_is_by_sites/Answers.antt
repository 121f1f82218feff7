use Rattle.std.proofs.Common.{ap}
use Rattle.dep_nodes.specs.OneForm.{plain_list}
use Rattle.dep_nodes.proofs.OneFormLemmas.{sites_kept}
use Rattle.dep_nodes.proofs.accesses.one_form_is_by_sites.Goals as goal

pub returns-clause-kept : goal.returns-clause-kept
returns-clause-kept c = sites_kept

pub returns-clause-one : goal.returns-clause-one
returns-clause-one c = λ a b same. ap plain_list same
