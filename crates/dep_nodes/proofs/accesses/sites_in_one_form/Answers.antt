use Rattle.std.proofs.Common.{arith}
use Rattle.dep_nodes.proofs.OneFormLemmas.{plain_of_none, plain_of_one, plain_of_two}
use Rattle.dep_nodes.proofs.accesses.sites_in_one_form.Goals as goal

pub returns-then-len-eq0 : goal.returns-then-len-eq0
returns-then-len-eq0 c = plain_of_none c.args.sites.now.len c.args.sites.now.first c.args.sites.now.second _ _ c.if-len-eq0.true c.of.ensures c.of-then-len-eq0.ensures

pub returns-then-len-eq1 : goal.returns-then-len-eq1
returns-then-len-eq1 c = plain_of_one c.args.sites.now.len c.args.sites.now.first c.args.sites.now.second _ c.if-len-eq1.true c.of-then-len-eq1.ensures

pub returns : goal.returns
returns c = plain_of_two c.args.sites.now.len c.args.sites.now.first c.args.sites.now.second (omega (arith, c.if-len-eq0.false, c.if-len-eq1.false))
