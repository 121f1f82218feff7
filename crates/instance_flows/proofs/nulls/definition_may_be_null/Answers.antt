use Rattle.instance_flows.proofs.NullLemmas.{kind_says}
use Rattle.instance_flows.proofs.nulls.definition_may_be_null.Goals as goal

pub has-requires : goal.has-requires
has-requires c = c.requires.null.enough c.args.from (c.node.result.now).kind (kind_says c.args.wide.now c.args.from c.node.result.now c.node.ensures)
