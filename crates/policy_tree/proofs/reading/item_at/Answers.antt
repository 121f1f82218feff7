use Rattle.policy_tree.proofs.Pairs.{item_lent}
use Rattle.policy_tree.proofs.reading.item_at.Goals as goal

pub returns : goal.returns
returns c = item_lent c.args.values.now c.args.place c.get.result c.get.ensures.lookup
