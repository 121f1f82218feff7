use Rattle.std.proofs.Common.{◌≡◌, ◌++◌, ◌∷◌, [], None, rules}
use Rattle.jo_policy.proofs.Tables.{one_none}
use Rattle.jo_policy.proofs.labelling.no_labels.Goals as goal

pub loop-place-preserved : goal.loop-place-preserved
loop-place-preserved c =
    let pushed : c.push.new.self.items ≡ c.loop-place.labels.items ++ None ∷ [] = search rules in
    one_none c.args.count c.loop-place.place c.loop-place.labels.items c.push.new.self.items c.loop-place-test.true pushed c.loop-place.invariant
