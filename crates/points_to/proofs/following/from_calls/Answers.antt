use Rattle.std.proofs.Common.{subst}
use Rattle.fact_sets.specs.Seen.{Known, Listed}
use Rattle.fact_rules.specs.Adds.{Adds}
use Rattle.fact_rules.specs.CallRules.{ByCall}
use Rattle.points_to.proofs.AdvanceLemmas.{lists_those}
use Rattle.points_to.proofs.following.from_calls.Goals as goal

pub returns : goal.returns
returns g c =
    let list = g.X.Contexts.list in
    let items = c.follow_calls.new.following.items in
    lists_those list items (ByCall (Known list c.args.facts.now))
    (subst (λ xs. Adds (Listed list xs) (Listed list items) (ByCall (Known list c.args.facts.now))) c.new-following.ensures.items (c.in_ok-follow_calls.ensures list g.met.X.Contexts.equal_lists))
