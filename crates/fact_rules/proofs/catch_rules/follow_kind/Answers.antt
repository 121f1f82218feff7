use Rattle.std.proofs.Common.{OnOk, sym, subst}
use Rattle.dep_nodes.specs.declared.kinds.NodeKind.{NodeKind}
use Rattle.fact_sets.specs.Seen.{instance_seen, Known}
use Rattle.fact_rules.specs.Additions.{AddsSeen}
use Rattle.fact_rules.specs.CatchRules.{CatchGives}
use Rattle.fact_rules.proofs.catch_rules.follow_kind.Goals as goal

pub returns-in-Throw : goal.returns-in-Throw
returns-in-Throw g c =
    subst
    (λ (kind : NodeKind).
    OnOk c.follow_throw.result
    (AddsSeen c.args.following.now.items c.follow_throw.new.following.items (λ list. CatchGives c.args.view.now.program.now (Known list c.args.facts.now) (instance_seen list c.args.key.now) kind)))
    (sym c.in-Throw.is) c.follow_throw.ensures
