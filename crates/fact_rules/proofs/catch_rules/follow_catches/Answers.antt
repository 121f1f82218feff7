use Rattle.std.proofs.Common.{◌≡◌, length, sym, subst, arith}
use Rattle.dep_nodes.specs.declared.kinds.NodeKind.TheVariants.{Throw}
use Rattle.jo_prog.specs.TypingPaths.{HasHeightAt}
use Rattle.dependence.specs.GraphsAsData.{IsWideGraph}
use Rattle.fact_sets.specs.Seen.{instance_seen, Known, Listed}
use Rattle.method_views.specs.InstanceRules.{ByCatch}
use Rattle.method_views.proofs.NodeLemmas.{kind_says}
use Rattle.fact_rules.specs.Adds.{Adds, FromBelow}
use Rattle.fact_rules.specs.CatchRules.{CatchGives}
use Rattle.fact_rules.proofs.AddsLemmas.{adds_alike, below_none, below_step}
use Rattle.fact_rules.proofs.CatchLemmas.{CatchGivesAt, catch_at, catches_by_nodes}
use Rattle.fact_rules.proofs.ListLevel.{same_instance_named}
use Rattle.fact_rules.proofs.NamedLemmas.{known_there}
use Rattle.fact_rules.proofs.catch_rules.follow_catches.Goals as goal

pub loop-n-init : goal.loop-n-init
loop-n-init g c = λ list tells.
    below_none (Listed list c.args.following.now.items) (CatchGivesAt c.args.view.now.program.now (Known list c.args.facts.now) (instance_seen list c.instance-key.result) c.args.view.now.wide.now)

pub loop-n-preserved : goal.loop-n-preserved
loop-n-preserved g c = λ list tells.
    let view = c.args.view.now in
    let facts = Known list c.args.facts.now in
    let i = instance_seen list c.instance-key.result in
    let n = c.loop-n.n in
    let t = Listed list c.loop-n.following.items in
    let u = Listed list c.follow_kind.new.following.items in
    let node = c.node.result.now in
    below_step (Listed list c.args.following.now.items) t u n (CatchGivesAt view.program.now facts i view.wide.now) (c.loop-n.invariant list tells)
    (adds_alike t u (CatchGives view.program.now facts i node.kind) (CatchGivesAt view.program.now facts i view.wide.now n) (c.in_ok-follow_kind.ensures list tells)
    (catch_at view.program.now facts i view.wide.now n node.kind (kind_says view.wide.now n node c.node.ensures)))

pub returns : goal.returns
returns g c = λ list key policy tells named.
    let view = c.args.view.now in
    let program = view.program.now in
    let lists = c.args.facts.now in
    let facts = Known list lists in
    let own = c.instance-key.result in
    let i = instance_seen list key in
    let height = HasHeightAt program view.method in
    let s = Listed list c.args.following.now.items in
    let t = Listed list c.loop-n.following.items in
    let same : own ≡ key = same_instance_named list lists.instances c.args.instance own key c.instance-key.ensures named in
    let all : c.loop-n.n ≡ length view.wide.now = omega (arith, c.len-n-end.ensures, c.loop-n-test.false, c.loop-n.auto.n-end) in
    let adds : Adds s t (FromBelow (length view.wide.now) (CatchGivesAt program facts i view.wide.now)) =
    subst (λ n. Adds s t (FromBelow n (CatchGivesAt program facts i view.wide.now))) all
    (subst (λ k. Adds s t (FromBelow c.loop-n.n (CatchGivesAt program facts (instance_seen list k) view.wide.now))) same (c.loop-n.invariant list tells)) in
    let graph : IsWideGraph program key.method height view.wide.now = subst (λ m. IsWideGraph program m height view.wide.now) (sym (c.requires.method key named)) c.requires.view.graph in
    adds_alike s t (FromBelow (length view.wide.now) (CatchGivesAt program facts i view.wide.now)) (ByCatch program policy facts height i) adds
    (catches_by_nodes program policy facts height i view.wide.now graph
    (λ pc o has. known_there list tells lists program c.requires.nodes c.args.instance key (Throw pc) o c.instances-count.ensures.once named has))
