use Rattle.std.proofs.Common.{◌⊎◌, Some, ap, ◌∙◌}
use Rattle.std.proofs.lemmas.Result.{on_ok_weaker}
use Rattle.jo_prog.specs.TypingPaths.{HasHeightAt}
use Rattle.dep_nodes.specs.declared.kinds.NodeKind.TheVariants.{Arg}
use Rattle.fact_sets.specs.Seen.{Known, Listed, instance_seen}
use Rattle.method_views.proofs.NodeLemmas.{kind_says}
use Rattle.fact_rules.specs.Places.{instance_of}
use Rattle.fact_rules.specs.TargetRules.{InsnGives, TargetsGive, NodeGives}
use Rattle.fact_rules.proofs.AddsLemmas.{adds_alike}
use Rattle.fact_rules.proofs.ListLevel.{adds_both}
use Rattle.fact_rules.proofs.NamedLemmas.{known_there}
use Rattle.fact_rules.proofs.TargetLemmas.{below_end, node_gives}
use Rattle.fact_rules.proofs.target_rules.follow_node.Goals as goal

pub returns : goal.returns
returns g c =
    let view = c.args.view.now in
    let program = view.program.now in
    let H = HasHeightAt program view.method in
    let list = g.X.Contexts.list in
    let tells = g.met.X.Contexts.equal_lists in
    let policy = g.X.Contexts.policy c.args.contexts.now in
    let lists = c.args.facts.now in
    let facts = Known list lists in
    let own = instance_of view.method c.args.context in
    let i = instance_seen list own in
    let node = c.node-node.result.now in
    let pc = c.in-Call.pc in
    let end = c.end_of-end.result in
    let old = Listed list c.args.following.now.items in
    let middle = Listed list c.follow_insn.new.following.items in
    let new = Listed list c.follow_arguments.new.following.items in
    on_ok_weaker c.follow_arguments.result
    (λ last.
    adds_alike old new (λ f. InsnGives program facts i pc policy node.insn node.method f ⊎ TargetsGive program facts i pc end f) (NodeGives program facts i policy view.wide.now c.args.n)
    (adds_both old middle new (InsnGives program facts i pc policy node.insn node.method) (TargetsGive program facts i pc end) c.in_ok-follow_insn.ensures (last list tells))
    (node_gives program facts i policy view.wide.now c.args.n node c.node-node.ensures pc c.in-Call.is end
    (λ k o has. below_end program H view.method view.wide.now c.requires.view.graph c.args.n pc k end c.reads.result.now c.reads.ensures.reads c.end_of-end.ensures
    (kind_says view.wide.now c.args.n node c.node-node.ensures ∙ ap Some c.in-Call.is) (known_there list tells lists program c.requires.nodes c.args.instance own (Arg pc k) o c.instances-count.ensures.once c.requires.named has))))
    c.follow_arguments.ensures
