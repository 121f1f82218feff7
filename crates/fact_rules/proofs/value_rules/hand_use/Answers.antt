use Rattle.std.proofs.Common.{◌≡◌, ◌↔◌, Some, subst}
use Rattle.std.proofs.lemmas.Result.{on_ok_weaker}
use Rattle.jo_prog.specs.TypingPaths.{HasHeightAt}
use Rattle.dep_nodes.specs.declared.kinds.NodeKind.{NodeKind}
use Rattle.fact_sets.specs.Seen.{Known, Listed, instance_seen}
use Rattle.fact_rules.specs.Places.{HandsTo, instance_of}
use Rattle.fact_rules.specs.ValueSteps.{TakenAs, UseHands}
use Rattle.fact_rules.proofs.AddsLemmas.{adds_none, adds_alike}
use Rattle.fact_rules.proofs.PlaceLemmas.{node_below, use_reads, use_from}
use Rattle.fact_rules.proofs.ValueLemmas.{none_hands, some_hands}
use Rattle.fact_rules.proofs.value_rules.hand_use.Goals as goal

pub taken_as-requires-clause-node : goal.taken_as-requires-clause-node
taken_as-requires-clause-node g c =
    let view = c.args.view.now in
    node_below view.program.now view.method (HasHeightAt view.program.now view.method) view.wide.now c.requires.view.graph c.args.n c.args.pc c.args.insn c.requires.at

pub taken_as-requires-clause-read : goal.taken_as-requires-clause-read
taken_as-requires-clause-read g c =
    let view = c.args.view.now in
    use_reads view.program.now view.method (HasHeightAt view.program.now view.method) view.wide.now c.requires.view.graph c.args.n c.args.pc c.args.insn c.requires.at view.uses.now c.requires.view.uses c.args.u.now c.requires.there

pub hand_to-requires-clause-from : goal.hand_to-requires-clause-from
hand_to-requires-clause-from g c =
    let view = c.args.view.now in
    use_from view.program.now view.method (HasHeightAt view.program.now view.method) view.wide.now c.requires.view.graph c.args.n c.args.pc c.args.insn c.requires.at view.uses.now c.requires.view.uses c.args.u.now c.requires.there

pub returns-in_default : goal.returns-in_default
returns-in_default g c = λ list tells.
    let view = c.args.view.now in
    let H = HasHeightAt view.program.now view.method in
    let facts = Known list c.args.facts.now in
    adds_none (Listed list c.args.following.now.items) (UseHands view.program.now facts H (instance_seen list (instance_of view.method c.args.context)) view.wide.now c.args.pc c.args.u.now)
    (none_hands view.program.now view.method H view.wide.now facts (list c.args.context) c.args.pc c.args.u.now (subst (λ r. (to : NodeKind) → (r ≡ Some to) ↔ TakenAs view.program.now view.method H c.args.pc c.args.u.now.place to) c.in_default.is c.taken_as.ensures))

pub returns : goal.returns
returns g c =
    let view = c.args.view.now in
    let H = HasHeightAt view.program.now view.method in
    on_ok_weaker c.hand_to.result
    (λ adds list tells.
    let facts = Known list c.args.facts.now in
    let i = instance_seen list (instance_of view.method c.args.context) in
    adds_alike (Listed list c.args.following.now.items) (Listed list c.hand_to.new.following.items) (HandsTo view.wide.now facts i c.args.u.now c.in-Some.to) (UseHands view.program.now facts H i view.wide.now c.args.pc c.args.u.now)
    (adds list tells) (some_hands view.program.now view.method H view.wide.now facts (list c.args.context) c.args.pc c.args.u.now c.in-Some.to c.in-Some.ensures))
    c.hand_to.ensures
