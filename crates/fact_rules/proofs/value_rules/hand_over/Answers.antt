use Rattle.std.proofs.Common.{get_or, sym}
use Rattle.jo_prog.specs.TypingPaths.{HasHeightAt}
use Rattle.dependence.specs.declared.flow.Place.TheVariants.{Local}
use Rattle.dependence.specs.declared.flows.Use.{Use}
use Rattle.fact_sets.specs.Seen.{Known, Listed, instance_seen}
use Rattle.fact_rules.specs.Adds.{From}
use Rattle.fact_rules.specs.Places.{instance_of}
use Rattle.fact_rules.specs.ValueSteps.{UseHands, HandsOver}
use Rattle.method_views.proofs.TableLemmas.{same_item}
use Rattle.fact_rules.proofs.AddsLemmas.{over_none, over_item, over_all, adds_alike}
use Rattle.fact_rules.proofs.ValueLemmas.{hands_over}
use Rattle.fact_rules.proofs.value_rules.hand_over.Goals as goal

pub loop-u-init : goal.loop-u-init
loop-u-init g c = λ list tells.
    let view = c.args.view.now in
    over_none c.at-u-items.result.now (UseHands view.program.now (Known list c.args.facts.now) (HasHeightAt view.program.now view.method) (instance_seen list (instance_of view.method c.args.context)) view.wide.now c.args.pc)
    (Listed list c.args.following.now.items)

pub hand_use-requires-clause-there : goal.hand_use-requires-clause-there
hand_use-requires-clause-there g c =
    let uses = c.at-u-items.result.now in
    let i = c.loop-u.u-index in
    let none : Use = record { node = 0; place = Local 0; from = 0 } in
    (c.at-u-items.ensures (get_or uses i none)).0 (i, c.loop-u-test.true, sym (same_item uses i none c.loop-u-test.true))

pub loop-u-preserved : goal.loop-u-preserved
loop-u-preserved g c = λ list tells.
    let view = c.args.view.now in
    let uses = c.at-u-items.result.now in
    let i = c.loop-u.u-index in
    let none : Use = record { node = 0; place = Local 0; from = 0 } in
    let u : Use = get_or uses i none in
    over_item uses (UseHands view.program.now (Known list c.args.facts.now) (HasHeightAt view.program.now view.method) (instance_seen list (instance_of view.method c.args.context)) view.wide.now c.args.pc)
    (Listed list c.args.following.now.items) (Listed list c.loop-u.following.items) (Listed list c.hand_use.new.following.items) i u c.loop-u-test.true (same_item uses i none c.loop-u-test.true)
    (c.loop-u.invariant list tells) (c.in_ok-hand_use.ensures list tells)

pub returns : goal.returns
returns g c = λ list tells.
    let view = c.args.view.now in
    let program = view.program.now in
    let H = HasHeightAt program view.method in
    let facts = Known list c.args.facts.now in
    let i = instance_seen list (instance_of view.method c.args.context) in
    let uses = c.at-u-items.result.now in
    let old = Listed list c.args.following.now.items in
    let new = Listed list c.loop-u.following.items in
    adds_alike old new (From uses (UseHands program facts H i view.wide.now c.args.pc)) (HandsOver program facts H i c.args.pc)
    (over_all uses (UseHands program facts H i view.wide.now c.args.pc) old new c.loop-u.u-index c.loop-u-test.false (c.loop-u.invariant list tells))
    (hands_over program view.method H view.wide.now c.requires.view.graph view.uses.now c.requires.view.uses c.args.n c.args.pc c.args.insn c.requires.at facts (list c.args.context) uses c.at-u-items.ensures)
