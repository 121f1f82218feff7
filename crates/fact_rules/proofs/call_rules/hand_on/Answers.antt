use Rattle.std.proofs.Common.{Contains}
use Rattle.std.proofs.lemmas.Result.{on_ok_weaker}
use Rattle.fact_sets.specs.FactLists.{HasFact}
use Rattle.fact_rules.specs.Adds.{From}
use Rattle.fact_rules.specs.Additions.{SaysHeld}
use Rattle.fact_rules.specs.CallRules.{HandsOn}
use Rattle.fact_rules.proofs.AddsLemmas.{adds_alike}
use Rattle.fact_rules.proofs.KeptLemmas.{hands_on}
use Rattle.fact_rules.proofs.call_rules.hand_on.Goals as goal

pub returns : goal.returns
returns g c =
    let objects = c.held_by.result.now in
    let lists = c.args.facts.now in
    on_ok_weaker c.add_held.result
    (λ adds.
    adds_alike (Contains c.args.following.now.items) (Contains c.add_held.new.following.items) (From objects (SaysHeld lists.objects c.args.to.now c.args.to_kind))
    (HandsOn (HasFact lists) c.args.from.now c.args.from_kind c.args.to.now c.args.to_kind) adds
    (hands_on lists objects c.args.from.now c.args.to.now c.args.from_kind c.args.to_kind c.held_by.ensures.each))
    c.add_held.ensures
