use Rattle.std.proofs.Common.{◌≡◌, ℕ, List, OnOk, Option, Some, None, sym, subst}
use Rattle.std.proofs.lemmas.Result.{on_ok_weaker}
use Rattle.dependence.specs.declared.facts.InstKey.{InstKey}
use Rattle.fact_sets.specs.Seen.{Listed, instance_seen}
use Rattle.fact_rules.specs.Adds.{Adds}
use Rattle.fact_rules.specs.Callees.{entered}
use Rattle.fact_rules.specs.Places.{instance_of}
use Rattle.fact_rules.specs.declared.callees.Callee.{Callee}
use Rattle.fact_rules.specs.TargetRules.{StaticGivesIf}
use Rattle.fact_rules.proofs.AddsLemmas.{adds_alike}
use Rattle.fact_rules.proofs.TargetLemmas.{by_one, TargetIs}
use Rattle.fact_rules.proofs.target_rules.add_static.Goals as goal

pub returns : goal.returns
returns g c =
    let view = c.args.view.now in
    let program = view.program.now in
    let list = g.X.Contexts.list in
    let policy = g.X.Contexts.policy c.args.contexts.now in
    let i = instance_seen list (instance_of view.method c.args.context) in
    let pc = c.args.pc in
    let callee = c.in-Some.callee in
    let to = instance_seen list c.in-Some-entered_by.to in
    let old = Listed list c.args.following.now.items in
    let new = Listed list c.add_fact.new.following.items in
    subst (λ (x : Option Callee). OnOk c.add_fact.result (Adds old new (StaticGivesIf program policy i pc x))) (sym c.in-Some.is)
    (on_ok_weaker c.add_fact.result
    (λ adds.
    adds_alike old new (TargetIs i pc to) (λ f. (j : InstKey (List ℕ)) × (entered program policy i pc callee.method None ≡ Some j) × TargetIs i pc j f) (adds list g.met.X.Contexts.equal_lists)
    (by_one (entered program policy i pc callee.method None) to (TargetIs i pc) (sym c.in-Some-entered_by.ensures)))
    c.add_fact.ensures)
