use Rattle.std.proofs.Common.{◌≡◌, Contains, OnOk, sym, subst}
use Rattle.std.proofs.lemmas.Result.{on_ok_weaker}
use Rattle.dependence.specs.declared.facts.Fact.TheVariants.{Reached}
use Rattle.fact_sets.specs.FactLists.{HasFact}
use Rattle.fact_rules.specs.Adds.{Adds}
use Rattle.fact_rules.specs.CallRules.{CallGives, TargetGives}
use Rattle.fact_rules.proofs.AddsLemmas.{adds_alike}
use Rattle.fact_rules.proofs.call_rules.add_from.Goals as goal

pub returns-else-not-runs : goal.returns-else-not-runs
returns-else-not-runs g c =
    let has = HasFact c.args.facts.now in
    let s = Contains c.args.following.now.items in
    let t = Contains c.add_target.new.following.items in
    let gives = TargetGives has c.in-Target.caller c.in-Target.pc c.in-Target.target in
    subst (λ fact. OnOk c.add_target.result (Adds s t (CallGives has fact))) (sym c.in-Target.is)
    (on_ok_weaker c.add_target.result
    (λ adds. adds_alike s t gives (λ f. has (Reached c.in-Target.caller) × gives f) adds (λ f. (λ p. (c.runs.ensures.0 c.if-not-runs.false, p), λ q. q.1))) c.add_target.ensures)

pub returns-else-not-runs-2 : goal.returns-else-not-runs-2
returns-else-not-runs-2 g c =
    let has = HasFact c.args.facts.now in
    let s = Contains c.args.following.now.items in
    let t = Contains c.add.new.following.items in
    subst (λ fact. OnOk c.add.result (Adds s t (CallGives has fact))) (sym c.in-Fork.is)
    (on_ok_weaker c.add.result
    (λ adds.
    adds_alike s t (λ f. f ≡ Reached c.in-Fork.target) (λ f. has (Reached c.in-Fork.caller) × (f ≡ Reached c.in-Fork.target)) adds
    (λ f. (λ p. (c.runs-in-Fork.ensures.0 c.if-not-runs-2.false, p), λ q. q.1))) c.add.ensures)
