use Rattle.std.proofs.Common.{◌≡◌, Contains}
use Rattle.std.proofs.lemmas.Result.{on_ok_weaker}
use Rattle.dependence.specs.declared.facts.Fact.TheVariants.{Stalls}
use Rattle.fact_sets.specs.FactLists.{HasFact}
use Rattle.fact_rules.specs.CallRules.{IfHas}
use Rattle.fact_rules.proofs.AddsLemmas.{adds_alike}
use Rattle.fact_rules.proofs.call_rules.add_waiting.Goals as goal

pub returns-then-stalls : goal.returns-then-stalls
returns-then-stalls g c =
    on_ok_weaker c.add.result
    (λ adds.
    adds_alike (Contains c.args.following.now.items) (Contains c.add.new.following.items) (λ f. f ≡ Stalls c.args.caller.now)
    (IfHas (HasFact c.args.facts.now) (Stalls c.args.target.now) (Stalls c.args.caller.now)) adds (λ f. (λ e. (c.stalls.ensures.0 c.if-stalls.true, e), λ p. p.1)))
    c.add.ensures
