use Rattle.std.proofs.Common.{◌≡◌, ◌⊎◌, Contains}
use Rattle.std.proofs.lemmas.Result.{on_ok_weaker}
use Rattle.dep_nodes.specs.declared.kinds.NodeKind.TheVariants.{RetVal, Throw, Value, Thrown}
use Rattle.dependence.specs.declared.facts.Fact.TheVariants.{Reached, Stalls}
use Rattle.fact_sets.specs.FactLists.{HasFact}
use Rattle.fact_rules.specs.CallRules.{HandsOn, IfHas, TargetGives}
use Rattle.fact_rules.proofs.AddsLemmas.{adds_more}
use Rattle.fact_rules.proofs.call_rules.add_target.Goals as goal

pub returns : goal.returns
returns g c =
    let has = HasFact c.args.facts.now in
    let i = c.args.caller.now in
    let j = c.args.target.now in
    let pc = c.args.pc in
    let s = Contains c.args.following.now.items in
    let t = Contains c.add.new.following.items in
    let u = Contains c.add_waiting.new.following.items in
    let v = Contains c.hand_on.new.following.items in
    let w = Contains c.hand_on-2.new.following.items in
    on_ok_weaker c.hand_on-2.result
    (λ last.
    adds_more s u w (λ f. (f ≡ Reached j) ⊎ IfHas has (Stalls j) (Stalls i) f) (λ f. HandsOn has j Value i (RetVal pc) f ⊎ HandsOn has j Thrown i (Throw pc) f) (TargetGives has i pc j)
    (adds_more s t u (λ f. f ≡ Reached j) (IfHas has (Stalls j) (Stalls i)) (λ f. (f ≡ Reached j) ⊎ IfHas has (Stalls j) (Stalls i) f) c.in_ok-add.ensures c.in_ok-add_waiting.ensures (λ f. (λ p. p, λ p. p)))
    (adds_more u v w (HandsOn has j Value i (RetVal pc)) (HandsOn has j Thrown i (Throw pc)) (λ f. HandsOn has j Value i (RetVal pc) f ⊎ HandsOn has j Thrown i (Throw pc) f) c.in_ok-hand_on.ensures last (λ f. (λ p. p, λ p. p)))
    (λ f. (λ p. p, λ p. p)))
    c.hand_on-2.ensures
