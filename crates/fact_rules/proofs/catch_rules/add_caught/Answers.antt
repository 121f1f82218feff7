use Rattle.std.proofs.Common.{◌≡◌, ℕ, OnOk, Option, sym, subst}
use Rattle.std.proofs.lemmas.Result.{on_ok_weaker}
use Rattle.dep_nodes.specs.declared.kinds.NodeKind.TheVariants.{Thrown}
use Rattle.dependence.specs.declared.facts.Fact.TheVariants.{Holds, Throws}
use Rattle.fact_sets.specs.Seen.{instance_seen, object_seen, Listed}
use Rattle.fact_rules.specs.Additions.{AddsSeen}
use Rattle.fact_rules.specs.CatchRules.{GoesTo}
use Rattle.fact_rules.proofs.ListLevel.{adds_both}
use Rattle.fact_rules.proofs.catch_rules.add_caught.Goals as goal

pub returns-in-Some : goal.returns-in-Some
returns-in-Some g c =
    subst
    (λ (row : Option ℕ).
    OnOk c.add_fact.result (AddsSeen c.args.following.now.items c.add_fact.new.following.items (λ list. GoesTo (instance_seen list c.args.key.now) row (object_seen list c.args.object.now))))
    (sym c.in-Some.is) c.add_fact.ensures

pub returns-in_ok-add_fact-in-None : goal.returns-in_ok-add_fact-in-None
returns-in_ok-add_fact-in-None g c =
    let key = c.args.key.now in
    let object = c.args.object.now in
    let old = c.args.following.now.items in
    let middle = c.add_fact-in-None.new.following.items in
    let new = c.add_fact-in-None-2.new.following.items in
    subst (λ (row : Option ℕ). OnOk c.add_fact-in-None-2.result (AddsSeen old new (λ list. GoesTo (instance_seen list key) row (object_seen list object)))) (sym c.in-None.is)
    (on_ok_weaker c.add_fact-in-None-2.result
    (λ last list tells.
    adds_both (Listed list old) (Listed list middle) (Listed list new) (λ f. f ≡ Holds (instance_seen list key) Thrown (object_seen list object)) (λ f. f ≡ Throws (instance_seen list key))
    (c.in_ok-add_fact-in-None.ensures list tells) (last list tells)) c.add_fact-in-None-2.ensures)
