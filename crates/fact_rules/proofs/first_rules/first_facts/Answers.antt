use Rattle.std.proofs.Common.{◌≡◌, ◌⊎◌, [], length, ap, rules}
use Rattle.std.proofs.lemmas.Result.{on_ok_weaker}
use Rattle.dependence.specs.declared.facts.Fact.TheVariants.{Reached}
use Rattle.dependence.specs.FactRules.{instance_at}
use Rattle.fact_sets.specs.Seen.{Listed, instance_seen}
use Rattle.fact_rules.specs.Adds.{FromBelow}
use Rattle.fact_rules.specs.FirstRules.{ByFirst, EntryGives, FieldGives}
use Rattle.fact_rules.proofs.AddsLemmas.{adds_alike, adds_more}
use Rattle.fact_rules.proofs.FirstLemmas.{in_first, first_is, same_goal}
use Rattle.fact_rules.proofs.first_rules.first_facts.Goals as goal

pub returns : goal.returns
returns g c =
    let program = c.args.program.now in
    let entry = c.args.entry in
    let list = g.X.Contexts.list in
    let s = Listed list c.args.following.now.items in
    let t = Listed list c.add_fact.new.following.items in
    let u = Listed list c.add_given.new.following.items in
    let v = Listed list c.add_fields.new.following.items in
    let e = ap Reached (in_first list entry c.root.result c.root.ensures) in
    let runs = adds_alike s t (λ h. h ≡ Reached (instance_seen list (record { method = entry; context = c.root.result }))) (λ h. h ≡ Reached (instance_at entry []))
    (c.in_ok-add_fact.ensures list g.met.X.Contexts.equal_lists) (same_goal e) in
    on_ok_weaker c.add_fields.result
    (λ last.
    adds_more s u v (λ h. (h ≡ Reached (instance_at entry [])) ⊎ EntryGives program entry h) (FromBelow (length program.fields) (FieldGives program)) (ByFirst program entry)
    (adds_more s t u (λ h. h ≡ Reached (instance_at entry [])) (EntryGives program entry) (λ h. (h ≡ Reached (instance_at entry [])) ⊎ EntryGives program entry h) runs c.in_ok-add_given.ensures
    (λ h. (λ p. p, λ p. p)))
    last (first_is program entry))
    c.add_fields.ensures
