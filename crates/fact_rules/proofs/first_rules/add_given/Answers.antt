use Rattle.std.proofs.Common.{◌≡◌, [], IsTrue, rules}
use Rattle.std.proofs.lemmas.Result.{on_ok_weaker}
use Rattle.dep_nodes.specs.declared.kinds.NodeKind.TheVariants.{Param}
use Rattle.dependence.specs.declared.facts.Fact.TheVariants.{Holds}
use Rattle.dependence.specs.FactRules.{instance_at}
use Rattle.fact_sets.specs.Seen.{Listed, object_seen, instance_seen}
use Rattle.fact_rules.specs.FirstRules.{EntryGives}
use Rattle.fact_rules.proofs.AddsLemmas.{adds_alike, adds_none}
use Rattle.fact_rules.proofs.FirstLemmas.{in_first, entry_gives, entry_gives_none}
use Rattle.fact_rules.proofs.first_rules.add_given.Goals as goal

pub returns-then-not-has : goal.returns-then-not-has
returns-then-not-has g c =
    adds_none (Listed g.X.Contexts.list c.args.following.now.items) (EntryGives c.args.program.now c.args.entry)
    (entry_gives_none c.args.program.now c.args.entry (λ has. let yes = c.in_ok-has.ensures.1 has in absurd (cc)))

pub returns : goal.returns
returns g c =
    let program = c.args.program.now in
    let entry = c.args.entry in
    let list = g.X.Contexts.list in
    let s = Listed list c.args.following.now.items in
    let t = Listed list c.add_fact.new.following.items in
    let o = object_seen list c.object_of.result in
    let i = instance_seen list (record { method = entry; context = c.root.result }) in
    let has = c.in_ok-has.ensures.0 c.if-not-has.false in
    on_ok_weaker c.add_fact.result
    (λ adds. adds_alike s t (λ h. h ≡ Holds i (Param 0) o) (EntryGives program entry) (adds list g.met.X.Contexts.equal_lists)
    (entry_gives program entry i o (in_first list entry c.root.result c.root.ensures) c.object_of.ensures has))
    c.add_fact.ensures
