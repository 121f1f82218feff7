use Rattle.std.proofs.Common.{◌≡◌, ℕ, List, sym, ◌∙◌}
use Rattle.std.proofs.lemmas.Result.{on_ok_weaker}
use Rattle.dep_nodes.specs.declared.kinds.NodeKind.TheVariants.{Arg, Param}
use Rattle.jo_ids.specs.declared.ObjKey.{ObjKey}
use Rattle.dependence.specs.declared.facts.Fact.{Fact}
use Rattle.dependence.specs.declared.facts.Fact.TheVariants.{Holds}
use Rattle.fact_sets.specs.Seen.{Known, Listed, instance_seen}
use Rattle.fact_rules.specs.Adds.{From}
use Rattle.fact_rules.specs.Additions.{OfObject}
use Rattle.fact_rules.specs.TargetRules.{ArgumentGives}
use Rattle.fact_rules.proofs.AddsLemmas.{adds_alike}
use Rattle.fact_rules.proofs.TargetLemmas.{not_received, argument_gives}
use Rattle.fact_rules.proofs.ListLevel.{from_held}
use Rattle.fact_rules.proofs.target_rules.add_argument.Goals as goal

pub returns : goal.returns
returns g c =
    let program = c.args.view.now.program.now in
    let lists = c.args.facts.now in
    let caller = c.args.caller.now in
    let to = c.args.to.now in
    let k = c.args.k in
    let pc = c.args.pc in
    let held = c.held-held.result.now in
    on_ok_weaker c.add_objects.result
    (λ adds list tells.
    let i = instance_seen list caller in
    let j = instance_seen list to in
    let makes = λ (o : ObjKey (List ℕ)) (f : Fact (List ℕ)). f ≡ Holds j (Param k) o in
    adds_alike (Listed list c.args.following.now.items) (Listed list c.add_objects.new.following.items) (From held (OfObject list lists.objects makes)) (ArgumentGives program (Known list lists) i pc j k) (adds list tells)
    (argument_gives program (Known list lists) i pc j k (From held (OfObject list lists.objects makes)) (not_received program to.method k (sym c.receives.ensures ∙ c.if-receives.false))
    (from_held list tells lists held c.args.instance caller (Arg pc k) makes c.instances-count.ensures.once c.requires.named c.held-held.ensures.each)))
    c.add_objects.ensures
