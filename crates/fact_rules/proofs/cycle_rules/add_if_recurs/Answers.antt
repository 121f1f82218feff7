use Rattle.std.proofs.Common.{◌≡◌, ◌↔◌, ◌+◌, ℕ, length, Contains, IsTrue, subst}
use Rattle.std.proofs.lemmas.Result.{on_ok_weaker}
use Rattle.jo_ids.specs.Path.{Path}
use Rattle.jo_graph.specs.Graphs.{HasEdge}
use Rattle.dependence.specs.declared.facts.Fact.TheVariants.{Stalls}
use Rattle.fact_sets.specs.declared.numbered.NumberedFact.TheVariants.{Reached as IsReached}
use Rattle.fact_sets.specs.FactLists.{IsInstance}
use Rattle.fact_rules.specs.CycleRules.{RecursAt}
use Rattle.fact_rules.proofs.AddsLemmas.{adds_none, adds_alike}
use Rattle.fact_rules.proofs.CycleLemmas.{recurs_runs, recurs_at}
use Rattle.fact_rules.proofs.cycle_rules.add_if_recurs.Goals as goal

pub returns-then-not-reached-clause-adds : goal.returns-then-not-reached-clause-adds
returns-then-not-reached-clause-adds g c =
    let lists = c.args.facts.now in
    let count = length lists.instances in
    let told : IsTrue c.reached.result ↔ Contains lists.facts (IsReached c.args.instance) = subst (λ (n : ℕ). IsTrue c.reached.result ↔ Contains lists.facts (IsReached n)) c.of-id.ensures c.reached.ensures in
    adds_none (Contains c.args.following.now.items) (RecursAt lists c.args.calls.now count c.args.instance)
    (λ f at. let runs = recurs_runs lists c.names_once.ensures c.args.calls.now count c.args.instance c.reached.result told f at in absurd (cc))

pub returns-clause-adds : goal.returns-clause-adds
returns-clause-adds g c =
    let lists = c.args.facts.now in
    let count = length lists.instances in
    let i = c.args.instance in
    let graph = c.args.calls.now in
    let told : IsTrue c.reached.result ↔ Contains lists.facts (IsReached i) = subst (λ (n : ℕ). IsTrue c.reached.result ↔ Contains lists.facts (IsReached n)) c.of-id.ensures c.reached.ensures in
    let is : IsInstance lists.instances i c.instance.result = subst (λ (n : ℕ). IsInstance lists.instances n c.instance.result) c.of-id.ensures c.instance.ensures in
    let path : Path (HasEdge graph) (count + i) i = subst (λ (n : ℕ). Path (HasEdge graph) (n + i) i) c.instances.ensures.count (c.recurs.ensures.recurs.0 c.if-not-recurs.false) in
    on_ok_weaker c.add.result
    (λ adds.
    adds_alike (Contains c.args.following.now.items) (Contains c.add.new.following.items) (λ f. f ≡ Stalls c.instance.result) (RecursAt lists graph count i) adds
    (recurs_at lists c.names_once.ensures graph count i c.reached.result c.instance.result told c.if-not-reached.false is path)) c.add.ensures
