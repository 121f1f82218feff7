use Rattle.std.proofs.Common.{◌≡◌, ℕ, sym, subst}
use Rattle.std.proofs.lemmas.Bool.{both_ways}
use Rattle.std.proofs.lemmas.Result.{on_ok_weaker}
use Rattle.jo_prog.specs.TypingPaths.{HasHeightAt}
use Rattle.dependence.specs.declared.facts.Fact.TheVariants.{Stalls}
use Rattle.dependence.specs.GraphsAsData.{IsWideGraph}
use Rattle.fact_sets.specs.Seen.{Listed, instance_seen}
use Rattle.fact_rules.specs.Adds.{Adds}
use Rattle.fact_rules.specs.CycleRules.{ByLoop}
use Rattle.fact_rules.proofs.AddsLemmas.{adds_none, adds_alike}
use Rattle.fact_rules.proofs.ListLevel.{same_instance_named}
use Rattle.fact_rules.proofs.LoopLemmas.{loop_given, by_loop}
use Rattle.fact_rules.proofs.cycle_rules.follow_loops.Goals as goal

pub returns-then-not-has_loop : goal.returns-then-not-has_loop
returns-then-not-has_loop g c = λ list key tells is_key.
    let view = c.args.view.now in
    let program = view.program.now in
    let same : view.method ≡ key.method = sym (c.requires.method key is_key) in
    let graph : IsWideGraph program key.method (HasHeightAt program view.method) view.wide.now = subst (λ (m : ℕ). IsWideGraph program m (HasHeightAt program view.method) view.wide.now) same c.requires.view.graph in
    let i = instance_seen list key in
    adds_none (Listed list c.args.following.now.items) (ByLoop program i)
    (λ f by. both_ways c.has_loop.result c.if-not-has_loop.true (c.has_loop.ensures.1 (loop_given program i (HasHeightAt program view.method) view.wide.now graph f by)))

pub returns : goal.returns
returns g c =
    on_ok_weaker c.add_fact.result
    (λ adds list key tells is_key.
    let view = c.args.view.now in
    let program = view.program.now in
    let same : view.method ≡ key.method = sym (c.requires.method key is_key) in
    let graph : IsWideGraph program key.method (HasHeightAt program view.method) view.wide.now = subst (λ (m : ℕ). IsWideGraph program m (HasHeightAt program view.method) view.wide.now) same c.requires.view.graph in
    let one : c.instance.result ≡ key = same_instance_named list c.args.facts.now.instances c.args.instance c.instance.result key c.instance.ensures is_key in
    let i = instance_seen list key in
    adds_alike (Listed list c.args.following.now.items) (Listed list c.add_fact.new.following.items) (λ f. f ≡ Stalls i) (ByLoop program i)
    (subst (λ k. Adds (Listed list c.args.following.now.items) (Listed list c.add_fact.new.following.items) (λ f. f ≡ Stalls (instance_seen list k))) one (adds list tells))
    (by_loop program i (HasHeightAt program view.method) view.wide.now graph (c.has_loop.ensures.0 c.if-not-has_loop.false))) c.add_fact.ensures
