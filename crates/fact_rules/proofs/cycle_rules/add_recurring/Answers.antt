use Rattle.std.proofs.Common.{◌≡◌, ℕ, length, Contains, subst, arith}
use Rattle.fact_rules.specs.Adds.{Adds, FromBelow}
use Rattle.fact_rules.specs.CycleRules.{RecursAt}
use Rattle.fact_rules.proofs.AddsLemmas.{below_none, below_step}
use Rattle.fact_rules.proofs.cycle_rules.add_recurring.Goals as goal

pub loop-instance-init : goal.loop-instance-init
loop-instance-init g c = record {
  adds = below_none (Contains c.args.following.now.items) (RecursAt c.args.facts.now c.args.calls.now (length c.args.facts.now.instances));
  found = c.requires.found;
  work = c.requires.work;
}

pub loop-instance-preserved : goal.loop-instance-preserved
loop-instance-preserved g c = record {
  adds =
      below_step (Contains c.args.following.now.items) (Contains c.loop-instance.following.items) (Contains c.add_if_recurs.new.following.items) c.loop-instance.instance
      (RecursAt c.args.facts.now c.args.calls.now (length c.args.facts.now.instances)) c.loop-instance.invariant.adds c.in_ok-add_if_recurs.ensures.adds;
  found = c.in_ok-add_if_recurs.ensures.found;
  work = c.in_ok-add_if_recurs.ensures.work;
}

pub returns : goal.returns
returns g c =
    let lists = c.args.facts.now in
    let all : c.loop-instance.instance ≡ length lists.instances = omega (arith, c.instances-instance-end.ensures.count, c.loop-instance-test.false) in
    subst (λ (n : ℕ). Adds (Contains c.args.following.now.items) (Contains c.loop-instance.following.items) (FromBelow n (RecursAt lists c.args.calls.now (length lists.instances)))) all
    c.loop-instance.invariant.adds
