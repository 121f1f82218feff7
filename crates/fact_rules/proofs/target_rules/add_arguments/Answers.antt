use Rattle.std.proofs.Common.{◌≡◌, ℕ, subst, arith}
use Rattle.fact_sets.specs.Seen.{Known, Listed, instance_seen}
use Rattle.fact_rules.specs.Adds.{Adds, FromBelow}
use Rattle.fact_rules.specs.TargetRules.{ArgumentGives}
use Rattle.fact_rules.proofs.AddsLemmas.{below_none, below_step}
use Rattle.fact_rules.proofs.target_rules.add_arguments.Goals as goal

pub loop-k-init : goal.loop-k-init
loop-k-init g c = λ list tells.
    below_none (Listed list c.args.following.now.items) (ArgumentGives c.args.view.now.program.now (Known list c.args.facts.now) (instance_seen list c.args.caller.now) c.args.pc (instance_seen list c.args.to.now))

pub loop-k-preserved : goal.loop-k-preserved
loop-k-preserved g c = λ list tells.
    below_step (Listed list c.args.following.now.items) (Listed list c.loop-k.following.items) (Listed list c.add_argument.new.following.items) c.loop-k.k
    (ArgumentGives c.args.view.now.program.now (Known list c.args.facts.now) (instance_seen list c.args.caller.now) c.args.pc (instance_seen list c.args.to.now)) (c.loop-k.invariant list tells) (c.in_ok-add_argument.ensures list tells)

pub returns : goal.returns
returns g c = λ list tells.
    let all : c.loop-k.k ≡ c.args.end = omega (arith, c.loop-k-test.false, c.loop-k.auto.k-end) in
    subst
    (λ (n : ℕ). Adds (Listed list c.args.following.now.items) (Listed list c.loop-k.following.items)
    (FromBelow n (ArgumentGives c.args.view.now.program.now (Known list c.args.facts.now) (instance_seen list c.args.caller.now) c.args.pc (instance_seen list c.args.to.now))))
    all (c.loop-k.invariant list tells)
