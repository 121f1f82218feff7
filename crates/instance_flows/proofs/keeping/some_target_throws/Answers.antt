use Rattle.std.proofs.Common.{Contains, length, refl, arith}
use Rattle.fact_sets.specs.declared.numbered.NumberedFact.TheVariants.{Throws as MayThrow}
use Rattle.instance_flows.proofs.ObjectLemmas.{never}
use Rattle.instance_flows.proofs.TargetLemmas.{none_yet, none_more, none_all, some_ends}
use Rattle.instance_flows.proofs.keeping.some_target_throws.Goals as goal

pub loop-target-init : goal.loop-target-init
loop-target-init g c = none_yet c.targets-targets.result.now (λ j. Contains c.args.facts.now.facts (MayThrow j))

pub returns-then-throws_here : goal.returns-then-throws_here
returns-then-throws_here g c = λ m.
    let targets = c.targets-targets.result.now in
    let i = c.loop-target.target-index in
    let t = c.target-item.result in (
      λ _. some_ends targets (λ j. Contains c.args.facts.now.facts (MayThrow j)) c.args.facts.now.facts (length c.args.facts.now.instances) (record { instance = c.args.instance; pc = c.args.pc }) c.targets-targets.ensures.each
          c.targets-targets.ensures.there i t c.loop-target-test.true c.target-item.is (c.throws_here.ensures.0 c.if-throws_here.true),
      λ _. refl,
    )

pub loop-target-preserved : goal.loop-target-preserved
loop-target-preserved g c =
    let targets = c.targets-targets.result.now in
    let i = c.loop-target.target-index in
    let t = c.target-item.result in
    none_more targets (λ j. Contains c.args.facts.now.facts (MayThrow j)) i t c.loop-target-test.true c.target-item.is
    (λ ends. (let has = c.throws_here.ensures.1 ends in let lacks = c.if-throws_here.false in absurd (cc))) c.loop-target.invariant

pub returns : goal.returns
returns g c = λ m.
    never (none_all c.targets-targets.result.now (λ j. Contains c.args.facts.now.facts (MayThrow j)) c.args.facts.now.facts (length c.args.facts.now.instances) (record { instance = c.args.instance; pc = c.args.pc }) c.targets-targets.ensures.each
    c.loop-target.target-index (omega (arith, c.loop-target-test.false)) c.loop-target.invariant)
