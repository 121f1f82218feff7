use Rattle.std.proofs.Common.{subst, sym, refl}
use Rattle.dependence.specs.declared.facts.Fact.TheVariants.{Target, Fork}
use Rattle.fact_sets.specs.declared.numbered.NumberedFact.TheVariants.{Calls}
use Rattle.fact_sets.specs.FactLists.{Says, called, forked}
use Rattle.fact_sets.proofs.facts.called_fact.Goals as goal

pub returns-then-fork : goal.returns-then-fork
returns-then-fork g c =
    subst (λ fork. Says c.args.instances.now c.args.objects.now (Calls c.args.call.now c.args.j fork) (Fork c.instance_at-from.result c.args.call.now.pc c.instance_at-to.result)) (sym c.if-fork.true)
    (forked c.args.call.now c.args.j c.args.call.now.pc c.instance_at-from.result c.instance_at-to.result
    (record { caller = c.instance_at-from.ensures; place = refl; target = c.instance_at-to.ensures }))

pub returns-else-fork : goal.returns-else-fork
returns-else-fork g c =
    subst (λ fork. Says c.args.instances.now c.args.objects.now (Calls c.args.call.now c.args.j fork) (Target c.instance_at-from.result c.args.call.now.pc c.instance_at-to.result)) (sym c.if-fork.false)
    (called c.args.call.now c.args.j c.args.call.now.pc c.instance_at-from.result c.instance_at-to.result
    (record { caller = c.instance_at-from.ensures; place = refl; target = c.instance_at-to.ensures }))
