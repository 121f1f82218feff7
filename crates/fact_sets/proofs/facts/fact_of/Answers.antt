use Rattle.std.proofs.Common.{subst, sym}
use Rattle.dependence.specs.declared.facts.Fact.TheVariants.{Reached, Throws, Stalls}
use Rattle.fact_sets.specs.FactLists.{Says, reached, throws, stalls}
use Rattle.fact_sets.proofs.facts.fact_of.Goals as goal

pub returns-in-Reached : goal.returns-in-Reached
returns-in-Reached g c =
    subst (λ n. Says c.args.instances.now c.args.objects.now n (Reached c.instance_at.result)) (sym c.in-Reached.is)
    (reached c.in-Reached.i c.instance_at.result c.instance_at.ensures)

pub returns-in-Throws : goal.returns-in-Throws
returns-in-Throws g c =
    subst (λ n. Says c.args.instances.now c.args.objects.now n (Throws c.instance_at-in-Throws.result)) (sym c.in-Throws.is)
    (throws c.in-Throws.i c.instance_at-in-Throws.result c.instance_at-in-Throws.ensures)

pub returns-in-Stalls : goal.returns-in-Stalls
returns-in-Stalls g c =
    subst (λ n. Says c.args.instances.now c.args.objects.now n (Stalls c.instance_at-in-Stalls.result)) (sym c.in-Stalls.is)
    (stalls c.in-Stalls.i c.instance_at-in-Stalls.result c.instance_at-in-Stalls.ensures)
