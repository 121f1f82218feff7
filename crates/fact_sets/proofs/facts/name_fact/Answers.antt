use Rattle.std.proofs.Common.{OnOk, IfOk, subst, sym}
use Rattle.fact_sets.specs.declared.numbered.NumberedFact.TheVariants.{Reached, Throws, Stalls}
use Rattle.fact_sets.specs.FactLists.{Says, reached, throws, stalls, AppendsEach, instances_in, objects_in, object_pair}
use Rattle.fact_sets.proofs.TableLemmas.{ok_more}
use Rattle.fact_sets.proofs.SayLemmas.{each_one, if_ok_more, target_said, fork_said}
use Rattle.fact_sets.proofs.facts.name_fact.Goals as goal

pub returns-in_ok-name_instance-in-Reached-clause-says : goal.returns-in_ok-name_instance-in-Reached-clause-says
returns-in_ok-name_instance-in-Reached-clause-says g c =
    subst (λ fact. Says c.name_instance.new.instances c.args.objects.now (Reached c.in_ok-name_instance-in-Reached.field-0) fact) (sym c.in-Reached.is)
    (reached c.in_ok-name_instance-in-Reached.field-0 c.in-Reached.key c.in_ok-name_instance-in-Reached.ensures.is)

pub returns-in-Holds-clause-objects : goal.returns-in-Holds-clause-objects
returns-in-Holds-clause-objects g c =
    subst (λ fact. OnOk c.name_held.result (AppendsEach c.args.objects.now (objects_in fact) c.name_held.new.objects)) (sym c.in-Holds.is)
    (ok_more c.name_held.result (λ appends. each_one c.args.objects.now c.name_held.new.objects (object_pair c.in-Holds.object) appends) c.name_held.ensures.objects)

pub returns-in-Target-clause-says : goal.returns-in-Target-clause-says
returns-in-Target-clause-says g c =
    subst (λ fact. IfOk c.name_call.result (λ n. Says c.name_call.new.instances c.args.objects.now n fact)) (sym c.in-Target.is)
    (if_ok_more c.name_call.result (λ n is. target_said c.name_call.new.instances c.args.objects.now n c.in-Target.key c.in-Target.pc c.in-Target.to is) c.name_call.ensures.says)

pub returns-in-Target-clause-instances : goal.returns-in-Target-clause-instances
returns-in-Target-clause-instances g c =
    subst (λ fact. OnOk c.name_call.result (AppendsEach c.args.instances.now (instances_in fact) c.name_call.new.instances)) (sym c.in-Target.is) c.name_call.ensures.instances

pub returns-in-Fork-clause-says : goal.returns-in-Fork-clause-says
returns-in-Fork-clause-says g c =
    subst (λ fact. IfOk c.name_call-in-Fork.result (λ n. Says c.name_call-in-Fork.new.instances c.args.objects.now n fact)) (sym c.in-Fork.is)
    (if_ok_more c.name_call-in-Fork.result (λ n is. fork_said c.name_call-in-Fork.new.instances c.args.objects.now n c.in-Fork.key c.in-Fork.pc c.in-Fork.to is) c.name_call-in-Fork.ensures.says)

pub returns-in-Fork-clause-instances : goal.returns-in-Fork-clause-instances
returns-in-Fork-clause-instances g c =
    subst (λ fact. OnOk c.name_call-in-Fork.result (AppendsEach c.args.instances.now (instances_in fact) c.name_call-in-Fork.new.instances)) (sym c.in-Fork.is) c.name_call-in-Fork.ensures.instances

pub returns-in_ok-name_instance-in-Throws-clause-says : goal.returns-in_ok-name_instance-in-Throws-clause-says
returns-in_ok-name_instance-in-Throws-clause-says g c =
    subst (λ fact. Says c.name_instance-in-Throws.new.instances c.args.objects.now (Throws c.in_ok-name_instance-in-Throws.field-0) fact) (sym c.in-Throws.is)
    (throws c.in_ok-name_instance-in-Throws.field-0 c.in-Throws.key c.in_ok-name_instance-in-Throws.ensures.is)

pub returns-in_ok-name_instance-in-Stalls-clause-says : goal.returns-in_ok-name_instance-in-Stalls-clause-says
returns-in_ok-name_instance-in-Stalls-clause-says g c =
    subst (λ fact. Says c.name_instance-in-Stalls.new.instances c.args.objects.now (Stalls c.in_ok-name_instance-in-Stalls.field-0) fact) (sym c.in-Stalls.is)
    (stalls c.in_ok-name_instance-in-Stalls.field-0 c.in-Stalls.key c.in_ok-name_instance-in-Stalls.ensures.is)
