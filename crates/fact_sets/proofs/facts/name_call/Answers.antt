use Rattle.std.proofs.Common.{refl}
use Rattle.fact_sets.specs.FactLists.{pair_of}
use Rattle.fact_sets.proofs.SayLemmas.{named_on}
use Rattle.fact_sets.proofs.facts.name_call.Goals as goal

pub returns-clause-says : goal.returns-clause-says
returns-clause-says g c = record {
  call = record { instance = c.in_ok-instance.instance; pc = c.args.pc };
  target = c.in_ok-target.target;
  is = refl;
  is_call = record {
    caller = named_on c.name_instance.new.instances c.name_instance-2.new.instances c.in_ok-instance.instance (pair_of c.args.key.now) c.name_instance-2.ensures.grows c.in_ok-instance.ensures.is;
    place = refl;
    target = c.in_ok-target.ensures.is;
  };
}
