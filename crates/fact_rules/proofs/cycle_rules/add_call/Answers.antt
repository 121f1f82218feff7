use Rattle.fact_rules.proofs.CycleLemmas.{call_added}
use Rattle.fact_rules.proofs.cycle_rules.add_call.Goals as goal

pub returns-clause-pairs : goal.returns-clause-pairs
returns-clause-pairs c =
    call_added c.args.calls.now c.add.new.self c.add-2.new.self c.args.count c.args.caller c.args.target c.in_ok-add.ensures.ok c.in_ok-add-2.ensures.ok
