use Rattle.instance_flows.proofs.EntryLemmas.{NoEntry}
use Rattle.instance_flows.proofs.flow.entry_of.Given as goal

abbrev pub invariant-loop-n : goal.invariant-loop-n
invariant-loop-n l = NoEntry l.wide l.n
