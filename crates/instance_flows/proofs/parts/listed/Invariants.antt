use Rattle.std.proofs.Common.{◌≡◌, ◌++◌, drop}
use Rattle.instance_flows.proofs.parts.listed.Given as goal

abbrev pub invariant-loop-number : goal.invariant-loop-number
invariant-loop-number l = l.list ++ drop l.number-index l.numbers ≡ l.numbers
