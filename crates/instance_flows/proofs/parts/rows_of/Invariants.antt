use Rattle.std.specs.List.{AllZip}
use Rattle.std.proofs.Common.{take, length, ◌-◌}
use Rattle.instance_flows.specs.Parts.{IsPartRow}
use Rattle.instance_flows.proofs.parts.rows_of.Given as goal

abbrev pub invariant-loop-done : goal.invariant-loop-done
invariant-loop-done l = AllZip (IsPartRow l.flow l.kept l.numbers) (take l.done l.numbers) l.rows.items

abbrev pub decreases-loop-done : goal.decreases-loop-done
decreases-loop-done l = length l.numbers - l.done
