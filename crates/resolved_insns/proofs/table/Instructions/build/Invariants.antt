use Rattle.std.proofs.Common.{◌≡◌, length}
use Rattle.resolved_insns.proofs.TableLemmas.{AreRowsOf}
use Rattle.resolved_insns.proofs.table.Instructions.build.Given as goal

abbrev pub invariant-loop-method : goal.invariant-loop-method
invariant-loop-method l = record {
  count : length l.rows.items ≡ l.method;
  rows : AreRowsOf l.program l.rows.items;
}
