use Rattle.std.proofs.Common.{◌≡◌, length}
use Rattle.resolved_insns.proofs.TableLemmas.{HasCallsInside}
use Rattle.resolved_insns.proofs.table.row_of_calls.Given as goal

abbrev pub invariant-loop-pc : goal.invariant-loop-pc
invariant-loop-pc l = record {
  size : length l.row.items ≡ l.pc;
  calls : HasCallsInside l.program l.method l.code l.row.items;
}
