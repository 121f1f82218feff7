use Rattle.std.proofs.Common.{◌≡◌, length, drop}
use Rattle.std.specs.List.{AllByRecursion}
use Rattle.jo_insn.specs.Jumps.{IsPlacedIn}
use Rattle.resolved_insns.proofs.TableLemmas.{IsWholeBut}
use Rattle.resolved_insns.proofs.table.fill.Given as goal

abbrev pub invariant-loop-placed : goal.invariant-loop-placed
invariant-loop-placed l = record {
  placed : AllByRecursion (IsPlacedIn l.code) (drop l.placed-index l.insns);
  size : length l.row.items ≡ length l.code;
  whole : IsWholeBut l.program l.method l.code l.insns (drop l.placed-index l.insns) l.row.items;
}
