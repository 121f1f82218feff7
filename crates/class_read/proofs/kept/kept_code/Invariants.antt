use Rattle.std.proofs.Common.{◌≡◌, ◌++◌, drop}
use Rattle.std.specs.List.{AllByRecursion}
use Rattle.class_pool.specs.Code.{canonical_code}
use Rattle.jo_insn.specs.Jumps.{IsPlacedIn}
use Rattle.class_read.proofs.kept.kept_code.Given as goal

abbrev pub invariant-loop-placed : goal.invariant-loop-placed
invariant-loop-placed l = record {
  placed : AllByRecursion (IsPlacedIn l.code) (drop l.placed-index l.insns);
  so_far : l.kept.items ++ canonical_code l.pool l.code (drop l.placed-index l.insns) ≡ canonical_code l.pool l.code l.insns;
}
