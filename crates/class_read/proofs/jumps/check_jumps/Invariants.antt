use Rattle.std.proofs.Common.{◌≡◌, drop}
use Rattle.std.specs.List.{AllByRecursion}
use Rattle.class_pool.specs.Code.{first_bad_jump}
use Rattle.jo_insn.specs.Jumps.{IsPlacedIn}
use Rattle.class_read.proofs.jumps.check_jumps.Given as goal

abbrev pub invariant-loop-placed : goal.invariant-loop-placed
invariant-loop-placed l = record {
  placed : AllByRecursion (IsPlacedIn l.code) (drop l.placed-index l.insns);
  so_far : first_bad_jump l.code l.insns (drop l.placed-index l.insns) ≡ first_bad_jump l.code l.insns l.insns;
}
