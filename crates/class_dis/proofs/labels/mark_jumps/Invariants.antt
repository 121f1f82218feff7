use Rattle.std.proofs.Common.{◌≡◌, drop}
use Rattle.std.specs.List.{AllByRecursion, flat_map}
use Rattle.jo_insn.specs.Jumps.{IsPlacedIn}
use Rattle.jo_insn.specs.Marks.{marked}
use Rattle.class_dis.specs.Labels.{targets_in}
use Rattle.class_dis.proofs.labels.mark_jumps.Given as goal

abbrev pub invariant-loop-placed : goal.invariant-loop-placed
invariant-loop-placed l = record {
  placed : AllByRecursion (IsPlacedIn l.code) (drop l.placed-index l.insns);
  so_far : marked l.marks (flat_map (targets_in l.code) (drop l.placed-index l.insns)) ≡ marked l.fn.marks (flat_map (targets_in l.code) l.insns);
}
