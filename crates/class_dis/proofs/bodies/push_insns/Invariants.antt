use Rattle.std.proofs.Common.{◌≡◌, ◌++◌, drop}
use Rattle.std.specs.Prelude.{ℕ, pos}
use Rattle.std.specs.List.{AllByRecursion, flat_map}
use Rattle.jo_insn.specs.Jumps.{IsPlacedIn}
use Rattle.jo_insn.specs.Marks.{is_marked}
use Rattle.class_dis.specs.Listing.{insn_lines}
use Rattle.class_dis.proofs.bodies.push_insns.Given as goal

abbrev pub invariant-loop-placed : goal.invariant-loop-placed
invariant-loop-placed l = record {
  placed : AllByRecursion (IsPlacedIn l.code) (drop l.placed-index l.insns);
  so_far : l.out.items ++ flat_map (insn_lines l.pool l.code (λ (pc : ℕ). is_marked l.marks (pos pc))) (drop l.placed-index l.insns)
      ≡ l.fn.out.items ++ flat_map (insn_lines l.pool l.code (λ (pc : ℕ). is_marked l.marks (pos pc))) l.insns;
}
