use Rattle.std.proofs.Common.{◌≡◌, ◌++◌, ◌-◌, ◌*◌, ◌≤◌, length, drop}
use Rattle.class_dis.specs.Words.{spaced}
use Rattle.class_dis.specs.Listing.{pair_words}
use Rattle.class_dis.proofs.operands.push_pairs.Given as goal

abbrev pub invariant-loop-target : goal.invariant-loop-target
invariant-loop-target l = record {
  there : 8 * (length l.targets - l.target-index) ≤ length l.table;
  so_far : l.out.items ++ spaced (pair_words l.table (drop l.target-index l.targets)) ≡ l.fn.out.items ++ spaced (pair_words l.fn.table l.targets);
}
