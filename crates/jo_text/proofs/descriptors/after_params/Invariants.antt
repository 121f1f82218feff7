use Rattle.std.proofs.Common.{length}
use Rattle.jo_text.specs.Scan.{BeginsFields}
use Rattle.jo_text.proofs.descriptors.after_params.Given as goal

abbrev pub invariant-loop-after : goal.invariant-loop-after
invariant-loop-after l = BeginsFields l.bytes l.rest

abbrev pub decreases-loop-after : goal.decreases-loop-after
decreases-loop-after l = length l.rest
