use Rattle.std.proofs.Common.{length}
use Rattle.jo_text.specs.Scan.{PassFields}
use Rattle.jo_text.proofs.descriptors.read_params.Given as goal

abbrev pub invariant-loop-view : goal.invariant-loop-view
invariant-loop-view l = PassFields l.descs.items l.bytes l.rest

abbrev pub decreases-loop-view : goal.decreases-loop-view
decreases-loop-view l = length l.rest
