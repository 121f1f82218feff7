use Rattle.jo_text.proofs.DescriptorMethods.{begins_more, rest_shorter}
use Rattle.jo_text.proofs.descriptors.after_params.Goals as goal

pub loop-after-smaller : goal.loop-after-smaller
loop-after-smaller c = rest_shorter c.loop-after.rest.now c.in-Some.after.now c.in-Some.ensures

pub loop-after-preserved : goal.loop-after-preserved
loop-after-preserved c = begins_more c.args.bytes.now c.loop-after.rest.now c.in-Some.after.now c.loop-after.invariant c.in-Some.ensures
