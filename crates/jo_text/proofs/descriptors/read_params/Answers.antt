use Rattle.jo_text.proofs.DescriptorMethods.{pass_more, field_shorter}
use Rattle.jo_text.proofs.descriptors.read_params.Goals as goal

pub loop-view-smaller : goal.loop-view-smaller
loop-view-smaller c = field_shorter c.loop-view.rest.now c.in-Some.after.now _ c.in-Some.ensures

pub loop-view-preserved : goal.loop-view-preserved
loop-view-preserved c =
    rw (c.in_ok-push.ensures.items, c.in_ok-own_field.ensures) (pass_more c.loop-view.descs.items c.args.bytes.now c.loop-view.rest.now c.in-Some.after.now _ c.loop-view.invariant c.in-Some.ensures)
