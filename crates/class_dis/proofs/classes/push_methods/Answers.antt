use Rattle.class_pool.specs.declared.classes.MethodInfo.{MethodInfo}
use Rattle.class_dis.specs.Insns.{IsShortCode}
use Rattle.class_dis.specs.Listing.{method_lines}
use Rattle.class_dis.proofs.BodyLines.{later_items, item_lines}
use Rattle.class_dis.proofs.classes.push_methods.Goals as goal

pub loop-method-preserved : goal.loop-method-preserved
loop-method-preserved c = record {
  short = later_items c.args.methods.now c.loop-method.method-index c.method-item.result c.loop-method-test.true c.method-item.is (λ (method : MethodInfo). IsShortCode method.code) c.loop-method.invariant.short;
  so_far = item_lines c.args.methods.now c.loop-method.method-index c.method-item.result c.loop-method-test.true c.method-item.is (method_lines c.args.pool.now) c.loop-method.out.items c.push_method.new.out.items _ c.in_ok-push_method.ensures c.loop-method.invariant.so_far;
}
