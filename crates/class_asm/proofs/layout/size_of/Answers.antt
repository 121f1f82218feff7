use Rattle.std.proofs.Common.{◌≤◌, ◌^◌, ◌∙◌, arith}
use Rattle.class_asm.proofs.Sizes.{next_size}
use Rattle.class_asm.proofs.layout.size_of.Goals as goal

pub loop-line-preserved : goal.loop-line-preserved
loop-line-preserved c =
    let small : c.next_pc-pc.result ≤ 2 ^ 20 = omega arith in
    let more = next_size c.loop-line.caught c.loop-line.pc c.next_pc-pc.result c.loop-line.line-index c.args.body.now c.line-item.result c.loop-line-test.true c.line-item.is c.next_pc-pc.ensures in
    (small, rw c.next_caught-caught.ensures (more ∙ c.loop-line.invariant.1))
