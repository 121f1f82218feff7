use Rattle.jo_insn.proofs.OffsetSteps.{is_there, adds_one}
use Rattle.jo_insn.proofs.jumps.add_offsets.Goals as goal

pub add_offset-requires : goal.add_offset-requires
add_offset-requires c = (is_there c.args.count c.loop.counter c.loop.table.now c.args.step c.loop-test.true c.loop.invariant.there).0

pub loop-preserved : goal.loop-preserved
loop-preserved c = rw c.behind-table.ensures (record {
  there = (is_there c.args.count c.loop.counter c.loop.table.now c.args.step c.loop-test.true c.loop.invariant.there).1;
  so_far = adds_one c.args.count c.loop.counter c.loop.table.now c.args.step c.args.pc c.loop.targets.items c.add_offset.new.targets.items _ c.loop-test.true c.in_ok-add_offset.ensures c.loop.invariant.so_far;
})
