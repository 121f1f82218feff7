use Rattle.std.proofs.Common.{◌≡◌, ◌++◌, get_or, rules, arith}
use Rattle.std.specs.Prelude.{pos}
use Rattle.std.proofs.lemmas.List.{length-drop}
use Rattle.class_dis.proofs.SwitchSteps.{pair_text, pair_spelled}
use Rattle.class_dis.proofs.operands.push_pairs.Goals as goal

pub loop-target-preserved : goal.loop-target-preserved
loop-target-preserved c =
    let left = length-drop 8 c.loop-target.table.now in
    let adds : c.push_pair.new.out.items ≡ c.loop-target.out.items ++ pair_text c.loop-target.table.now (get_or c.args.targets.now c.loop-target.target-index (pos 0)) = search rules in
    rw c.behind-table.ensures (record {
      there = omega arith;
      so_far = pair_spelled c.loop-target.table.now c.args.targets.now c.loop-target.target-index (pos 0) c.loop-target.out.items c.push_pair.new.out.items _ c.loop-target-test.true adds c.loop-target.invariant.so_far;
    })
