use Rattle.std.proofs.Common.{List, ap, ◌∙◌}
use Rattle.std.specs.Prelude.{ℤ}
use Rattle.jo_insn.specs.Marks.{marked}
use Rattle.jo_insn.proofs.PlacedSteps.{past, split}
use Rattle.class_dis.proofs.LabelMarks.{jump_marks}
use Rattle.class_dis.proofs.labels.mark_jumps.Goals as goal

pub loop-placed-preserved : goal.loop-placed-preserved
loop-placed-preserved c =
    let now = rw (split c.args.insns.now c.loop-placed.placed-index past c.loop-placed-test.true) at c.loop-placed.invariant.placed in
    let marks = c.mark_all.ensures ∙ ap (λ (pcs : List ℤ). marked c.loop-placed.marks pcs) (c.as_slice.ensures.value ∙ c.in_ok-targets.ensures) in
    record {
      placed = now.1;
      so_far = jump_marks c.args.code.now c.loop-placed.marks c.mark_all.new.marks _ c.args.insns.now c.loop-placed.placed-index past c.loop-placed-test.true marks c.loop-placed.invariant.so_far;
    }
