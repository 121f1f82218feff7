use Rattle.std.proofs.Common.{get_or, sym, ap, ◌∙◌, arith}
use Rattle.class_read.specs.Starts.{jumps_pass}
use Rattle.jo_insn.proofs.PlacedSteps.{past, split}
use Rattle.class_read.proofs.CodeJumps.{goes_on, bad_here}
use Rattle.jo_insn.proofs.PcMarkLemmas.{starts_within}
use Rattle.class_read.proofs.jumps.check_jumps.Goals as goal

pub overflow_add-place : goal.overflow_add-place
overflow_add-place c =
    let now = rw (split c.args.insns.now c.loop-placed.placed-index past c.loop-placed-test.true) at c.loop-placed.invariant.placed in
    let within = starts_within c.args.code.now (get_or c.args.insns.now c.loop-placed.placed-index past) now.0 in
    omega (arith, within, c.requires.room)

pub returns-then-not-well : goal.returns-then-not-well
returns-then-not-well c =
    rw c.fault_at.ensures (ap (jumps_pass c.args.place) (sym c.loop-placed.invariant.so_far ∙ bad_here c.args.code.now c.args.starts.now c.args.insns.now c.requires.placed c.requires.marks c.loop-placed.placed-index past c.loop-placed-test.true
    (sym c.in_ok-well.ensures ∙ c.if-not-well.true)))

pub loop-placed-preserved : goal.loop-placed-preserved
loop-placed-preserved c =
    let now = rw (split c.args.insns.now c.loop-placed.placed-index past c.loop-placed-test.true) at c.loop-placed.invariant.placed in
    record {
      placed = now.1;
      so_far = sym (goes_on c.args.code.now c.args.starts.now c.args.insns.now c.requires.placed c.requires.marks c.loop-placed.placed-index past c.loop-placed-test.true (sym c.in_ok-well.ensures ∙ c.if-not-well.false))
          ∙ c.loop-placed.invariant.so_far;
    }
