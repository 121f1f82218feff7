use Rattle.std.proofs.Common.{◌≡◌, ◌∙◌, ◌+◌, ◌<◌, ap, drop, get_or, length, arith}
use Rattle.std.proofs.lemmas.List.{length-set}
use Rattle.jo_insn.specs.declared.jumps.Placed.{Placed}
use Rattle.jo_insn.proofs.PlacedSteps.{past, split}
use Rattle.resolved_insns.proofs.TableLemmas.{inside, one_slot}
use Rattle.resolved_insns.proofs.table.fill.Goals as goal

pub resolve-requires-clause-place : goal.resolve-requires-clause-place
resolve-requires-clause-place c =
    let i = c.loop-placed.placed-index in
    let insns = c.args.insns.now in
    let placed : Placed = get_or insns i past in
    let all = rw (split insns i past c.loop-placed-test.true) at c.loop-placed.invariant.placed in
    let below = inside c.args.code.now placed all.0 in
    let short = c.requires.short in
    omega arith

pub loop-placed-preserved : goal.loop-placed-preserved
loop-placed-preserved c =
    let i = c.loop-placed.placed-index in
    let insns = c.args.insns.now in
    let code = c.args.code.now in
    let row = c.loop-placed.row.items in
    let placed : Placed = get_or insns i past in
    let next = split insns i past c.loop-placed-test.true in
    let all = rw next at c.loop-placed.invariant.placed in
    let old = rw next at c.loop-placed.invariant.whole in
    let below = inside code placed all.0 in
    let size : length row ≡ length code = c.loop-placed.invariant.size in
    let within : placed.pc < length row = omega arith in
    record {
      placed = all.1;
      size = ap length c.set.ensures ∙ length-set row placed.pc c.in_ok-found.found ∙ size;
      whole = rw c.set.ensures (one_slot c.args.program.now c.args.method code insns row placed (drop (i + 1) insns) c.in_ok-found.found within all.0 c.in_ok-found.ensures old);
    }
