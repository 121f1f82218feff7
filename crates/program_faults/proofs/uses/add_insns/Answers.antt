use Rattle.std.proofs.Common.{◌<◌, ◌-◌, length, sym, ◌∙◌, arith}
use Rattle.jo_insn.proofs.DecodedMoves.{decoded-moves}
use Rattle.program_faults.proofs.UseLemmas.{begins, adds, is_all}
use Rattle.program_faults.proofs.uses.add_insns.Goals as goal

pub loop-insn-init : goal.loop-insn-init
loop-insn-init c = begins c.args.bytes.now c.args.uses.now

pub loop-insn-smaller : goal.loop-insn-smaller
loop-insn-smaller c =
    let moves = decoded-moves c.args.bytes.now c.loop-insn.pc c.in-Ok.next c.in-Ok.insn (sym c.decode.ensures ∙ c.in-Ok.is) in
    let smaller : length c.args.bytes.now - c.in-Ok.next < length c.args.bytes.now - c.loop-insn.pc = omega arith in
    smaller

pub loop-insn-preserved : goal.loop-insn-preserved
loop-insn-preserved c =
    adds c.args.bytes.now c.args.uses.now c.loop-insn.uses _ c.loop-insn.pc c.in-Ok.next c.in-Ok.insn (sym c.decode.ensures ∙ c.in-Ok.is) c.in_ok-add_use.ensures c.loop-insn.invariant

pub returns : goal.returns
returns c = is_all c.args.bytes.now c.args.uses.now c.loop-insn.uses c.loop-insn.pc c.in_default.field-0 (sym c.decode.ensures ∙ c.in_default.is) c.loop-insn.invariant
