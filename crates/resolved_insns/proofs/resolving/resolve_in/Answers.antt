use Rattle.std.proofs.Common.{rules, ◌<◌, length, arith}
use Rattle.jo_insn.specs.declared.jumps.Placed.{Placed}
use Rattle.jo_insn.specs.Jumps.{IsPlacedIn}
use Rattle.resolved_insns.proofs.TableLemmas.{inside}
use Rattle.resolved_insns.proofs.resolving.resolve_in.Goals as goal

pub resolve-requires-clause-place : goal.resolve-requires-clause-place
resolve-requires-clause-place c =
    let placed : Placed = record { pc = c.args.pc; insn = c.in-Ok.insn; next = c.in-Ok.next } in
    let is : IsPlacedIn c.args.code.now placed = search rules in
    let below : c.args.pc < length c.args.code.now = inside c.args.code.now placed is in
    let short = c.requires.short in
    omega arith
