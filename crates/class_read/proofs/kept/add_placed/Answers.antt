use Rattle.std.proofs.Common.{ℕ, refl, arith}
use Rattle.jo_insn.proofs.SwitchTables.{offsets_end, pairs_end}
use Rattle.jo_insn.proofs.InsnTables.{call_kept, pooled_kept, offsets_kept, pairs_kept, others_kept}
use Rattle.class_read.proofs.kept.add_placed.Goals as goal

pub encode-requires : goal.encode-requires
encode-requires c =
    rw c.in-Pooled.is (call_kept c.args.code.now (λ (k : ℕ). (c.type_inv.code k).fits) c.args.placed.now.pc c.args.placed.now.next c.in-Pooled.op c.in-Pooled.index _ c.if-op.true refl (rw c.in-Pooled.is at c.requires))

pub encode-requires-else-op : goal.encode-requires-else-op
encode-requires-else-op c =
    rw c.in-Pooled.is (pooled_kept c.args.code.now (λ (k : ℕ). (c.type_inv.code k).fits) c.args.placed.now.pc c.args.placed.now.next c.in-Pooled.op c.in-Pooled.index c.if-op.false (rw c.in-Pooled.is at c.requires))

pub encode-requires-in_default : goal.encode-requires-in_default
encode-requires-in_default c =
    others_kept c.args.code.now (λ (k : ℕ). (c.type_inv.code k).fits) c.args.placed.now.pc c.args.placed.now.next c.args.placed.now.insn c.in_default.not-Pooled c.in_default.not-TableSwitch c.in_default.not-LookupSwitch c.requires

pub table_of-requires-clause-forward : goal.table_of-requires-clause-forward
table_of-requires-clause-forward c =
    let end = offsets_end c.args.code.now (λ (k : ℕ). (c.type_inv.code k).fits) c.args.placed.now.pc c.args.placed.now.next c.in-TableSwitch.other c.in-TableSwitch.low c.in-TableSwitch.high c.in-TableSwitch.at (rw c.in-TableSwitch.is at c.requires) in
    omega (arith, end.0)

pub table_of-requires-clause-within : goal.table_of-requires-clause-within
table_of-requires-clause-within c =
    (offsets_end c.args.code.now (λ (k : ℕ). (c.type_inv.code k).fits) c.args.placed.now.pc c.args.placed.now.next c.in-TableSwitch.other c.in-TableSwitch.low c.in-TableSwitch.high c.in-TableSwitch.at (rw c.in-TableSwitch.is at c.requires)).1

pub encode-requires-in-TableSwitch : goal.encode-requires-in-TableSwitch
encode-requires-in-TableSwitch c =
    rw (c.in-TableSwitch.is, c.table_of.ensures)
    (offsets_kept c.args.code.now (λ (k : ℕ). (c.type_inv.code k).fits) c.args.placed.now.pc c.args.placed.now.next c.in-TableSwitch.other c.in-TableSwitch.low c.in-TableSwitch.high c.in-TableSwitch.at (rw c.in-TableSwitch.is at c.requires))

pub table_of-requires-in-LookupSwitch-clause-forward : goal.table_of-requires-in-LookupSwitch-clause-forward
table_of-requires-in-LookupSwitch-clause-forward c =
    let end = pairs_end c.args.code.now (λ (k : ℕ). (c.type_inv.code k).fits) c.args.placed.now.pc c.args.placed.now.next c.in-LookupSwitch.other c.in-LookupSwitch.pairs c.in-LookupSwitch.at (rw c.in-LookupSwitch.is at c.requires) in
    omega (arith, end.0)

pub table_of-requires-in-LookupSwitch-clause-within : goal.table_of-requires-in-LookupSwitch-clause-within
table_of-requires-in-LookupSwitch-clause-within c =
    (pairs_end c.args.code.now (λ (k : ℕ). (c.type_inv.code k).fits) c.args.placed.now.pc c.args.placed.now.next c.in-LookupSwitch.other c.in-LookupSwitch.pairs c.in-LookupSwitch.at (rw c.in-LookupSwitch.is at c.requires)).1

pub encode-requires-in-LookupSwitch : goal.encode-requires-in-LookupSwitch
encode-requires-in-LookupSwitch c =
    rw (c.in-LookupSwitch.is, c.table_of-in-LookupSwitch.ensures)
    (pairs_kept c.args.code.now (λ (k : ℕ). (c.type_inv.code k).fits) c.args.placed.now.pc c.args.placed.now.next c.in-LookupSwitch.other c.in-LookupSwitch.pairs c.in-LookupSwitch.at (rw c.in-LookupSwitch.is at c.requires))
