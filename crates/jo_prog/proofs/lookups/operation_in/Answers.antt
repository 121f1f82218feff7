use Rattle.std.proofs.Common.{◌≡◌, ℕ, List, length, sym, ap, arith}
use Rattle.jo_prog.proofs.Decoding.{next_of, operation_in-past, operation_in-long}
use Rattle.jo_prog.proofs.lookups.operation_in.Goals as goal

pub returns-then-bytes-gt-LONGEST_CODE-clause-value : goal.returns-then-bytes-gt-LONGEST_CODE-clause-value
returns-then-bytes-gt-LONGEST_CODE-clause-value c =
    let size : length c.as_slice-bytes.result.now ≡ length c.args.code.now.bytes = ap (λ (xs : List ℕ). length xs) c.as_slice-bytes.ensures in
    sym (operation_in-long c.args.code.now c.args.pc (omega arith))

pub returns-then-pc-bytes-clause-value : goal.returns-then-pc-bytes-clause-value
returns-then-pc-bytes-clause-value c =
    let size : length c.as_slice-bytes.result.now ≡ length c.args.code.now.bytes = ap (λ (xs : List ℕ). length xs) c.as_slice-bytes.ensures in
    sym (operation_in-past c.args.code.now c.args.pc (omega arith))

pub returns-in-Ok-clause-above : goal.returns-in-Ok-clause-above
returns-in-Ok-clause-above c = (next_of _ c.args.code.now.bytes c.args.pc c.in-Ok.next c.in-Ok.insn _ c.as_slice-bytes.ensures c.decode.ensures c.in-Ok.is).0

pub returns-in-Ok-clause-inside : goal.returns-in-Ok-clause-inside
returns-in-Ok-clause-inside c = (next_of _ c.args.code.now.bytes c.args.pc c.in-Ok.next c.in-Ok.insn _ c.as_slice-bytes.ensures c.decode.ensures c.in-Ok.is).1

pub returns-in-Ok-clause-short : goal.returns-in-Ok-clause-short
returns-in-Ok-clause-short c =
    let size : length c.as_slice-bytes.result.now ≡ length c.args.code.now.bytes = ap (λ (xs : List ℕ). length xs) c.as_slice-bytes.ensures in
    let moved = next_of _ c.args.code.now.bytes c.args.pc c.in-Ok.next c.in-Ok.insn _ c.as_slice-bytes.ensures c.decode.ensures c.in-Ok.is in
    omega (arith, moved.1)
