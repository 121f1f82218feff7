use Rattle.std.proofs.lemmas.Result.{err_from_is_err_and}
use Rattle.class_pool.specs.ClassOrder as ClassOrder
use Rattle.class_read.specs.Codes.{spelled_of}
use Rattle.jo_insn.specs.Marks.{is_marked}
use Rattle.class_read.proofs.CodeChecked.{placed, stops_at_row, passes}
use Rattle.class_read.proofs.CodeJumps.{start_is}
use Rattle.class_read.proofs.code.checked.Goals as goal

pub check_jumps-requires-clause-placed : goal.check_jumps-requires-clause-placed
check_jumps-requires-clause-placed c = rw c.as_slice-insns.ensures (placed c.args.pool.now (spelled_of c.args.spelled.now) c.in_ok-insns.insns c.in_ok-insns.ensures)

pub kept_code-requires : goal.kept_code-requires
kept_code-requires c = rw c.as_slice-insns.ensures (placed c.args.pool.now (spelled_of c.args.spelled.now) c.in_ok-insns.insns c.in_ok-insns.ensures)

pub returns-in_err-check_rows : goal.returns-in_err-check_rows
returns-in_err-check_rows c =
    let p = err_from_is_err_and c.from_residual-in_err-check_rows.result c.from_residual-in_err-check_rows.ensures.1 in
    let s : ClassOrder.Spelled = spelled_of c.args.spelled.now in
    let in_place = placed c.args.pool.now s c.in_ok-insns.insns c.in_ok-insns.ensures in
    let marks = rw c.as_slice-insns.ensures at c.in_ok-starts.ensures in
    let same = start_is c.args.spelled.now.code.now c.in_ok-starts.starts c.in_ok-insns.insns in_place marks in
    rw (p.1, p.2) (stops_at_row c.args.pool.now s c.in_ok-insns.insns c.in_ok-insns.ensures (rw c.as_slice-insns.ensures at c.in_ok-check_jumps.ensures) (is_marked c.in_ok-starts.starts) same
    c.in_err-check_rows.field-0.0 (rw c.as_slice.ensures at c.in_err-check_rows.ensures))

pub returns : goal.returns
returns c =
    let s : ClassOrder.Spelled = spelled_of c.args.spelled.now in
    let in_place = placed c.args.pool.now s c.in_ok-insns.insns c.in_ok-insns.ensures in
    let marks = rw c.as_slice-insns.ensures at c.in_ok-starts.ensures in
    let same = start_is c.args.spelled.now.code.now c.in_ok-starts.starts c.in_ok-insns.insns in_place marks in
    let passed = passes c.args.pool.now s c.in_ok-insns.insns c.in_ok-insns.ensures (rw c.as_slice-insns.ensures at c.in_ok-check_jumps.ensures) (is_marked c.in_ok-starts.starts) same (rw c.as_slice.ensures at c.in_ok-check_rows.ensures) in
    let kept = rw c.as_slice-insns.ensures at c.in_ok-kept_code.ensures in
    rw kept passed
