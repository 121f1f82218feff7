use Rattle.std.proofs.Common.{◌<◌, ◌-◌, length, arith}
use Rattle.std.proofs.lemmas.Result.{err_from_is_err_and}
use Rattle.class_read.proofs.InsnsRead.{begins, moves_on, takes, stops, is_all}
use Rattle.class_read.proofs.instructions.instructions.Goals as goal

pub loop-pc-init : goal.loop-pc-init
loop-pc-init c = rw c.new-insns.ensures (begins c.args.place c.args.pool.now c.args.code.now)

pub returns-in_err-placed : goal.returns-in_err-placed
returns-in_err-placed c =
    let p = err_from_is_err_and c.from_residual.result c.from_residual.ensures.1 in
    rw (p.1, p.2) (stops c.args.place c.args.pool.now c.args.code.now c.loop-pc.insns c.loop-pc.pc c.in_err-placed.field-0.0 c.loop-pc-test.true c.in_err-placed.ensures c.loop-pc.invariant)

pub loop-pc-smaller : goal.loop-pc-smaller
loop-pc-smaller c =
    let moves = moves_on c.args.place c.args.pool.now c.args.code.now c.loop-pc.pc c.in_ok-placed.placed c.in_ok-placed.ensures in
    let smaller : length c.args.code.now - c.in_ok-placed.placed.next < length c.args.code.now - c.loop-pc.pc = omega arith in
    smaller

pub loop-pc-preserved : goal.loop-pc-preserved
loop-pc-preserved c =
    rw c.in_ok-push.ensures.ok
    (takes c.args.place c.args.pool.now c.args.code.now c.loop-pc.insns c.loop-pc.pc c.in_ok-placed.placed c.loop-pc-test.true c.in_ok-placed.ensures c.loop-pc.invariant)

pub returns : goal.returns
returns c = is_all c.args.place c.args.pool.now c.args.code.now c.loop-pc.insns c.loop-pc.pc c.loop-pc-test.false c.loop-pc.invariant
