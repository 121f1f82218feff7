use Rattle.std.proofs.Common.{◌<◌, arith}
use Rattle.class_read.proofs.CodeRoom.{bytes_fit}
use Rattle.class_read.proofs.code.attribute.Goals as goal

pub returns-clause-room : goal.returns-clause-room
returns-clause-room c =
    let fit = bytes_fit c.args.size c.in_ok-code_count.code_count c.in_ok-code_count.behind_count.now c.in_ok-code.code.now c.in_ok-code.behind_code.now c.in_ok-code.ensures in
    let size : c.args.size < 4294967296 = omega arith in
    (omega (arith, fit.0), omega (arith, fit.0, fit.1, c.place_of-2.ensures), omega (arith, c.in_ok-rows.ensures.few, c.in_ok-rows.ensures.eights, c.place_of-3.ensures))
