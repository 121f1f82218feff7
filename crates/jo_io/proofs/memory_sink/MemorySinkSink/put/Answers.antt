use Rattle.std.proofs.Common.{take, drop, arith}
use Rattle.std.proofs.Math.ListN.{take-append-drop}
use Rattle.std.proofs.lemmas.Grind.{common_steps}
use Rattle.jo_io.proofs.memory_sink.MemorySinkSink.put.Goals as goal

-- what was taken is a beginning of the piece
pub returns-clause-part : goal.returns-clause-part
returns-clause-part c =
    let n = c.min.result in
    (take n c.args.bytes.now, drop n c.args.bytes.now, take-append-drop n c.args.bytes.now, grind (arith, common_steps))
