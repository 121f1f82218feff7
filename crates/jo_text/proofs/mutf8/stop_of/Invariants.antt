use Rattle.std.proofs.Common.{take}
use Rattle.jo_text.specs.CharScan.{Awaits}
use Rattle.jo_text.specs.Mutf8.{IsMutf8}
use Rattle.jo_text.proofs.mutf8.stop_of.Given as goal

abbrev pub invariant-loop-place : goal.invariant-loop-place
invariant-loop-place l = Awaits IsMutf8 (take l.place l.bytes) l.awaited
