use Rattle.std.proofs.Common.{length}
use Rattle.report_texts.proofs.ReportReads.{ReadSoFar}
use Rattle.report_texts.proofs.reading.read_lines.Given as goal

abbrev pub invariant-loop-alloc : goal.invariant-loop-alloc
invariant-loop-alloc l = ReadSoFar l.text l.lines.items l.awaited l.rest

abbrev pub decreases-loop-alloc : goal.decreases-loop-alloc
decreases-loop-alloc l = length l.rest
