use Rattle.std.proofs.Common.{◌≡◌, drop}
use Rattle.class_asm.specs.Encoding.{behind, case_bytes}
use Rattle.class_asm.proofs.encoding.add_cases.Given as goal

abbrev pub invariant-loop-case : goal.invariant-loop-case
invariant-loop-case l = behind l.bytes.items (case_bytes l.labels l.pc (drop l.case-index l.cases)) ≡ behind l.initial.bytes.items (case_bytes l.labels l.pc l.cases)
