use Rattle.std.proofs.Common.{◌≡◌, drop}
use Rattle.class_asm.specs.Encoding.{behind, long_offsets}
use Rattle.class_asm.proofs.encoding.add_offsets.Given as goal

abbrev pub invariant-loop-name : goal.invariant-loop-name
invariant-loop-name l = behind l.bytes.items (long_offsets l.labels l.pc (drop l.name-index l.names)) ≡ behind l.initial.bytes.items (long_offsets l.labels l.pc l.names)
