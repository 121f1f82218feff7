use Rattle.std.proofs.Common.{◌≡◌, drop}
use Rattle.class_asm.specs.Making.{IsMaker}
use Rattle.class_asm.specs.Assembling.{seen}
use Rattle.class_asm.specs.Assembly.{made_by}
use Rattle.class_asm.proofs.assembly.add_lines.Given as goal

abbrev pub invariant-loop-index : goal.invariant-loop-index
invariant-loop-index l = record {
  maker : IsMaker l.parts.pool;
  made : made_by (seen l.parts) (drop l.index l.lines) ≡ made_by (seen l.initial.parts) l.lines;
}
