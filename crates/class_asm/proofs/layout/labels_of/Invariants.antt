use Rattle.std.proofs.Common.{◌≡◌, [], false, drop}
use Rattle.class_asm.specs.Layout.{size_from, settings_by}
use Rattle.class_asm.proofs.layout.labels_of.Given as goal

abbrev pub invariant-loop-line : goal.invariant-loop-line
invariant-loop-line l = record {
  size : size_from l.caught l.pc (drop l.line-index l.body) ≡ size_from false 0 l.body;
  settings : settings_by l.labels l.caught l.pc (drop l.line-index l.body) ≡ settings_by [] false 0 l.body;
}
