use Rattle.std.proofs.Common.{◌≡◌, drop}
use Rattle.jo_prog.specs.Labels.{label_among}
use Rattle.jo_prog.proofs.labels.label_among.Given as goal

abbrev pub invariant-loop-named : goal.invariant-loop-named
invariant-loop-named l = label_among (drop l.named-index l.items) l.method ≡ label_among l.items l.method
