use Rattle.std.proofs.Common.{◌≡◌, length}
use Rattle.typing_heights.specs.Gauges.{AreGauges}
use Rattle.typing_heights.specs.Subjects.{program_of, typable_of}
use Rattle.typing_heights.proofs.gauges.gauges_of.Given as goal

abbrev pub invariant-loop-place : goal.invariant-loop-place
invariant-loop-place l = record {
  long : length l.gauges.items ≡ l.place;
  are : AreGauges (program_of l.subject) (typable_of l.subject) l.gauges.items;
}
