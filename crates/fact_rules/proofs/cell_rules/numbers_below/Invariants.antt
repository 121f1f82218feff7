use Rattle.std.proofs.Common.{ℕ, ◌<◌, [], length, take, Contains}
use Rattle.fact_rules.specs.Adds.{Adds, From}
use Rattle.fact_rules.specs.CellSteps.{UseHasNumber}
use Rattle.fact_rules.proofs.cell_rules.numbers_below.Given as goal

abbrev pub invariant-loop-u : goal.invariant-loop-u
invariant-loop-u g l = record {
  added : Adds (Contains []) (Contains l.objects.items) (From (take l.u-index l.u-items) (UseHasNumber l.view.typed.now l.view.wide.now l.facts.facts l.instance l.pc l.depth));
  inside : (x : ℕ) → Contains l.objects.items x → x < length l.facts.objects;
}
