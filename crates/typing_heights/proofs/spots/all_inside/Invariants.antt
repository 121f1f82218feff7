use Rattle.std.proofs.Common.{◌≡◌, ◌++◌, drop, map}
use Rattle.std.specs.Prelude.{pos}
use Rattle.jo_prog.specs.TypingPaths.{leads_outside}
use Rattle.typing_heights.proofs.spots.all_inside.Given as goal

abbrev pub invariant-loop-target : goal.invariant-loop-target
invariant-loop-target l = record {
  same_test : leads_outside l.code (drop l.target-index l.targets) ≡ leads_outside l.code l.targets;
  same_pcs : map pos l.pcs ++ drop l.target-index l.targets ≡ l.targets;
}
