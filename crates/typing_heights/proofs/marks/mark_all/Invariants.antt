use Rattle.std.proofs.Common.{◌≡◌, drop}
use Rattle.typing_heights.specs.Marks.{all_marked}
use Rattle.typing_heights.proofs.marks.mark_all.Given as goal

abbrev pub invariant-loop-to : goal.invariant-loop-to
invariant-loop-to l = all_marked l.height (drop l.to-index l.targets) (record { heights = l.heights; found = l.found.items })
    ≡ all_marked l.height l.targets (record { heights = l.initial.heights; found = l.initial.found.items })
