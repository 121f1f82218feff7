use Rattle.std.proofs.Common.{◌≡◌, drop}
use Rattle.std.specs.List.{list_any}
use Rattle.jo_prog.specs.PlainCode.{is_release}
use Rattle.jo_policy.proofs.threads.has_release.Given as goal

-- the items that are left decide
abbrev pub invariant-loop-item : goal.invariant-loop-item
invariant-loop-item l = list_any is_release (drop l.item-index l.labelled) ≡ list_any is_release l.labelled
