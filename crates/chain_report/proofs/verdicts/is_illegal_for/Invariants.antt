use Rattle.std.proofs.Common.{◌≡◌, drop}
use Rattle.std.specs.List.{list_any}
use Rattle.chain_report.specs.Verify.{is_illegal_at}
use Rattle.chain_report.proofs.verdicts.is_illegal_for.Given as goal

abbrev pub invariant-loop-observer : goal.invariant-loop-observer
invariant-loop-observer l = list_any (is_illegal_at l.labels l.graph l.name l.between.start l.between.end) (drop l.observer-index l.labels.observers) ≡ list_any (is_illegal_at l.labels l.graph l.name l.between.start l.between.end) l.labels.observers
