use Rattle.std.proofs.Common.{◌∙◌, ap, ℕ, List}
use Rattle.jo_prog.specs.Labels.{flows_by}
use Rattle.chain_report.proofs.LevelRows.{same_flows}
use Rattle.chain_report.proofs.ends.rows_of.Goals as goal

pub returns-in-Ok : goal.returns-in-Ok
returns-in-Ok c = λ a b. same_flows c.as_slice-pairs.result.now c.in-Ok.rows c.in-Ok.ensures.flows a b ∙ ap (λ (ps : List (ℕ × ℕ)). flows_by ps a b) c.as_slice-pairs.ensures
