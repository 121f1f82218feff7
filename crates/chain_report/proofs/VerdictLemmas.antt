-- A verdict by a table of the spellings of nodes.
use Rattle.std.proofs.Common.{◌≡◌, ℕ, List, Option, Result, subst}
use Rattle.jo_prog.specs.declared.program.Program.{Program}
use Rattle.jo_prog.specs.declared.labels.Labels.{Labels}
use Rattle.dep_nodes.specs.declared.dependence_graph.GraphNode.{GraphNode}
use Rattle.report_texts.specs.declared.lines.ReportLine.{ReportLine}
use Rattle.chain_report.specs.declared.node_texts.NodeTexts.{NodeTexts}
use Rattle.chain_report.specs.declared.verdicts.VerifyFault.{VerifyFault}
use Rattle.chain_report.specs.NodeTexts.{number_by, node_of, AreTextsOf}
use Rattle.chain_report.specs.Verify.{IsVerdictBy, IsVerdict}

same_find : (program : Program) (nodes : List GraphNode) (texts : NodeTexts) → AreTextsOf program nodes texts → number_by texts ≡ node_of program nodes
same_find program nodes texts are = λ i text. are text i

pub verdict_found : {A : Type 0} (program : Program) (labels : Labels) (nodes : List GraphNode) (texts : NodeTexts) (given lines : List ReportLine) (answer : Result A VerifyFault)
    → AreTextsOf program nodes texts → given ≡ lines → IsVerdictBy labels nodes (number_by texts) given answer → IsVerdict program labels nodes lines answer
verdict_found program labels nodes texts given lines answer are same by =
    subst (λ (ls : List ReportLine). IsVerdictBy labels nodes (node_of program nodes) ls answer) same
    (subst (λ (find : List ℕ → Option ℕ). IsVerdictBy labels nodes find given answer) (same_find program nodes texts are) by)
