use Rattle.std.proofs.Common.{◌≤◌, length, drop}
use Rattle.chain_report.specs.NodeTexts.{AreTextsFrom}
use Rattle.chain_report.proofs.node_texts.node_texts.Given as goal

-- the table has the nodes from this one on
abbrev pub invariant-loop-left : goal.invariant-loop-left
invariant-loop-left l = (l.left ≤ length l.graph) × AreTextsFrom l.program l.left (drop l.left l.graph) l.texts

abbrev pub decreases-loop-left : goal.decreases-loop-left
decreases-loop-left l = l.left
