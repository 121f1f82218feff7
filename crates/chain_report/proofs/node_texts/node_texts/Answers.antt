use Rattle.std.proofs.Common.{◌≡◌, ◌-◌, ◌<◌, suc, ℕ, Some, option_map, slice_get, drop, subst, arith}
use Rattle.dep_nodes.specs.declared.dependence_graph.GraphNode.{GraphNode}
use Rattle.chain_report.specs.NodeTexts.{AreTextsFrom}
use Rattle.chain_report.proofs.TextTables.{one_text}
use Rattle.chain_report.proofs.node_texts.node_texts.Goals as goal

pub loop-left-preserved : goal.loop-left-preserved
loop-left-preserved c =
    let some : 0 < c.loop-left.left = omega arith in
    let e : c.loop-left.left ≡ suc (c.loop-left.left - 1) = omega arith in
    let number : c.of.result ≡ c.loop-left.left - 1 = cc in (
      omega arith,
      one_text c.args.program.now c.args.graph.now (c.loop-left.left - 1) c.node.result.now c.loop-left.texts c.put_text.new.texts
          (subst (λ (n : ℕ). option_map (λ (m : GraphNode). m.name) (slice_get c.args.graph.now n) ≡ Some c.node.result.now) number c.node.ensures)
          (subst (λ (n : ℕ). AreTextsFrom c.args.program.now n (drop n c.args.graph.now) c.loop-left.texts) e c.loop-left.invariant.1) c.in_ok-put_text.ensures,
    )
