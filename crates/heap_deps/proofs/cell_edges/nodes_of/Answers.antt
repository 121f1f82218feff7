use Rattle.std.proofs.Common.{Contains, sym, subst}
use Rattle.std.proofs.lemmas.List.{take_all}
use Rattle.heap_deps.proofs.CellEdgeLemmas.{nodes_more}
use Rattle.heap_deps.proofs.cell_edges.nodes_of.Goals as goal

pub loop-accessor-preserved : goal.loop-accessor-preserved
loop-accessor-preserved c =
    nodes_more c.args.accessors.now c.loop-accessor.accessor-index c.accessor-item.result c.args.write c.loop-accessor.nodes c.add_node.new.nodes c.loop-accessor-test.true c.accessor-item.is c.loop-accessor.invariant c.in_ok-add_node.ensures

pub returns : goal.returns
returns c n =
    let e = take_all c.loop-accessor.accessor-index c.args.accessors.now c.loop-accessor-test.false in
    (λ there. subst (λ ys. Contains ys (record { node = n; write = c.args.write })) e ((c.loop-accessor.invariant n).0 there), λ there. (c.loop-accessor.invariant n).1 (subst (λ ys. Contains ys (record { node = n; write = c.args.write })) (sym e) there))
