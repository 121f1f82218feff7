use Rattle.std.proofs.Common.{ℕ, subst}
use Rattle.dep_nodes.specs.declared.access_table.Accessor.{Accessor}
use Rattle.std.specs.Prelude.{◌↔◌, List}
use Rattle.heap_deps.specs.CellEdges.{LeadsBy, LeadsThrough}
use Rattle.heap_deps.proofs.CellEdgeLemmas.{ends_more, ends_all}
use Rattle.heap_deps.proofs.cell_edges.ends_of.Goals as goal

pub loop-at-preserved : goal.loop-at-preserved
loop-at-preserved c =
    ends_more c.args.cells.now c.loop-at.at-index c.at-item.result c.in_ok-ends.ends c.loop-at.all c.add_ends.new.all c.loop-at-test.true c.at-item.is c.loop-at.invariant c.in_ok-add_ends.ensures
    (subst (λ (ys : List Accessor). (from to : ℕ) → LeadsThrough c.in_ok-ends.ends from to ↔ LeadsBy ys from to) c.as_slice.ensures c.in_ok-ends.ensures)

pub returns : goal.returns
returns c = ends_all c.args.cells.now c.loop-at.at-index c.loop-at.all c.loop-at-test.false c.loop-at.invariant
