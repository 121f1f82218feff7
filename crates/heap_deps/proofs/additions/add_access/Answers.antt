use Rattle.std.proofs.lemmas.Result.{on_ok_weaker}
use Rattle.dep_nodes.specs.declared.accesses.Access.{Access}
use Rattle.dep_nodes.specs.OneForm.{plain_cell}
use Rattle.heap_deps.specs.Items.{access}
use Rattle.heap_deps.proofs.ItemLemmas.{access_grows, one_more_or_stops}
use Rattle.heap_deps.proofs.additions.add_access.Goals as goal

pub returns : goal.returns
returns c =
    let old = c.args.graph.now in
    let new = c.add_access.new.self in
    let a : Access = record { cell = plain_cell c.args.cell; write = c.args.write } in
    one_more_or_stops c.add_access.result old new (access c.args.node a) (on_ok_weaker c.add_access.result (access_grows old new c.args.node a) c.add_access.ensures.ok) c.add_access.ensures.err c.add_access.ensures.limit
