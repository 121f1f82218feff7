use Rattle.std.proofs.Common.{rules, ◌≡◌, true, false, refl, ap, ◌∙◌}
use Rattle.std.proofs.lemmas.Bool.{both_ways}
use Rattle.dep_nodes.specs.OneForm.{plain_object, plain_cell}
use Rattle.dep_nodes.specs.declared.accesses.Cell.{Cell}
use Rattle.dep_nodes.specs.declared.accesses.Cell.TheVariants.{Started}
use Rattle.fact_sets.specs.Seen.{object_seen}
use Rattle.heap_deps.specs.ObjectCells.{name_of}
use Rattle.heap_deps.specs.Accesses.{StartsThread, ReadsAndWrites, IsStartBy}
use Rattle.heap_deps.proofs.GrowLemmas.{grows_none, or_stops_alike}
use Rattle.heap_deps.proofs.ObjectLemmas.{plain_name}
use Rattle.heap_deps.proofs.StartLemmas.{where_true}
use Rattle.heap_deps.proofs.nodes.add_start.Goals as goal

pub returns-then-not-starts : goal.returns-then-not-starts
returns-then-not-starts g c =
    let o = object_seen g.X.Contexts.list c.args.object in
    let quiet : c.in-Ok.starts ≡ false = search rules in
    grows_none c.args.graph.now (IsStartBy c.args.program.now c.args.method c.args.op c.args.named.now c.args.resolved c.args.node o)
    (λ x made. both_ways c.in-Ok.starts quiet ((c.in-Ok.ensures o refl).1 made.0))

pub returns : goal.returns
returns g c =
    let o = object_seen g.X.Contexts.list c.args.object in
    let sure : c.in-Ok.starts ≡ true = search rules in
    let starts : StartsThread c.args.program.now c.args.method c.args.op c.args.named.now c.args.resolved o = (c.in-Ok.ensures o refl).0 sure in
    let cell : Cell = plain_cell (Started c.name_of.result) in
    let own : Cell = Started (name_of o) in
    let same : cell ≡ own = ap Started (ap plain_object c.name_of.ensures ∙ plain_name o) in
    or_stops_alike c.add_both.result c.args.graph.now c.add_both.new.graph (ReadsAndWrites c.args.node cell)
    (IsStartBy c.args.program.now c.args.method c.args.op c.args.named.now c.args.resolved c.args.node o) c.add_both.ensures (where_true c.args.node cell own starts same)
