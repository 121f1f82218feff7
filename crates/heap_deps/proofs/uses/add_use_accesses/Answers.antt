use Rattle.std.proofs.Common.{rules, ◌≡◌, true, Some, sym, ◌∙◌}
use Rattle.fact_sets.specs.Seen.{Known, instance_seen}
use Rattle.method_views.specs.Bases.{IsBelowTop}
use Rattle.heap_deps.specs.Adds.{From}
use Rattle.heap_deps.specs.Instructions.{base_access}
use Rattle.heap_deps.specs.ObjectCells.{OfObject, IsPartAccess}
use Rattle.heap_deps.specs.Accesses.{UseMakes}
use Rattle.heap_deps.proofs.GrowLemmas.{or_stops_alike}
use Rattle.heap_deps.proofs.UseLemmas.{use_told}
use Rattle.heap_deps.proofs.uses.add_use_accesses.Goals as goal

pub returns : goal.returns
returns g c =
    let list = g.X.Contexts.list in
    let L = c.args.facts.now in
    let key = c.args.key.now in
    let u = c.args.u.now in
    let flow = c.args.flow.now in
    let access = c.in-Some.access in
    let n = c.node_at-node.result in
    let kind = c.named_by-kind.result in
    let node = c.node.result.now in
    let from = c.node-2.result.now in
    let stands : base_access node.kind node.insn node.field ≡ Some access = sym c.base_access.ensures ∙ c.in-Some.is in
    let sure : c.is_below.result ≡ true = search rules in
    let below : IsBelowTop c.args.typed.now access.pc access.depth u.place = c.is_below.ensures.0 sure in
    or_stops_alike c.add_part_accesses.result c.args.graph.now c.add_part_accesses.new.graph (From c.held-held.result.now (OfObject list L.objects (IsPartAccess n access.part access.write)))
    (UseMakes (Known list L) (instance_seen list key) c.args.typed.now flow c.args.first u) c.add_part_accesses.ensures
    (use_told list g.met.X.Contexts.equal_lists L c.args.instance key c.instances-count.ensures.once c.requires.is c.args.typed.now flow c.args.first u node from c.node.ensures c.node-2.ensures
    access c.held-held.result.now n kind stands below c.named_by-kind.ensures c.node_at-node.ensures c.held-held.ensures.each)
