use Rattle.std.proofs.Common.{rules, ◌≡◌, List, Some, true, slice_get, subst}
use Rattle.dependence.specs.declared.flows.Use.{Use}
use Rattle.fact_sets.specs.Seen.{Known, instance_seen}
use Rattle.heap_deps.specs.Items.{GrowsOrStops}
use Rattle.heap_deps.specs.Accesses.{InstanceMakes}
use Rattle.heap_deps.specs.FlowSets.{NumberMakes}
use Rattle.heap_deps.proofs.GrowLemmas.{or_stops_alike}
use Rattle.heap_deps.proofs.NumberLemmas.{number_told}
use Rattle.heap_deps.proofs.accesses.add_accesses_of.Goals as goal

pub returns : goal.returns
returns g c =
    let program = c.args.program.now in
    let labels = c.args.labels.now in
    let list = g.X.Contexts.list in
    let L = c.args.facts.now in
    let n = c.args.instance in
    let key = c.instance-key.result in
    let typed = c.get-typed.result.now in
    let own = c.at-own.result.now in
    let old = c.args.graph.now in
    let new = c.add_instance_accesses.new.graph in
    let r = c.add_instance_accesses.result in
    let sure : c.reached.result ≡ true = search rules in
    let flow : slice_get c.args.flows.now n ≡ Some own = subst (λ k. slice_get c.args.flows.now k ≡ Some own) c.number.ensures c.at-own.ensures in
    let made : GrowsOrStops r old new (InstanceMakes program labels (Known list L) (instance_seen list key) typed own.flow own.uses own.first) =
    subst (λ (us : List Use). GrowsOrStops r old new (InstanceMakes program labels (Known list L) (instance_seen list key) typed own.flow us own.first)) c.as_slice-uses.ensures c.add_instance_accesses.ensures in
    or_stops_alike r old new (InstanceMakes program labels (Known list L) (instance_seen list key) typed own.flow own.uses own.first) (NumberMakes program labels list L c.args.typings.now c.args.flows.now n) made
    (number_told program labels list L c.args.typings.now c.args.flows.now n key typed own (c.reached.ensures.0 sure) c.instance-key.ensures c.get-typed.ensures flow)
