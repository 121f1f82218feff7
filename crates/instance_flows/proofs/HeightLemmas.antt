-- The wide graph by heights that are the same.
use Rattle.std.specs.Prelude.{◌↔◌}
use Rattle.std.proofs.Common.{ℕ, List}
use Rattle.jo_prog.specs.declared.program.Program.{Program}
use Rattle.dep_nodes.specs.declared.kinds.NodeKind.{NodeKind}
use Rattle.dep_nodes.specs.declared.kinds.NodeKind.TheVariants.{Call}
use Rattle.dependence.specs.declared.flow.Place.{Place}
use Rattle.dependence.specs.declared.flows.FlowRow.{FlowRow}
use Rattle.dependence.specs.NodePlaces.{Reads, Writes, ArgumentPlace, by_insn, by_catch, by_entry, by_result, by_throw, of_argument}
use Rattle.dependence.specs.GraphsAsData.{ListsRead, IsWideGraph}
use Rattle.instance_flows.proofs.PartLemmas.{both_ways_on}

module _ (program : Program) (m : ℕ) (H K : ℕ → ℕ → Type 0) (to : (pc h : ℕ) → H pc h → K pc h) where
  reads_on : (n : NodeKind) (v : Place) → Reads program m H n v → Reads program m K n v
  reads_on _ _ (by_insn pc next height insn v at plain high c) = by_insn pc next height insn v at plain (to pc height high) c
  reads_on _ _ (by_catch k v e) = by_catch k v e

  argument_on : (pc i : ℕ) (v : Place) → ArgumentPlace program m H pc i v → ArgumentPlace program m K pc i v
  argument_on _ _ _ (of_argument pc height i call v high below e) = of_argument pc height i call v (to pc height high) below e

  lists_on : (n : NodeKind) (v : Place) → ListsRead program m H n v → ListsRead program m K n v
  lists_on (Call pc) v at = (at.0, argument_on pc at.0 v at.1)
  lists_on n v read = reads_on n v read

  writes_on : (n : NodeKind) (v : Place) → Writes program m H n v → Writes program m K n v
  writes_on _ _ (by_entry count k v has below e) = by_entry count k v has below e
  writes_on _ _ (by_insn pc next height insn v at plain high c) = by_insn pc next height insn v at plain (to pc height high) c
  writes_on _ _ (by_result pc height call result v high gives e) = by_result pc height call result v (to pc height high) gives e
  writes_on _ _ (by_throw pc v e) = by_throw pc v e
  writes_on _ _ (by_catch k v e) = by_catch k v e

pub wide_on : (program : Program) (m : ℕ) (H K : ℕ → ℕ → Type 0) (flow : List FlowRow) → ((pc h : ℕ) → H pc h ↔ K pc h) → IsWideGraph program m H flow → IsWideGraph program m K flow
wide_on program m H K flow same is = record {
  graph = record {
    each_node = is.graph.each_node;
    only_nodes = is.graph.only_nodes;
    once = is.graph.once;
    inside = is.graph.inside;
    edges = is.graph.edges;
    reads = λ i n v at. both_ways_on (is.graph.reads i n v at) (lists_on program m H K there n v, lists_on program m K H back n v);
    writes = λ i n v at. both_ways_on (is.graph.writes i n v at) (writes_on program m H K there n v, writes_on program m K H back n v);
  };
  nodes = is.nodes;
}
  where
    there : (pc h : ℕ) → H pc h → K pc h
    there pc h = (same pc h).0

    back : (pc h : ℕ) → K pc h → H pc h
    back pc h = (same pc h).1
