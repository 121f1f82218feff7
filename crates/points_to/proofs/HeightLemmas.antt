-- A wide graph at the heights of typing is the one at the heights that typing paths give.
use Rattle.std.proofs.Common.{◌≡◌, ◌↔◌, ℕ, ◌<◌, List, Contains}
use Rattle.jo_prog.specs.declared.program.Program.{Program}
use Rattle.dep_nodes.specs.declared.kinds.NodeKind.{NodeKind}
use Rattle.dep_nodes.specs.declared.kinds.NodeKind.TheVariants.{Entry, Exit, Instr, Call, RetVal, RetKind, Throw, Catch, Poll, XPoll, Arg, Param, Kind, Value, Thrown}
use Rattle.dependence.specs.declared.flow.Place.{Place}
use Rattle.dependence.specs.declared.flows.FlowRow.{FlowRow}
use Rattle.dependence.specs.NodePlaces
use Rattle.dependence.specs.NodePlaces.{Reads, Writes, ArgumentPlace}
use Rattle.dependence.specs.GraphsAsData.{IsWideGraph, IsDataOf, ListsRead}

module _ (program : Program) (m : ℕ) (H K : ℕ → ℕ → Type 0) (to : (pc height : ℕ) → H pc height → K pc height) where
  reads_to : (n : NodeKind) (v : Place) → Reads program m H n v → Reads program m K n v
  reads_to _ _ (NodePlaces.by_insn pc next height insn v at plain has among) = NodePlaces.by_insn pc next height insn v at plain (to pc height has) among
  reads_to _ _ (NodePlaces.by_catch k v is) = NodePlaces.by_catch k v is

  argument_to : (pc i : ℕ) (v : Place) → ArgumentPlace program m H pc i v → ArgumentPlace program m K pc i v
  argument_to _ _ _ (NodePlaces.of_argument pc height i call v has below is) = NodePlaces.of_argument pc height i call v (to pc height has) below is

  writes_to : (n : NodeKind) (v : Place) → Writes program m H n v → Writes program m K n v
  writes_to _ _ (NodePlaces.by_entry count k v has below is) = NodePlaces.by_entry count k v has below is
  writes_to _ _ (NodePlaces.by_insn pc next height insn v at plain has among) = NodePlaces.by_insn pc next height insn v at plain (to pc height has) among
  writes_to _ _ (NodePlaces.by_result pc height call result v has gives is) = NodePlaces.by_result pc height call result v (to pc height has) gives is
  writes_to _ _ (NodePlaces.by_throw pc v is) = NodePlaces.by_throw pc v is
  writes_to _ _ (NodePlaces.by_catch k v is) = NodePlaces.by_catch k v is

  lists_to : (n : NodeKind) (v : Place) → ListsRead program m H n v → ListsRead program m K n v
  lists_to (Call pc) v (i, place) = (i, argument_to pc i v place)
  lists_to Entry v reads = reads_to Entry v reads
  lists_to Exit v reads = reads_to Exit v reads
  lists_to (Instr pc) v reads = reads_to (Instr pc) v reads
  lists_to (RetVal pc) v reads = reads_to (RetVal pc) v reads
  lists_to (RetKind pc) v reads = reads_to (RetKind pc) v reads
  lists_to (Throw pc) v reads = reads_to (Throw pc) v reads
  lists_to (Catch k) v reads = reads_to (Catch k) v reads
  lists_to (Poll pc target) v reads = reads_to (Poll pc target) v reads
  lists_to (XPoll pc k) v reads = reads_to (XPoll pc k) v reads
  lists_to (Arg pc i) v reads = reads_to (Arg pc i) v reads
  lists_to (Param i) v reads = reads_to (Param i) v reads
  lists_to Kind v reads = reads_to Kind v reads
  lists_to Value v reads = reads_to Value v reads
  lists_to Thrown v reads = reads_to Thrown v reads

pub graph_at : (program : Program) (m : ℕ) (H K : ℕ → ℕ → Type 0) (wide : List FlowRow) → ((pc height : ℕ) → H pc height ↔ K pc height) → IsWideGraph program m H wide → IsWideGraph program m K wide
graph_at program m H K wide alike is = record {
  graph = record {
    each_node = is.graph.each_node;
    only_nodes = is.graph.only_nodes;
    once = is.graph.once;
    inside = is.graph.inside;
    edges = is.graph.edges;
    reads = λ i n v at. (
      λ r. lists_to program m H K (λ pc height. (alike pc height).0) n v ((is.graph.reads i n v at).0 r),
      λ r. (is.graph.reads i n v at).1 (lists_to program m K H (λ pc height. (alike pc height).1) n v r),
    );
    writes = λ i n v at. (
      λ w. writes_to program m H K (λ pc height. (alike pc height).0) n v ((is.graph.writes i n v at).0 w),
      λ w. (is.graph.writes i n v at).1 (writes_to program m K H (λ pc height. (alike pc height).1) n v w),
    );
  };
  nodes = is.nodes;
}
