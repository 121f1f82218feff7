use Rattle.std.proofs.Common.{rules, ◌≡◌, List, ℕ, sym, subst}
use Rattle.dep_nodes.specs.OnceLists.{IsOnceEach}
use Rattle.dep_nodes.specs.declared.kinds.NodeKind.{NodeKind}
use Rattle.flow_graph.specs.Adding.{HasThose}
use Rattle.flow_graph.specs.Rows.{IsNumberAmong}
use Rattle.flow_graph.proofs.RowLemmas.{successors_are}
use Rattle.flow_graph.proofs.wide.row_of.Goals as goal

pub returns : goal.returns
returns c =
    let steps = c.in_ok-steps.steps.items in
    let numbers = c.in_ok-numbers.numbers.items in
    let same : c.in_ok-successors.successors ≡ numbers = search rules in
    let among = subst (λ (ks : List NodeKind). HasThose (IsNumberAmong c.args.nodes.now ks) numbers) c.as_slice.ensures.value c.in_ok-numbers.ensures.those in
    record {
      node = c.node_of.ensures;
      successors = successors_are c.args.program.now c.args.method c.args.nodes.now c.args.kind steps numbers c.in_ok-successors.successors c.in_ok-steps.ensures among same;
      once = subst (λ (xs : List ℕ). IsOnceEach xs) (sym same) c.in_ok-numbers.ensures.once;
      reads = c.in_ok-reads.ensures;
      writes = c.in_ok-writes.ensures;
    }
