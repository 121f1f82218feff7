use Rattle.std.proofs.Common.{rules, ◌≡◌, List, ℕ, sym, subst}
use Rattle.dep_nodes.specs.OnceLists.{IsOnceEach}
use Rattle.dependence.proofs.BehindLemmas.{writes_are}
use Rattle.instance_flows.proofs.PartLemmas.{successors_kept, reads_are, both_ways_on}
use Rattle.instance_flows.proofs.parts.row_of.Goals as goal

pub returns : goal.returns
returns c =
    let n = c.args.n in
    let flow = c.args.flow.now in
    let numbers = c.args.numbers.now in
    let same : c.in_ok-successors.successors ≡ c.in_ok-ends.ends.items = search rules in
    record {
      node = c.node.ensures;
      successors = successors_kept c.args.kept.now numbers n c.successors.result.now c.in_ok-ends.ends.items c.in_ok-successors.successors c.successors.ensures.successors c.in_ok-ends.ensures.those same;
      once = subst (λ (xs : List ℕ). IsOnceEach xs) (sym same) c.in_ok-ends.ensures.once;
      reads = λ v. both_ways_on (c.in_ok-reads.ensures v) (reads_are flow n c.reads.result.now c.reads.ensures.reads v);
      writes = λ v. both_ways_on (c.in_ok-writes.ensures v) (writes_are flow n c.writes.result.now c.writes.ensures.writes v);
    }
