use Rattle.control_dep.proofs.PairLemmas.{are_controlled}
use Rattle.control_dep.proofs.pairs.add_pairs_from.Goals as goal

pub add_controlled-requires : goal.add_controlled-requires
add_controlled-requires c = record {
  found = are_controlled c.args.flow.now c.args.b c.successors.result.now c.reach_behind.new.found c.successors.ensures.successors (c.branches.ensures.0 c.if-not-branches.false) c.reach_behind.ensures.found;
}
