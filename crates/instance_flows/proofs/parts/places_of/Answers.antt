use Rattle.std.proofs.Common.{eqb}
use Rattle.std.proofs.lemmas.List.Filters.{dedup_is}
use Rattle.flow_graph.proofs.NumberLemmas.{numbers_sorted}
use Rattle.instance_flows.specs.Parts.{IsPlaceAmong}
use Rattle.instance_flows.proofs.parts.places_of.Goals as goal

pub returns-clause-those : goal.returns-clause-those
returns-clause-those c =
    (numbers_sorted (IsPlaceAmong c.args.numbers.now c.args.ends.now) c.in_ok-places.places.items c.sort.new.self.items c.dedup.new.self.items c.in_ok-places.ensures c.in_ok-sort.ensures.permutation c.in_ok-sort.ensures.sorted
    (dedup_is eqb c.sort.new.self.items c.dedup.new.self.items c.dedup.ensures.filtered)).0

pub returns-clause-once : goal.returns-clause-once
returns-clause-once c =
    (numbers_sorted (IsPlaceAmong c.args.numbers.now c.args.ends.now) c.in_ok-places.places.items c.sort.new.self.items c.dedup.new.self.items c.in_ok-places.ensures c.in_ok-sort.ensures.permutation c.in_ok-sort.ensures.sorted
    (dedup_is eqb c.sort.new.self.items c.dedup.new.self.items c.dedup.ensures.filtered)).1
