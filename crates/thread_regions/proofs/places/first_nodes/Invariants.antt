use Rattle.std.proofs.Common.{map}
use Rattle.std.specs.HashMap.{get}
use Rattle.thread_regions.specs.Places.{place_of, same_place}
use Rattle.thread_regions.proofs.FirstLemmas.{AreKnown}
use Rattle.thread_regions.proofs.places.first_nodes.Given as goal

abbrev pub invariant-loop-n : goal.invariant-loop-n
invariant-loop-n l = AreKnown (map (λ one. place_of l.group one.name) l.graph) (get same_place l.known) l.firsts.items l.n
