use Rattle.std.proofs.Common.{◌≡◌, ◌*◌, length}
use Rattle.thread_regions.proofs.RegionLemmas.{RegionsSoFar}
use Rattle.thread_regions.proofs.finding.regions_of.Given as goal

abbrev pub invariant-loop-fork : goal.invariant-loop-fork
invariant-loop-fork l = record {
  found : length l.found ≡ 5 * length l.graph;
  work : l.work ≡ 5 * length l.graph;
  so_far : RegionsSoFar l.graph l.forks l.all l.fork-index;
}
