use Rattle.std.proofs.Common.{◌+◌, List, sym, ◌∙◌, subst, arith}
use Rattle.thread_regions.specs.declared.tables.ForkRegions.{ForkRegions}
use Rattle.thread_regions.specs.Regions.{AreRegions}
use Rattle.thread_regions.proofs.RegionLemmas.{RegionsSoFar, listed_inside, regions_of_fork, so_far_more, so_far_all}
use Rattle.thread_regions.proofs.finding.regions_of.Goals as goal

pub fork_regions-requires-clause-fork : goal.fork_regions-requires-clause-fork
fork_regions-requires-clause-fork c =
    omega (arith, listed_inside c.args.graph.now c.args.forks.now c.loop-fork.fork-index c.fork-item.result c.requires.forks c.loop-fork-test.true c.fork-item.is, c.len.ensures)

pub loop-fork-preserved : goal.loop-fork-preserved
loop-fork-preserved c =
    let nodes = c.args.graph.now in
    let forks = c.args.forks.now in
    let i = c.loop-fork.fork-index in
    let fork = c.fork-item.result in
    let r = c.in_ok-regions.regions in
    let told = c.in_ok-regions.ensures in
    record {
      found = told.found ∙ c.loop-fork.invariant.found;
      work = told.work ∙ c.loop-fork.invariant.work;
      so_far = subst (λ (xs : List ForkRegions). RegionsSoFar nodes forks xs (i + 1)) (sym c.in-Ok.ensures.ok)
          (so_far_more nodes forks c.loop-fork.all i fork r c.loop-fork-test.true c.fork-item.is told.fork
          (regions_of_fork nodes c.in_ok-search.search c.len.result fork r c.in_ok-search.ensures c.len.ensures told.fork told.child told.after) c.loop-fork.invariant.so_far);
    }

pub returns : goal.returns
returns c =
    let nodes = c.args.graph.now in
    subst (AreRegions nodes) (sym c.of.ensures)
    (so_far_all nodes c.args.forks.now c.loop-fork.all c.loop-fork.fork-index c.requires.forks (omega (arith, c.loop-fork-test.false)) c.loop-fork.invariant.so_far)
