use Rattle.fact_sets.specs.Seen.{Known}
use Rattle.sdg.specs.Growth.{From}
use Rattle.sdg.specs.TargetLinks.{LinkAt}
use Rattle.sdg.specs.TargetRules.{ByTarget}
use Rattle.sdg.proofs.NamedLemmas.{seen_added}
use Rattle.sdg.proofs.SeenTargets.{targets_alike}
use Rattle.sdg.proofs.target_links.add_target_links.Goals as goal

pub returns : goal.returns
returns g c = λ list tells named.
    let lists = c.args.facts.now in
    let once = c.instances-count.ensures.once in
    seen_added list tells lists.instances once c.args.graph.now c.add_numbered.new.graph (From c.args.graph.now.nodes (LinkAt lists.facts)) (ByTarget (Known list lists)) named
    (targets_alike list tells lists once c.args.graph.now) c.add_numbered.result c.add_numbered.ensures
