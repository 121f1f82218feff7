use Rattle.sdg.specs.Growth.{From}
use Rattle.sdg.specs.TargetLinks.{TargetLink, LinkAt}
use Rattle.sdg.proofs.GrowthLemmas.{added_alike}
use Rattle.sdg.proofs.TargetLemmas.{at_targets, no_call}
use Rattle.sdg.proofs.target_links.add_at.Goals as goal

pub returns-in-Some : goal.returns-in-Some
returns-in-Some g c =
    let node = c.args.node.now in
    let facts = c.args.facts.now.facts in
    let targets = c.targets.result.now in
    added_alike c.add_targets.result c.args.graph.now c.add_targets.new.graph (From targets (TargetLink node)) (LinkAt facts node) c.add_targets.ensures
    (at_targets facts node c.in-Some.pc c.pc_of_call.result targets c.pc_of_call.ensures c.in-Some.is c.targets.ensures.each)

pub returns-in-None : goal.returns-in-None
returns-in-None g c = no_call c.args.graph.now c.args.facts.now.facts c.args.node.now c.pc_of_call.result c.pc_of_call.ensures c.in-None.is
