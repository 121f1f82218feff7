use Rattle.jo_prog.specs.TypingPaths.{HasHeightAt}
use Rattle.fact_sets.specs.Seen.{Known}
use Rattle.sdg.proofs.RuleLemmas.{flow_by_rule}
use Rattle.sdg.proofs.flow_links.flow_links_are_by_rules.Goals as goal

pub returns : goal.returns
returns g c = λ list program labels policy i l runs within. flow_by_rule program labels policy (Known list c.args.facts.now) (HasHeightAt program) i l runs within
