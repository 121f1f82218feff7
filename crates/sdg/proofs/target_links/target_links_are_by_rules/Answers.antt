use Rattle.jo_prog.specs.TypingPaths.{HasHeightAt}
use Rattle.fact_sets.specs.Seen.{Known}
use Rattle.sdg.proofs.RuleLemmas.{target_by_rule, rule_by_target}
use Rattle.sdg.proofs.target_links.target_links_are_by_rules.Goals as goal

pub returns-clause-sound : goal.returns-clause-sound
returns-clause-sound g c = λ list program labels policy l by. target_by_rule program labels policy (Known list c.args.facts.now) (HasHeightAt program) l by

pub returns-clause-complete : goal.returns-clause-complete
returns-clause-complete g c = λ list program labels policy i j a b word is by. rule_by_target program labels policy (Known list c.args.facts.now) (HasHeightAt program) i j a b word is by
