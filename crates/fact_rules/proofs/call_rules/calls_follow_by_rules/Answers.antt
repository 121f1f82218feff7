use Rattle.jo_prog.specs.TypingPaths.{HasHeightAt}
use Rattle.fact_sets.specs.Seen.{Known}
use Rattle.fact_rules.proofs.RuleLemmas.{call_by_rule}
use Rattle.fact_rules.proofs.call_rules.calls_follow_by_rules.Goals as goal

pub returns : goal.returns
returns g c = λ list program policy entry fact by. call_by_rule program policy (HasHeightAt program) entry (Known list c.args.facts.now) fact by
