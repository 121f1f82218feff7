use Rattle.jo_prog.specs.TypingPaths.{HasHeightAt}
use Rattle.dependence.specs.FactRules.{Derivable}
use Rattle.points_to.proofs.GroupLemmas.{to_groups, from_groups}
use Rattle.points_to.proofs.laws.rules_are_by_groups.Goals as goal

pub returns : goal.returns
returns c = λ program policy entry g.
    let facts = Derivable program policy (HasHeightAt program) entry in
    (λ rule. to_groups program policy (HasHeightAt program) entry facts rule, λ groups. from_groups program policy (HasHeightAt program) entry facts g groups)
