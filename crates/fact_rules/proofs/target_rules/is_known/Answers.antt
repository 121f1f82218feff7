use Rattle.method_views.proofs.NodeLemmas.{never}
use Rattle.fact_rules.proofs.TargetLemmas.{number_told, no_number}
use Rattle.fact_rules.proofs.target_rules.is_known.Goals as goal

pub returns-in-Some : goal.returns-in-Some
returns-in-Some g c = λ list key tells is.
    let told = number_told list tells c.args.facts.now c.args.instance c.args.pc key c.args.to.now c.instances-count.ensures.once is c.targets.result.now c.in-Some.number c.targets.ensures.each c.in-Some.ensures.found in (
      λ yes. told.0 (c.has_number.ensures.0 yes),
      λ known. c.has_number.ensures.1 (told.1 known),
    )

pub returns-in-None : goal.returns-in-None
returns-in-None g c = λ list key tells is.
    never (no_number list tells c.args.facts.now c.args.instance c.args.pc key c.args.to.now c.instances-count.ensures.once is c.in-None.ensures.absent)
