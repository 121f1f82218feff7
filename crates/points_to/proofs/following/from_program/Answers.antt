use Rattle.std.proofs.Common.{subst}
use Rattle.fact_sets.specs.Seen.{Listed}
use Rattle.fact_rules.specs.Adds.{Adds}
use Rattle.fact_rules.specs.FirstRules.{ByFirst}
use Rattle.points_to.proofs.AdvanceLemmas.{lists_those}
use Rattle.points_to.proofs.following.from_program.Goals as goal

pub returns : goal.returns
returns g c =
    let list = g.X.Contexts.list in
    let items = c.first_facts.new.following.items in
    lists_those list items (ByFirst c.args.program.now c.args.entry)
    (subst (λ xs. Adds (Listed list xs) (Listed list items) (ByFirst c.args.program.now c.args.entry)) c.new-following.ensures.items c.in_ok-first_facts.ensures)
