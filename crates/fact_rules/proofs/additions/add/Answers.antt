use Rattle.std.proofs.Common.{◌≡◌, Contains, sym, subst}
use Rattle.fact_rules.specs.Adds.{Adds}
use Rattle.fact_rules.proofs.AddsLemmas.{adds_push}
use Rattle.fact_rules.proofs.additions.add.Goals as goal

pub returns : goal.returns
returns g c =
    subst (λ items. Adds (Contains c.args.following.now.items) (Contains items) (λ f. f ≡ c.args.fact)) (sym c.in_ok-push.ensures.items)
    (adds_push c.args.following.now.items c.args.fact)
