use Rattle.contexts.proofs.SiteListLemmas.{same_sites}
use Rattle.contexts.proofs.laws.site_lists_tell_contexts_apart.Goals as goal

pub returns : goal.returns
returns g c = λ a b e.
    let laws = g.met.X.Contexts in
    laws.equal_lists a b (same_sites (g.X.Contexts.list a) (g.X.Contexts.list b) (laws.at_most_two a)
    (laws.at_most_two b) e)
