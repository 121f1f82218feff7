use Rattle.contexts.proofs.ShortContexts.{short}
use Rattle.contexts.proofs.laws.contexts_are_short.Goals as goal

pub returns : goal.returns
returns g c = λ contexts sites is.
    short (g.X.Contexts.policy contexts) (g.met.X.Contexts.keeps_two contexts) sites is
