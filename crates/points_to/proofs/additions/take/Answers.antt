use Rattle.std.proofs.lemmas.Result.{on_ok_weaker}
use Rattle.points_to.proofs.TakeLemmas.{one_taken, one_only}
use Rattle.points_to.proofs.additions.take.Goals as goal

pub returns-in-Ok-clause-only : goal.returns-in-Ok-clause-only
returns-in-Ok-clause-only g c = one_only c.args.facts.now c.add.new.self c.args.fact.now c.in-Ok.ensures.ok c.in-Ok.ensures.exact

pub returns-in-Ok-clause-ok : goal.returns-in-Ok-clause-ok
returns-in-Ok-clause-ok g c =
    on_ok_weaker c.check_limits.result (λ few. one_taken c.args.facts.now c.add.new.self c.args.fact.now c.in-Ok.ensures.ok c.in-Ok.ensures.exact) c.check_limits.ensures.ok
