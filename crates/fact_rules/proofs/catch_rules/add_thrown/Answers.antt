use Rattle.std.proofs.Common.{refl, sym, subst}
use Rattle.std.proofs.lemmas.Result.{on_ok_weaker}
use Rattle.fact_sets.specs.Seen.{instance_seen, object_seen, Listed}
use Rattle.fact_rules.specs.CatchRules.{IsCaughtBy, GoesTo, ThrownGives}
use Rattle.fact_rules.proofs.AddsLemmas.{adds_alike}
use Rattle.fact_rules.proofs.CatchLemmas.{thrown_gives}
use Rattle.fact_rules.proofs.catch_rules.add_thrown.Goals as goal

pub returns : goal.returns
returns g c =
    let program = c.args.view.now.program.now in
    let key = c.args.key.now in
    let object = c.args.object.now in
    let row = c.in_ok-row.row in
    let pc = c.args.pc in
    on_ok_weaker c.add_caught.result
    (λ adds list tells.
    let i = instance_seen list key in
    let o = object_seen list object in
    adds_alike (Listed list c.args.following.now.items) (Listed list c.add_caught.new.following.items) (GoesTo i row o) (ThrownGives program i pc o) (adds list tells)
    (thrown_gives program i pc o row (subst (λ m. IsCaughtBy program m pc row o) (sym c.requires.method) (c.in_ok-row.ensures o refl))))
    c.add_caught.ensures
