use Rattle.std.proofs.Common.{ℕ, OnOk, subst}
use Rattle.std.proofs.lemmas.Result.{on_ok_weaker}
use Rattle.fact_rules.specs.Adds.{Adds}
use Rattle.fact_rules.specs.CycleRules.{HasPair, IsPairOf, IsTargetPair}
use Rattle.fact_rules.proofs.AddsLemmas.{adds_alike}
use Rattle.fact_rules.proofs.CycleLemmas.{target_pairs}
use Rattle.fact_rules.proofs.cycle_rules.add_target.Goals as goal

pub returns-clause-pairs : goal.returns-clause-pairs
returns-clause-pairs g c =
    let instances = c.args.facts.now.instances in
    let count = c.args.count in
    let a = c.in-Some.from in
    let b = c.in-Some-number_of.to in
    let old = HasPair c.args.calls.now in
    let new = HasPair c.add_call.new.calls in
    let adds : OnOk c.add_call.result (Adds old new (IsPairOf count a b)) =
    subst (λ (n : ℕ). OnOk c.add_call.result (Adds old new (IsPairOf count n b))) c.number.ensures
    (subst (λ (n : ℕ). OnOk c.add_call.result (Adds old new (IsPairOf count c.number.result n))) c.number-2.ensures c.add_call.ensures.pairs) in
    on_ok_weaker c.add_call.result
    (λ all.
    adds_alike old new (IsPairOf count a b) (IsTargetPair instances count c.args.caller.now c.args.target.now) all
    (target_pairs instances count a b c.args.caller.now c.args.target.now c.names_once.ensures c.in-Some.ensures.found c.in-Some-number_of.ensures.found)) adds
