use Rattle.std.proofs.Common.{◌≡◌, length, Contains, subst, arith}
use Rattle.fact_sets.specs.FactLists.{HasFact}
use Rattle.fact_rules.specs.Adds.{Adds, FromBelow}
use Rattle.fact_rules.specs.CallRules.{ByCall, CallGives}
use Rattle.fact_rules.proofs.AddsLemmas.{adds_alike, below_none, below_step}
use Rattle.fact_rules.proofs.CallLemmas.{CallGivesAt, gives_at, by_places, all_calls}
use Rattle.fact_rules.proofs.call_rules.follow_calls.Goals as goal

pub loop-place-init : goal.loop-place-init
loop-place-init g c = below_none (Contains c.args.following.now.items) (CallGivesAt c.args.facts.now)

pub loop-place-preserved : goal.loop-place-preserved
loop-place-preserved g c =
    let facts = c.args.facts.now in
    let k = c.loop-place.place in
    below_step (Contains c.args.following.now.items) (Contains c.loop-place.following.items) (Contains c.add_from.new.following.items) k (CallGivesAt facts) c.loop-place.invariant
    (adds_alike (Contains c.loop-place.following.items) (Contains c.add_from.new.following.items) (CallGives (HasFact facts) c.fact-fact.result) (CallGivesAt facts k) c.in_ok-add_from.ensures (gives_at facts k c.fact-fact.result c.fact-fact.ensures))

pub returns : goal.returns
returns g c = λ list tells.
    let facts = c.args.facts.now in
    let all : c.loop-place.place ≡ length facts.facts = omega (arith, c.len-place-end.ensures, c.loop-place-test.false) in
    all_calls list tells facts c.args.following.now.items c.loop-place.following.items
    (adds_alike (Contains c.args.following.now.items) (Contains c.loop-place.following.items) (FromBelow (length facts.facts) (CallGivesAt facts)) (ByCall (HasFact facts))
    (subst (λ n. Adds (Contains c.args.following.now.items) (Contains c.loop-place.following.items) (FromBelow n (CallGivesAt facts))) all c.loop-place.invariant) (by_places facts))
