use Rattle.std.proofs.Common.{◌≡◌, ℕ, ◌+◌, length, subst, arith}
use Rattle.fact_rules.specs.Adds.{Adds, FromBelow}
use Rattle.fact_rules.specs.CycleRules.{HasPair, IsPairFrom}
use Rattle.fact_rules.proofs.AddsLemmas.{adds_alike, below_step}
use Rattle.fact_rules.proofs.CycleLemmas.{IsPairAt, pairs_at, call_edges}
use Rattle.fact_rules.proofs.cycle_rules.calls_of.Goals as goal

pub loop-place-preserved : goal.loop-place-preserved
loop-place-preserved g c =
    let lists = c.args.facts.now in
    let count = c.args.count in
    let k = c.loop-place.place in
    let mid = HasPair c.loop-place.calls in
    let new = HasPair c.add_from.new.calls in
    record {
      pairs =
          below_step (HasPair c.in_ok-calls.calls) mid new k (IsPairAt lists count) c.loop-place.invariant.pairs
          (adds_alike mid new (IsPairFrom lists.instances count c.fact-fact.result) (IsPairAt lists count k) c.in_ok-add_from.ensures.pairs (pairs_at lists count k c.fact-fact.result c.fact-fact.ensures));
      room = c.in_ok-add_from.ensures.room;
    }

pub returns-clause-edges : goal.returns-clause-edges
returns-clause-edges g c =
    let lists = c.args.facts.now in
    let count = c.args.count in
    let all : c.loop-place.place ≡ length lists.facts = omega (arith, c.len-place-end.ensures, c.loop-place-test.false) in
    call_edges lists count (count + count) c.in_ok-calls.calls c.loop-place.calls c.in_ok-calls.ensures
    (subst (λ (n : ℕ). Adds (HasPair c.in_ok-calls.calls) (HasPair c.loop-place.calls) (FromBelow n (IsPairAt lists count))) all c.loop-place.invariant.pairs)
