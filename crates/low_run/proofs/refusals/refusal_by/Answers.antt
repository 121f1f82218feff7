use Rattle.std.proofs.Common.{◌≡◌, ◌≤◌, ℕ, List, Option, Some, IfSome, IfNone, Contains, length, slice_get, refl, subst}
use Rattle.std.proofs.lemmas.Option.{slice_get_read}
use Rattle.dep_nodes.specs.declared.chains.Chain.{Chain}
use Rattle.dep_nodes.specs.Graphs.{links_of, WalksTo}
use Rattle.low_run.specs.Sides.{hidden_nodes, observed_nodes, IsForbiddenWalk}
use Rattle.low_run.specs.Verdict.{Clean}
use Rattle.low_run.proofs.Sides.{clean_more, clean_all}
use Rattle.plain_graph.proofs.ChainWalks.{edges_inside}
use Rattle.low_run.proofs.Verdicts.{forbidden_is_illegal, no_walk_is_clean}
use Rattle.low_run.proofs.refusals.refusal_by.Goals as goal

pub chain_for-requires-clause-edges : goal.chain_for-requires-clause-edges
chain_for-requires-clause-edges c = edges_inside c.args.program.now c.args.labels.now c.args.graph.now c.requires.graph

pub returns-in-Some-clause-report : goal.returns-in-Some-clause-report
returns-in-Some-clause-report c =
    let labels = c.args.labels.now in
    let o = c.observer-item.result in
    let read = slice_get_read c.as_slice-observer-items.result.now (length c.as_slice-observer-items.result.now) c.loop-observer.observer-index o refl c.loop-observer-test.true c.observer-item.is in
    let walk = subst (λ (x : Option Chain). IfSome x (IsForbiddenWalk labels c.args.graph.now o)) c.in-Some.is c.in_ok-chain.ensures.found in
    let illegal = forbidden_is_illegal c.args.program.now labels c.args.graph.now c.requires.graph o c.in-Some.chain walk in
    record {
      place = c.loop-observer.observer-index;
      observer = o;
      observer_at = subst (λ (xs : List ℕ). slice_get xs c.loop-observer.observer-index ≡ Some o) c.as_slice-observer-items.ensures read;
      earlier = λ k l below at. (c.loop-observer.invariant k l below at).no_chain;
      from = illegal.0;
      links = links_of c.args.graph.now c.in-Some.chain.steps;
      illegal = illegal.2;
      text_is = c.in_ok-text.ensures illegal.0 illegal.1;
    }

pub loop-observer-preserved : goal.loop-observer-preserved
loop-observer-preserved c =
    let labels = c.args.labels.now in
    let o = c.observer-item.result in
    let read = slice_get_read c.as_slice-observer-items.result.now (length c.as_slice-observer-items.result.now) c.loop-observer.observer-index o refl c.loop-observer-test.true c.observer-item.is in
    let at = subst (λ (xs : List ℕ). slice_get xs c.loop-observer.observer-index ≡ Some o) c.as_slice-observer-items.ensures read in
    let none = subst (λ (x : Option Chain). IfNone x ((from : ℕ) → Contains (hidden_nodes labels o c.args.graph.now) from → WalksTo c.args.graph.now (observed_nodes labels o c.args.graph.now) from → ⊥))
    c.in_default.is c.in_ok-chain.ensures.none in
    clean_more (Clean c.args.graph.now labels) labels.observers c.loop-observer.observer-index o c.loop-observer.invariant at (no_walk_is_clean c.args.program.now labels c.args.graph.now c.requires.graph o none)

pub returns-clause-clean : goal.returns-clause-clean
returns-clause-clean c =
    let beyond : length c.args.labels.now.observers ≤ c.loop-observer.observer-index =
    subst (λ (xs : List ℕ). length xs ≤ c.loop-observer.observer-index) c.as_slice-observer-items.ensures c.loop-observer-test.false in
    clean_all (Clean c.args.graph.now c.args.labels.now) c.args.labels.now.observers c.loop-observer.observer-index c.loop-observer.invariant beyond
