use Rattle.std.proofs.Common.{◌∙◌, ℕ, List, Contains, IfOk, IfNone, subst}
use Rattle.dep_nodes.specs.Graphs.{WalksTo}
use Rattle.low_run.specs.Sides.{is_on, observed_nodes}
use Rattle.low_run.specs.declared.refusals.Side.TheVariants.{Observed}
use Rattle.low_run.proofs.Sides.{places_inside}
use Rattle.low_run.proofs.refusals.chain_for.Goals as goal

-- the nodes on a side are nodes of the graph
pub find_walk-requires-clause-criteria : goal.find_walk-requires-clause-criteria
find_walk-requires-clause-criteria c n inside =
    places_inside (is_on Observed c.args.labels.now c.args.observer) c.args.graph.now n (subst (λ (xs : List ℕ). Contains xs n) (c.as_slice-2.ensures.value ∙ c.in_ok-observed.ensures) inside)

pub returns-clause-none : goal.returns-clause-none
returns-clause-none c =
    let P : List ℕ → List ℕ → Type 0 = λ from to. IfOk c.find_walk.result (λ o. IfNone o ((n : ℕ) → Contains from n → WalksTo c.args.graph.now to n → ⊥)) in
    subst (λ (from : List ℕ). P from (observed_nodes c.args.labels.now c.args.observer c.args.graph.now)) (c.as_slice.ensures.value ∙ c.in_ok-hidden.ensures)
    (subst (λ (to : List ℕ). P c.as_slice.result.now to) (c.as_slice-2.ensures.value ∙ c.in_ok-observed.ensures) c.find_walk.ensures.none)
