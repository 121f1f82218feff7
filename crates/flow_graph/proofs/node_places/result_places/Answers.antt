use Rattle.std.specs.Prelude.{IfOk}
use Rattle.std.proofs.Common.{ℕ, List, [], Contains, sym, subst}
use Rattle.dependence.specs.declared.flow.Place.{Place}
use Rattle.dependence.specs.NodePlaces.{stack_places}
use Rattle.flow_graph.specs.Adding.{HasThose}
use Rattle.flow_graph.specs.NodeUses.{result_of}
use Rattle.flow_graph.proofs.AddingLemmas.{nothing_there}
use Rattle.flow_graph.proofs.node_places.result_places.Goals as goal

pub returns-in-Some : goal.returns-in-Some
returns-in-Some c =
    subst (λ o. IfOk c.with_stack.result (λ (places : List Place). HasThose (Contains (result_of o)) places)) (sym c.in-Some.is)
    (subst (λ (n : ℕ). IfOk c.with_stack.result (λ (places : List Place). HasThose (Contains (stack_places c.in-Some.used.base n)) places)) c.results.ensures c.with_stack.ensures)

pub returns-in-None : goal.returns-in-None
returns-in-None c = subst (λ o. HasThose (Contains (result_of o)) c.new.result) (sym c.in-None.is) (subst (λ (xs : List Place). HasThose (Contains {X = Place} []) xs) (sym c.new.ensures) nothing_there)
