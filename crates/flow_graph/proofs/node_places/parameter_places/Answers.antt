use Rattle.std.specs.Prelude.{IfOk}
use Rattle.std.proofs.Common.{List, [], Option, None, Contains, sym, subst}
use Rattle.dependence.specs.declared.flow.Place.{Place}
use Rattle.flow_graph.specs.Adding.{HasThose}
use Rattle.flow_graph.specs.NodeUses.{locals_of}
use Rattle.flow_graph.proofs.AddingLemmas.{nothing_there}
use Rattle.flow_graph.proofs.node_places.parameter_places.Goals as goal

pub returns-in-Some : goal.returns-in-Some
returns-in-Some c = subst (λ o. IfOk c.with_locals.result (λ (places : List Place). HasThose (Contains (locals_of o)) places)) (sym c.in-Some.is) c.with_locals.ensures

pub returns-in-None : goal.returns-in-None
returns-in-None c = subst (λ o. HasThose (Contains (locals_of o)) c.new.result) (sym c.in-None.is) (subst (λ (xs : List Place). HasThose (Contains {X = Place} []) xs) (sym c.new.ensures) nothing_there)
