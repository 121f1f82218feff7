use Rattle.std.specs.Prelude.{IfOk}
use Rattle.std.proofs.Common.{List, [], Option, None, Contains, sym, subst}
use Rattle.dependence.specs.declared.flow.Place.{Place}
use Rattle.flow_graph.specs.Adding.{HasThose}
use Rattle.flow_graph.specs.NodeUses.{written_by}
use Rattle.flow_graph.proofs.AddingLemmas.{nothing_there}
use Rattle.flow_graph.proofs.node_places.insn_writes.Goals as goal

pub returns-in-Some : goal.returns-in-Some
returns-in-Some c = subst (λ o. IfOk c.with_writes.result (λ (places : List Place). HasThose (Contains (written_by o)) places)) (sym c.in-Some.is) c.with_writes.ensures

pub returns-in-None : goal.returns-in-None
returns-in-None c = subst (λ o. HasThose (Contains (written_by o)) c.new.result) (sym c.in-None.is) (subst (λ (xs : List Place). HasThose (Contains {X = Place} []) xs) (sym c.new.ensures) nothing_there)
