use Rattle.std.proofs.Common.{◌↔◌, List, Contains, subst}
use Rattle.jvm_typing.specs.declared.facts.Fact.{Fact}
use Rattle.jvm_typing.specs.KindPasses.{Item, items_of}
use Rattle.jvm_typing.proofs.GrowLemmas.{same_items}
use Rattle.jvm_typing.proofs.flows.in_order.Goals as goal

pub returns : goal.returns
returns c =
    subst (λ (l : List Fact). (x : Item) → Contains (items_of c.sort_by_key.new.self.items) x ↔ Contains (items_of l) x) c.into_facts-facts.ensures
    (same_items c.into_facts-facts.result.items c.sort_by_key.new.self.items c.sort_by_key.ensures.permutation)
