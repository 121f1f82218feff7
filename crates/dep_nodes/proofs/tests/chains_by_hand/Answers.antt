use Rattle.std.proofs.Common.{◌≡◌, List, [], ◌∷◌, Some, refl, sym, ◌∙◌, subst}
use Rattle.std.proofs.lemmas.Option.{same_Some, none-some}
use Rattle.dep_nodes.specs.Nodes.{CallSite}
use Rattle.dep_nodes.specs.Chains.{IsValidChain, closed}
use Rattle.dep_nodes.specs.ChainExamples.{AnyEdge, called_at, call_node, in_and_back_to}
use Rattle.dep_nodes.proofs.tests.chains_by_hand.Goals as goal

back : IsValidChain AnyEdge (call_node 3) (in_and_back_to 3)
back = (called_at 3 ∷ [], (tt, refl), (called_at 3 ∷ [], (tt, refl), ([], (tt, refl), tt)))

elsewhere : IsValidChain AnyEdge (call_node 3) (in_and_back_to 7) → ⊥
elsewhere (first, (t1, opens), (second, (t2, stays), (third, (t3, closes), t4))) =
    let open_calls : List CallSite = called_at 3 ∷ [] in
    let is : second ≡ open_calls = sym (same_Some open_calls first opens ∙ same_Some first second stays) in
    none-some third (subst (λ calls. closed calls (called_at 7) ≡ Some third) is closes)

pub returns : goal.returns
returns c = record { back = back; elsewhere = elsewhere }
