-- A matched path may stand in the place of a `pass` step, whatever calls are open below it.
use Rattle.std.proofs.Common.{◌≡◌, ◌≢◌, Bool, true, false, List, [], ◌∷◌, ◌++◌, Option, Some, None, if◌then◌else◌, refl, ap, subst}
use Rattle.std.specs.List.{AllByRecursion}
use Rattle.std.proofs.lemmas.Option.{same_Some, none-some}
use Rattle.dep_nodes.specs.declared.kinds.EdgeKind.{EdgeKind}
use Rattle.dep_nodes.specs.declared.kinds.EdgeKind.TheVariants.{Data, Control, Out, Arg, Call, Ret, Heap, Fork}
use Rattle.dep_nodes.specs.declared.chains.Word.{Word}
use Rattle.dep_nodes.specs.declared.chains.Word.TheVariants.{Edge, Pass}
use Rattle.dep_nodes.specs.Nodes.{Node, CallSite}
use Rattle.dep_nodes.specs.Chains.{same_site, begun_call, ended_call, opened, closed, returned, adv, StaysWithin, MatchedOver, arrived, onwards, StepsOnOver, LinkTo, IsChainOver, end_of, IsEdge, HasChainOver, HasEdgeChainOver}

-- ---- open calls below

opened_under : (calls next under : List CallSite) (o : Option CallSite) → opened calls o ≡ Some next → opened (calls ++ under) o ≡ Some (next ++ under)
opened_under calls next under None e = absurd (none-some next e)
opened_under calls next under (Some call) e = ap (λ xs. Some (xs ++ under)) (same_Some (call ∷ calls) next e)

last_closed : (calls next under : List CallSite) (b : Bool) → (if b then Some calls else None) ≡ Some next → (if b then Some (calls ++ under) else None) ≡ Some (next ++ under)
last_closed calls next under true e = ap (λ xs. Some (xs ++ under)) (same_Some calls next e)
last_closed calls next under false e = absurd (none-some next e)

closed_under : (calls next under : List CallSite) (call : CallSite) → calls ≢ [] → closed calls call ≡ Some next → closed (calls ++ under) call ≡ Some (next ++ under)
closed_under [] next under call some e = absurd (some refl)
closed_under (last ∷ calls) next under call some e = last_closed calls next under (same_site last call) e

returned_under : (calls next under : List CallSite) (o : Option CallSite) → calls ≢ [] → returned calls o ≡ Some next → returned (calls ++ under) o ≡ Some (next ++ under)
returned_under calls next under None some e = absurd (none-some next e)
returned_under calls next under (Some call) some e = closed_under calls next under call some e

kept_under : (calls next under : List CallSite) → Some calls ≡ Some next → Some (calls ++ under) ≡ Some (next ++ under)
kept_under calls next under e = ap (λ xs. Some (xs ++ under)) (same_Some calls next e)

-- an edge that stays within does the same to the calls above
pub adv_under : (calls next under : List CallSite) (a b : Node) (kind : EdgeKind) → StaysWithin calls kind → adv calls a kind b ≡ Some next → adv (calls ++ under) a kind b ≡ Some (next ++ under)
adv_under calls next under a b Data stays e = kept_under calls next under e
adv_under calls next under a b Control stays e = kept_under calls next under e
adv_under calls next under a b Out stays e = kept_under calls next under e
adv_under calls next under a b Arg stays e = opened_under calls next under (begun_call a) e
adv_under calls next under a b Call stays e = opened_under calls next under (begun_call a) e
adv_under calls next under a b Ret stays e = returned_under calls next under (ended_call b) stays e
adv_under calls next under a b Heap stays e = absurd stays
adv_under calls next under a b Fork stays e = absurd stays

-- ---- chains of edges

module _ {N : Type 0} (name : N → Node) (E : N → EdgeKind → N → Type 0) where
  -- a chain of edges alone, to a node
  abbrev EdgesTo : List CallSite → N → N → Type 0
  EdgesTo calls a c = (links : List (LinkTo N)) × IsChainOver name E calls a links × (end_of a links ≡ c) × AllByRecursion IsEdge links

  one_more : (calls next : List CallSite) (kind : EdgeKind) (a b c : N) → E a kind b → adv calls (name a) kind (name b) ≡ Some next → EdgesTo next b c → EdgesTo calls a c
  one_more calls next kind a b c along opens rest = (
    (record { word = Edge kind; to = b }) ∷ rest.0,
    (next, (along, opens), rest.1),
    rest.2,
    ((kind, refl), rest.3),
  )

  matched_first : (calls under : List CallSite) (a b c : N) → MatchedOver name E calls a b → EdgesTo under b c → EdgesTo (calls ++ under) a c
  matched_first calls under a b c (arrived n) rest = rest
  matched_first calls under a b c (onwards before next kind x y z along stays opens path) rest =
      one_more (before ++ under) (next ++ under) kind x y c along (adv_under before next under (name x) (name y) kind stays opens) (matched_first next under y z c path rest)

  step_first : (calls next : List CallSite) (a b c : N) (word : Word) → StepsOnOver name E calls a word b next → EdgesTo next b c → EdgesTo calls a c
  step_first calls next a b c (Edge kind) step rest = one_more calls next kind a b c step.0 step.1 rest
  step_first calls next a b c Pass step rest = matched_first [] calls a b c step.0.path (subst (λ open_calls. EdgesTo open_calls b c) step.1 rest)

  edges_from : (calls : List CallSite) (a : N) (links : List (LinkTo N)) → IsChainOver name E calls a links → EdgesTo calls a (end_of a links)
  edges_from calls a [] chain = ([], tt, refl, tt)
  edges_from calls a (link ∷ links) (next, step, rest) = step_first calls next a link.to (end_of link.to links) link.word step (edges_from next link.to links rest)

  pub edges_instead : (a b : N) → HasChainOver name E a b → HasEdgeChainOver name E a b
  edges_instead a b chain = subst (λ c. EdgesTo [] a c) chain.2 (edges_from [] a chain.0 chain.1)
