-- Chains one after the other, and matched paths within them.
use Rattle.std.proofs.Common.{◌≡◌, ◌≢◌, List, [], ◌∷◌, ◌++◌, refl, sym, ◌∙◌, subst}
use Rattle.std.proofs.lemmas.Option.{same_Some}
use Rattle.std.specs.List.{AllByRecursion}
use Rattle.dep_nodes.specs.declared.kinds.EdgeKind.{EdgeKind}
use Rattle.dep_nodes.specs.declared.kinds.EdgeKind.TheVariants.{Data, Control, Out, Arg, Call, Ret, Heap, Fork}
use Rattle.dep_nodes.specs.declared.chains.Word.{Word}
use Rattle.dep_nodes.specs.declared.chains.Word.TheVariants.{Edge, Pass}
use Rattle.dep_nodes.specs.Nodes.{Node, CallSite}
use Rattle.dep_nodes.specs.Chains.{StaysWithin, MatchedOver, arrived, onwards, path_links_over, StepsOnOver, LinkTo, IsChainOver, LeavesOpenOver, end_of, pass_to, IsEdge}
use Rattle.dep_nodes.proofs.Passes.{adv_under}

-- ---- open calls below

abbrev IsSome_call : List CallSite → Type 0
IsSome_call [] = ⊥
IsSome_call (call ∷ calls) = Unit {0}

some_under : (calls under : List CallSite) → calls ≢ [] → (calls ++ under) ≢ []
some_under [] under some = absurd (some refl)
some_under (call ∷ calls) under some = λ e. subst IsSome_call e tt

stays_under : (calls under : List CallSite) (kind : EdgeKind) → StaysWithin calls kind → StaysWithin (calls ++ under) kind
stays_under calls under Data stays = tt
stays_under calls under Control stays = tt
stays_under calls under Out stays = tt
stays_under calls under Arg stays = tt
stays_under calls under Call stays = tt
stays_under calls under Ret stays = some_under calls under stays
stays_under calls under Heap stays = stays
stays_under calls under Fork stays = stays

module _ {N : Type 0} (name : N → Node) (E : N → EdgeKind → N → Type 0) where
  -- ---- one after the other

  pub append_chain : (calls left : List CallSite) (a : N) (links more : List (LinkTo N)) → LeavesOpenOver name E calls a links left → IsChainOver name E left (end_of a links) more → IsChainOver name E calls a (links ++ more)
  append_chain calls left a [] more here chain = subst (λ open_calls. IsChainOver name E open_calls a more) here chain
  append_chain calls left a (link ∷ links) more (next, step, rest) chain = (next, step, append_chain next left link.to links more rest chain)

  pub split_chain : (calls : List CallSite) (a : N) (links more : List (LinkTo N)) → IsChainOver name E calls a (links ++ more) → (left : List CallSite) × LeavesOpenOver name E calls a links left × IsChainOver name E left (end_of a links) more
  split_chain calls a [] more chain = (calls, refl, chain)
  split_chain calls a (link ∷ links) more (next, step, rest) = let parts = split_chain next link.to links more rest in (parts.0, (next, step, parts.1), parts.2)

  step_once : (calls one two : List CallSite) (a b : N) (word : Word) → StepsOnOver name E calls a word b one → StepsOnOver name E calls a word b two → one ≡ two
  step_once calls one two a b (Edge kind) first second = same_Some one two (sym first.1 ∙ second.1)
  step_once calls one two a b Pass first second = first.1 ∙ sym second.1

  pub left_once : (calls one two : List CallSite) (a : N) (links : List (LinkTo N)) → LeavesOpenOver name E calls a links one → LeavesOpenOver name E calls a links two → one ≡ two
  left_once calls one two a [] first second = first ∙ sym second
  left_once calls one two a (link ∷ links) (next, step, rest) (next2, step2, rest2) =
      left_once next2 one two link.to links (subst (λ open_calls. LeavesOpenOver name E open_calls link.to links one) (step_once calls next next2 a link.to link.word step step2) rest) rest2

  pub end_behind : (a : N) (links more : List (LinkTo N)) → end_of a (links ++ more) ≡ end_of (end_of a links) more
  end_behind a [] more = refl
  end_behind a (link ∷ links) more = end_behind link.to links more

  -- ---- matched paths

  pub path_end : (calls : List CallSite) (a b : N) (path : MatchedOver name E calls a b) → end_of a (path_links_over name E calls a b path) ≡ b
  path_end calls a b (arrived n) = refl
  path_end calls a b (onwards before next kind x y z along stays opens path) = path_end next y z path

  pub path_edges : (calls : List CallSite) (a b : N) (path : MatchedOver name E calls a b) → AllByRecursion IsEdge (path_links_over name E calls a b path)
  path_edges calls a b (arrived n) = tt
  path_edges calls a b (onwards before next kind x y z along stays opens path) = ((kind, refl), path_edges next y z path)

  pub path_leaves : (calls under : List CallSite) (a b : N) (path : MatchedOver name E calls a b) → LeavesOpenOver name E (calls ++ under) a (path_links_over name E calls a b path) under
  path_leaves calls under a b (arrived n) = refl
  path_leaves calls under a b (onwards before next kind x y z along stays opens path) =
      (next ++ under, (along, adv_under before next under (name x) (name y) kind stays opens), path_leaves next under y z path)

  -- in the place of a `pass` step
  pub path_instead : (calls : List CallSite) (a b : N) (links more : List (LinkTo N)) (path : MatchedOver name E [] (end_of a links) b) → IsChainOver name E calls a (links ++ (pass_to b ∷ more)) → IsChainOver name E calls a (links ++ (path_links_over name E [] (end_of a links) b path ++ more))
  path_instead calls a b links more path chain =
      let parts = split_chain calls a links (pass_to b ∷ more) chain in
      let rest : IsChainOver name E parts.0 b more = subst (λ open_calls. IsChainOver name E open_calls b more) parts.2.1.1 parts.2.2 in
      let behind : IsChainOver name E parts.0 (end_of (end_of a links) (path_links_over name E [] (end_of a links) b path)) more = subst (λ n. IsChainOver name E parts.0 n more) (sym (path_end [] (end_of a links) b path)) rest in
      append_chain calls parts.0 a links (path_links_over name E [] (end_of a links) b path ++ more) parts.1
      (append_chain parts.0 parts.0 (end_of a links) (path_links_over name E [] (end_of a links) b path) more (path_leaves [] parts.0 (end_of a links) b path) behind)

  pub path_then : (calls under : List CallSite) (a b c : N) → MatchedOver name E calls a b → MatchedOver name E under b c → MatchedOver name E (calls ++ under) a c
  path_then calls under a b c (arrived n) rest = rest
  path_then calls under a b c (onwards before next kind x y z along stays opens path) rest =
      onwards (before ++ under) (next ++ under) kind x y c along (stays_under before under kind stays) (adv_under before next under (name x) (name y) kind stays opens) (path_then next under y z c path rest)
