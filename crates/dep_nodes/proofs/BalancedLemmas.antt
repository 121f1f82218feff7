-- Matched paths are the balanced ones.
use Rattle.std.proofs.Common.{◌≡◌, ◌≢◌, ◌↔◌, Bool, true, false, List, [], ◌∷◌, Option, Some, None, if◌then◌else◌, refl, sym, ◌∙◌, ap, subst}
use Rattle.std.proofs.lemmas.Option.{same_Some, none-some}
use Rattle.dep_nodes.specs.declared.kinds.EdgeKind.{EdgeKind}
use Rattle.dep_nodes.specs.declared.kinds.EdgeKind.TheVariants.{Data, Control, Out, Arg, Call, Ret, Heap, Fork}
use Rattle.dep_nodes.specs.Nodes.{Node, CallSite}
use Rattle.dep_nodes.specs.Chains.{same_site, begun_call, ended_call, opened, returned, adv, StaysWithin, MatchedOver, IsMatchedOver, arrived, onwards}
use Rattle.dep_nodes.specs.BalancedPaths.{stays_level, begins_call, Balanced, nothing, level, over, both}
use Rattle.dep_nodes.proofs.ChainLemmas.{path_then}
use Rattle.dep_nodes.proofs.Sites.{sites_equal, site_itself}

abbrev IsSome_call : List CallSite → Type 0
IsSome_call [] = ⊥
IsSome_call (call ∷ calls) = Unit {0}

no_both : true ≡ false → ⊥
no_both e = cc

when_true : (b : Bool) (calls : List CallSite) → b ≡ true → (if b then Some calls else None) ≡ Some calls
when_true true calls same = refl
when_true false calls same = absurd (no_both (sym same))

module _ {N : Type 0} (name : N → Node) (E : N → EdgeKind → N → Type 0) where
  -- ---- balanced paths are matched

  begin_first : (call : CallSite) (kind : EdgeKind) (a b c : N) → begins_call kind ≡ true → E a kind b → begun_call (name a) ≡ Some call → MatchedOver name E (call ∷ []) b c → IsMatchedOver name E a c
  begin_first call Arg a b c word edge site rest = onwards [] (call ∷ []) Arg a b c edge tt (ap (opened []) site) rest
  begin_first call Call a b c word edge site rest = onwards [] (call ∷ []) Call a b c edge tt (ap (opened []) site) rest
  begin_first call Data a b c word edge site rest = absurd (cc)
  begin_first call Control a b c word edge site rest = absurd (cc)
  begin_first call Out a b c word edge site rest = absurd (cc)
  begin_first call Ret a b c word edge site rest = absurd (cc)
  begin_first call Heap a b c word edge site rest = absurd (cc)
  begin_first call Fork a b c word edge site rest = absurd (cc)

  return_last : (call : CallSite) (a b : N) → E a Ret b → ended_call (name b) ≡ Some call → MatchedOver name E (call ∷ []) a b
  return_last call a b edge site = onwards (call ∷ []) [] Ret a b b edge (λ e. subst IsSome_call e tt) (ap (returned (call ∷ [])) site ∙ when_true (same_site call call) [] (site_itself call)) (arrived b)

  level_step : (kind : EdgeKind) (a b : N) → stays_level kind ≡ true → E a kind b → IsMatchedOver name E a b
  level_step Data a b word edge = onwards [] [] Data a b b edge tt refl (arrived b)
  level_step Control a b word edge = onwards [] [] Control a b b edge tt refl (arrived b)
  level_step Out a b word edge = onwards [] [] Out a b b edge tt refl (arrived b)
  level_step Arg a b word edge = absurd (cc)
  level_step Call a b word edge = absurd (cc)
  level_step Ret a b word edge = absurd (cc)
  level_step Heap a b word edge = absurd (cc)
  level_step Fork a b word edge = absurd (cc)

  pub balanced_matched : (a b : N) → Balanced name E a b → IsMatchedOver name E a b
  balanced_matched a b (nothing n) = arrived n
  balanced_matched a b (level kind x y word edge) = level_step kind x y word edge
  balanced_matched a b (over kind call x y z w word edge site path return back) =
      begin_first call kind x y w word edge site (path_then name E [] (call ∷ []) y z w (balanced_matched y z path) (return_last call z w return back))
  balanced_matched a b (both x y z first second) = path_then name E [] [] x y z (balanced_matched x y first) (balanced_matched y z second)

  -- ---- matched paths are balanced

  -- a balanced path to where the last call is returned from, and so on to the end
  abbrev Unwinds : List CallSite → N → N → Type 0
  Unwinds [] a z = Balanced name E a z
  Unwinds (call ∷ calls) a z = (out : N) × (to : N) × Balanced name E a out × E out Ret to × (ended_call (name to) ≡ Some call) × Unwinds calls to z

  unwinds_behind : (calls : List CallSite) (a b z : N) → Balanced name E a b → Unwinds calls b z → Unwinds calls a z
  unwinds_behind [] a b z first path = both a b z first path
  unwinds_behind (call ∷ calls) a b z first (out, to, path, return, site, rest) = (out, to, both a b out first path, return, site, rest)

  on_level : (kind : EdgeKind) (calls next : List CallSite) (a b z : N) → stays_level kind ≡ true → E a kind b → Some calls ≡ Some next → Unwinds next b z → Unwinds calls a z
  on_level kind calls next a b z word edge same rest = unwinds_behind calls a b z (level kind a b word edge) (subst (λ xs. Unwinds xs b z) (sym (same_Some calls next same)) rest)

  over_call : (kind : EdgeKind) (call : CallSite) (calls : List CallSite) (a b z : N) → begins_call kind ≡ true → E a kind b → begun_call (name a) ≡ Some call → Unwinds (call ∷ calls) b z → Unwinds calls a z
  over_call kind call calls a b z word edge site (out, to, path, return, back, rest) = unwinds_behind calls a to z (over kind call a b out to word edge site path return back) rest

  into_call : (o : Option CallSite) (kind : EdgeKind) (calls next : List CallSite) (a b z : N) → begun_call (name a) ≡ o → begins_call kind ≡ true → E a kind b → opened calls o ≡ Some next → Unwinds next b z → Unwinds calls a z
  into_call None kind calls next a b z site word edge opens rest = absurd (none-some next opens)
  into_call (Some call) kind calls next a b z site word edge opens rest = over_call kind call calls a b z word edge site (subst (λ xs. Unwinds xs b z) (sym (same_Some (call ∷ calls) next opens)) rest)

  last_closed : (same : Bool) (call back : CallSite) (calls next : List CallSite) (a b z : N) → same_site call back ≡ same → E a Ret b → ended_call (name b) ≡ Some back → (if same then Some calls else None) ≡ Some next → Unwinds next b z → Unwinds (call ∷ calls) a z
  last_closed true call back calls next a b z same edge site closes rest =
      (a, b, nothing a, edge, site ∙ ap (λ s. Some s) (sym (sites_equal call back same)), subst (λ xs. Unwinds xs b z) (sym (same_Some calls next closes)) rest)
  last_closed false call back calls next a b z same edge site closes rest = absurd (none-some next closes)

  out_of_call : (o : Option CallSite) (calls next : List CallSite) (a b z : N) → ended_call (name b) ≡ o → E a Ret b → calls ≢ [] → returned calls o ≡ Some next → Unwinds next b z → Unwinds calls a z
  out_of_call None calls next a b z site edge some closes rest = absurd (none-some next closes)
  out_of_call (Some back) [] next a b z site edge some closes rest = absurd (some refl)
  out_of_call (Some back) (call ∷ calls) next a b z site edge some closes rest = last_closed (same_site call back) call back calls next a b z refl edge site closes rest

  unwind_step : (kind : EdgeKind) (calls next : List CallSite) (a b z : N) → E a kind b → StaysWithin calls kind → adv calls (name a) kind (name b) ≡ Some next → Unwinds next b z → Unwinds calls a z
  unwind_step Data calls next a b z edge within opens rest = on_level Data calls next a b z refl edge opens rest
  unwind_step Control calls next a b z edge within opens rest = on_level Control calls next a b z refl edge opens rest
  unwind_step Out calls next a b z edge within opens rest = on_level Out calls next a b z refl edge opens rest
  unwind_step Arg calls next a b z edge within opens rest = into_call (begun_call (name a)) Arg calls next a b z refl refl edge opens rest
  unwind_step Call calls next a b z edge within opens rest = into_call (begun_call (name a)) Call calls next a b z refl refl edge opens rest
  unwind_step Ret calls next a b z edge within opens rest = out_of_call (ended_call (name b)) calls next a b z refl edge within opens rest
  unwind_step Heap calls next a b z edge within opens rest = absurd within
  unwind_step Fork calls next a b z edge within opens rest = absurd within

  unwind : (calls : List CallSite) (a z : N) → MatchedOver name E calls a z → Unwinds calls a z
  unwind calls a z (arrived n) = nothing n
  unwind calls a z (onwards before next kind x y w along within opens path) = unwind_step kind before next x y w along within opens (unwind next y w path)

  pub matched_is_balanced : (a b : N) → IsMatchedOver name E a b ↔ Balanced name E a b
  matched_is_balanced a b = (unwind [] a b, balanced_matched a b)
