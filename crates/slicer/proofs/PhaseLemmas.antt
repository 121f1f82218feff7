-- Steps back from place to place are steps of valid chains, and those that reach all that valid chains reach.
use Rattle.std.proofs.Common.{◌≡◌, ◌≢◌, true, false, Bool, List, [], ◌∷◌, ◌++◌, Option, Some, None, if◌then◌else◌, refl, sym, ◌∙◌, ap, subst, inl, inr, ◌⊎◌}
use Rattle.std.proofs.lemmas.Option.{same_Some, none-some}
use Rattle.dep_nodes.specs.declared.kinds.EdgeKind.{EdgeKind}
use Rattle.dep_nodes.specs.declared.kinds.EdgeKind.TheVariants.{Data, Control, Out, Arg, Call, Ret, Heap, Fork}
use Rattle.dep_nodes.specs.declared.chains.Word.{Word}
use Rattle.dep_nodes.specs.declared.chains.Word.TheVariants.{Edge, Pass}
use Rattle.dep_nodes.specs.Nodes.{Node, CallSite}
use Rattle.dep_nodes.specs.Chains.{same_site, opened, closed, returned, adv, goes_in, comes_out, begun_call, ended_call, StaysWithin, MatchedOver, arrived, onwards, IsPassOver, StepsOnOver, LinkTo, IsChainOver, LeavesOpenOver, HasChainOver, end_of}
use Rattle.dep_nodes.proofs.CallEnds.{begun_parts, ended_parts}
use Rattle.dep_nodes.proofs.ChainLemmas.{path_then}
use Rattle.dep_nodes.proofs.Sites.{sites_equal, site_itself}
use Rattle.slicer.specs.declared.finds.Phase.{Phase}
use Rattle.slicer.specs.declared.finds.Phase.TheVariants.{First, Second}
use Rattle.slicer.specs.Phases.{before_call, before_return, phase_before, LeadsOver, MayBeOpen}
use Rattle.slicer.proofs.EndLemmas.{begun_at, ended_at}

-- ---- the calls of edges

-- a call that call_begun, and one that a chain call_returned to
record Begins (calls next : List CallSite) (o : Option CallSite) : Type 0 where
  call : CallSite
  is : o ≡ Some call
  opens : call ∷ calls ≡ next

call_begun : (calls next : List CallSite) (o : Option CallSite) → opened calls o ≡ Some next → Begins calls next o
call_begun calls next None e = absurd (none-some next e)
call_begun calls next (Some call) e = record { call = call; is = refl; opens = same_Some (call ∷ calls) next e }

record Returns (calls next : List CallSite) (o : Option CallSite) : Type 0 where
  call : CallSite
  is : o ≡ Some call
  closes : closed calls call ≡ Some next

call_returned : (calls next : List CallSite) (o : Option CallSite) → returned calls o ≡ Some next → Returns calls next o
call_returned calls next None e = absurd (none-some next e)
call_returned calls next (Some call) e = record { call = call; is = refl; closes = e }

record Closes (last call : CallSite) (calls next : List CallSite) : Type 0 where
  same : same_site last call ≡ true
  left : calls ≡ next

closes_last : (last call : CallSite) (calls next : List CallSite) (b : Bool) → same_site last call ≡ b → (if b then Some calls else None) ≡ Some next → Closes last call calls next
closes_last last call calls next true is e = record { same = is; left = same_Some calls next e }
closes_last last call calls next false is e = absurd (none-some next e)

closes_again : (last call : CallSite) (calls : List CallSite) (o : Option CallSite) → o ≡ Some call → same_site last call ≡ true → returned (last ∷ calls) o ≡ Some calls
closes_again last call calls o is same = ap (returned (last ∷ calls)) is ∙ ap (λ (b : Bool). if b then Some calls else None) same

record FromCall (n : Node) (phase : Phase) : Type 0 where
  call : CallSite
  is : begun_call n ≡ Some call
  at_end : phase ≡ First

goes_at : (b : Bool) (phase before : Phase) → before_call b phase ≡ Some before → (b ≡ true) × (phase ≡ First)
goes_at false phase before e = absurd (none-some before e)
goes_at true First before e = (refl, refl)
goes_at true Second before e = absurd (none-some before e)

from_call : (n : Node) (phase before : Phase) → before_call (goes_in n.kind) phase ≡ Some before → FromCall n phase
from_call n phase before e =
    let at = goes_at (goes_in n.kind) phase before e in
    let begun = begun_at n.inst n.kind at.0 in
    record { call = begun.0; is = begun.1; at_end = at.1 }

record FromReturn (n : Node) (before : Phase) : Type 0 where
  call : CallSite
  is : ended_call n ≡ Some call
  at_begin : before ≡ Second

comes_at : (b : Bool) (before : Phase) → before_return b ≡ Some before → (b ≡ true) × (before ≡ Second)
comes_at false before e = absurd (none-some before e)
comes_at true before e = (refl, sym (same_Some Second before e))

from_return : (n : Node) (before : Phase) → before_return (comes_out n.kind) ≡ Some before → FromReturn n before
from_return n before e =
    let at = comes_at (comes_out n.kind) before e in
    let ended = ended_at n.inst n.kind at.0 in
    record { call = ended.0; is = ended.1; at_begin = at.1 }

pub none_open : (phase : Phase) → MayBeOpen phase []
none_open First = tt
none_open Second = refl

open_in_first : (phase : Phase) (calls : List CallSite) → phase ≡ First → MayBeOpen phase calls
open_in_first phase calls e = subst (λ p. MayBeOpen p calls) (sym e) tt

first_same : (x y : CallSite) (xs ys : List CallSite) → x ∷ xs ≡ y ∷ ys → x ≡ y
first_same x y xs ys e = cc

rest_same : (x y : CallSite) (xs ys : List CallSite) → x ∷ xs ≡ y ∷ ys → xs ≡ ys
rest_same x y xs ys e = cc

-- the list has an item, and isn't empty
abbrev HasLast : List CallSite → Type 0
HasLast [] = ⊥
HasLast (call ∷ calls) = Unit {0}

not_empty : (call : CallSite) (calls : List CallSite) → (call ∷ calls) ≢ []
not_empty call calls = λ e. subst HasLast e tt

module _ {N : Type 0} (name : N → Node) (E : N → EdgeKind → N → Type 0) where
  -- ---- each step is one of a chain

  abbrev Sound : List CallSite → N → Word → N → Phase → Type 0
  Sound calls a word b phase = (next : List CallSite) × StepsOnOver name E calls a word b next × MayBeOpen phase next

  edge_sound : (calls : List CallSite) (kind : EdgeKind) (a b : N) (before phase : Phase) → E a kind b → phase_before kind (name a) (name b) phase ≡ Some before → MayBeOpen before calls
      → Sound calls a (Edge kind) b phase
  edge_sound calls Data a b before phase along e may = (calls, (along, refl), subst (λ p. MayBeOpen p calls) (sym (same_Some phase before e)) may)
  edge_sound calls Control a b before phase along e may = (calls, (along, refl), subst (λ p. MayBeOpen p calls) (sym (same_Some phase before e)) may)
  edge_sound calls Out a b before phase along e may = (calls, (along, refl), subst (λ p. MayBeOpen p calls) (sym (same_Some phase before e)) may)
  edge_sound calls Arg a b before phase along e may =
      let from = from_call (name a) phase before e in
      (from.call ∷ calls, (along, ap (opened calls) from.is), open_in_first phase (from.call ∷ calls) from.at_end)
  edge_sound calls Call a b before phase along e may =
      let from = from_call (name a) phase before e in
      (from.call ∷ calls, (along, ap (opened calls) from.is), open_in_first phase (from.call ∷ calls) from.at_end)
  edge_sound calls Ret a b before phase along e may =
      let from = from_return (name b) before e in
      let none : calls ≡ [] = subst (λ p. MayBeOpen p calls) from.at_begin may in
      ([], (along, ap (λ cs. returned cs (ended_call (name b))) none ∙ ap (returned []) from.is), none_open phase)
  edge_sound calls Heap a b before phase along e may = ([], (along, refl), none_open phase)
  edge_sound calls Fork a b before phase along e may = ([], (along, refl), none_open phase)

  pub step_sound : (calls : List CallSite) (a b : N) (before phase : Phase) (word : Word) → LeadsOver name E a before word b phase → MayBeOpen before calls → Sound calls a word b phase
  step_sound calls a b before phase (Edge kind) leads may = edge_sound calls kind a b before phase leads.0 leads.1 may
  step_sound calls a b before phase Pass leads may = (calls, (leads.0, refl), subst (λ p. MayBeOpen p calls) leads.1 may)

  -- a chain goes on by a step
  pub leaves_more : (calls left next : List CallSite) (a : N) (links : List (LinkTo N)) (word : Word) (b : N) → LeavesOpenOver name E calls a links left → StepsOnOver name E left (end_of a links) word b next
      → LeavesOpenOver name E calls a (links ++ record { word = word; to = b } ∷ []) next
  leaves_more calls left next a [] word b here step = (next, subst (λ cs. StepsOnOver name E cs a word b next) here step, refl)
  leaves_more calls left next a (link ∷ links) word b (mid, first, rest) step = (mid, first, leaves_more mid left next link.to links word b rest step)

  -- what leaves some calls open is a chain
  pub leaves_chain : (calls left : List CallSite) (a : N) (links : List (LinkTo N)) → LeavesOpenOver name E calls a links left → IsChainOver name E calls a links
  leaves_chain calls left a [] here = tt
  leaves_chain calls left a (link ∷ links) (next, step, rest) = (next, step, leaves_chain next left link.to links rest)

  -- ---- each chain is found

  -- a set of places that has with each place those which lead to it
  module _ (R : N → Phase → Type 0) (back : (a b : N) (before phase : Phase) (word : Word) → LeadsOver name E a before word b phase → R b phase → R a before) where
    abbrev Level : N → N → Type 0
    Level a b = (phase : Phase) → R b phase → R a phase

    -- the rest of a matched path, up to where its first open calls are closed one by one
    abbrev Unwinds : List CallSite → N → N → Type 0
    Unwinds [] a c = Level a c
    Unwinds (call ∷ calls) a c =
        (out : N) × (to : N) × MatchedOver name E [] a out × Level a out × E out Ret to × (ended_call (name to) ≡ Some call) × Unwinds calls to c

    join : (calls : List CallSite) (a b c : N) → MatchedOver name E [] a b → Level a b → Unwinds calls b c → Unwinds calls a c
    join [] a b c path level rest = λ phase r. level phase (rest phase r)
    join (call ∷ calls) a b c path level (out, to, inner, goes, ret, site, rest) = (out, to, path_then name E [] [] a b out path inner, (λ phase r. level phase (goes phase r)), ret, site, rest)

    -- an edge within a call
    within : (calls next : List CallSite) (kind : EdgeKind) (a b c : N) → E a kind b → ((cs : List CallSite) → StaysWithin cs kind) → ((cs : List CallSite) → adv cs (name a) kind (name b) ≡ Some cs)
        → ((phase : Phase) → phase_before kind (name a) (name b) phase ≡ Some phase) → Some calls ≡ Some next → Unwinds next b c → Unwinds calls a c
    within calls next kind a b c along stays keeps phases e rest =
        join calls a b c (onwards [] [] kind a b b along (stays []) (keeps []) (arrived b)) (λ phase r. back a b phase phase (Edge kind) (along, phases phase) r)
        (subst (λ cs. Unwinds cs b c) (sym (same_Some calls next e)) rest)

    -- a call that call_begun, and is passed by
    by_pass : (calls next : List CallSite) (kind : EdgeKind) (a b c : N) → E a kind b → ((cs : List CallSite) → StaysWithin cs kind) → ((cs : List CallSite) → adv cs (name a) kind (name b) ≡ opened cs (begun_call (name a)))
        → Begins calls next (begun_call (name a)) → Unwinds next b c → Unwinds calls a c
    by_pass calls next kind a b c along stays opens begun rest = through (subst (λ cs. Unwinds cs b c) (sym begun.opens) rest)
      where
        through : Unwinds (begun.call ∷ calls) b c → Unwinds calls a c
        through (out, to, inner, goes, ret, site, more) =
            let back_again : MatchedOver name E (begun.call ∷ []) out to =
            onwards (begun.call ∷ []) [] Ret out to to ret (not_empty begun.call []) (closes_again begun.call begun.call [] (ended_call (name to)) site (site_itself begun.call)) (arrived to) in
            let path : MatchedOver name E [] a to =
            onwards [] (begun.call ∷ []) kind a b to along (stays []) (opens [] ∙ ap (opened []) begun.is) (path_then name E [] (begun.call ∷ []) b out to inner back_again) in
            let into = begun_parts (name a) begun.call begun.is in
            let back_out = ended_parts (name to) begun.call site in
            let pass : IsPassOver name E a to = record { begin = into.0; end = back_out.0; same_call = into.1 ∙ sym back_out.1; path = path } in
            join calls a to c path (λ phase r. back a to phase phase Pass (pass, refl) r) more

    -- a call that is returned to
    goes_out : (calls next : List CallSite) (a b c : N) → E a Ret b → calls ≢ [] → Returns calls next (ended_call (name b)) → Unwinds next b c → Unwinds calls a c
    goes_out [] next a b c along some back_to rest = absurd (some refl)
    goes_out (last ∷ calls) next a b c along some back_to rest =
        let end = closes_last last back_to.call calls next (same_site last back_to.call) refl back_to.closes in
        (a, b, arrived a, (λ phase r. r), along, back_to.is ∙ ap (λ call. Some call) (sym (sites_equal last back_to.call end.same)), subst (λ cs. Unwinds cs b c) (sym end.left) rest)

    unwound_more : (calls next : List CallSite) (kind : EdgeKind) (a b c : N) → E a kind b → StaysWithin calls kind → adv calls (name a) kind (name b) ≡ Some next → Unwinds next b c → Unwinds calls a c
    unwound_more calls next Data a b c along stays e rest = within calls next Data a b c along (λ cs. tt) (λ cs. refl) (λ phase. refl) e rest
    unwound_more calls next Control a b c along stays e rest = within calls next Control a b c along (λ cs. tt) (λ cs. refl) (λ phase. refl) e rest
    unwound_more calls next Out a b c along stays e rest = within calls next Out a b c along (λ cs. tt) (λ cs. refl) (λ phase. refl) e rest
    unwound_more calls next Arg a b c along stays e rest = by_pass calls next Arg a b c along (λ cs. tt) (λ cs. refl) (call_begun calls next (begun_call (name a)) e) rest
    unwound_more calls next Call a b c along stays e rest = by_pass calls next Call a b c along (λ cs. tt) (λ cs. refl) (call_begun calls next (begun_call (name a)) e) rest
    unwound_more calls next Ret a b c along stays e rest = goes_out calls next a b c along stays (call_returned calls next (ended_call (name b)) e) rest
    unwound_more calls next Heap a b c along stays e rest = absurd stays
    unwound_more calls next Fork a b c along stays e rest = absurd stays

    unwound : (calls : List CallSite) (a c : N) → MatchedOver name E calls a c → Unwinds calls a c
    unwound calls a c (arrived n) = λ phase r. r
    unwound calls a c (onwards before next kind x y z along stays opens path) = unwound_more before next kind x y z along stays opens (unwound next y z path)

    on_level : (a b : N) → MatchedOver name E [] a b → Level a b
    on_level a b path = unwound [] a b path

    -- where a chain with these calls open closes the first of them along a matched path, and its rest is found
    abbrev Good : List CallSite → N → Type 0
    Good left b = R b First ⊎ ((left ≡ []) × R b Second)

    abbrev Completes : List CallSite → N → Type 0
    Completes calls a = (front : List CallSite) × (left : List CallSite) × (node : N) × (calls ≡ front ++ left) × MatchedOver name E front a node × Good left node

    here_in_first : (calls : List CallSite) (a : N) → R a First → Completes calls a
    here_in_first calls a r = ([], calls, a, refl, arrived a, inl r)

    -- where no call is open the node itself is found
    found_here : (calls : List CallSite) (a : N) → calls ≡ [] → Completes calls a → (phase : Phase) × R a phase
    found_here calls a none done = from_front done.0 done.1 done.2 (sym done.3 ∙ none) done.4 done.5
      where
        from_front : (front left : List CallSite) (b : N) → front ++ left ≡ [] → MatchedOver name E front a b → Good left b → (phase : Phase) × R a phase
        from_front [] left b e path (inl r) = (First, on_level a b path First r)
        from_front [] left b e path (inr r) = (Second, on_level a b path Second r.1)
        from_front (call ∷ front) left b e path good = absurd (not_empty call (front ++ left) e)

    goes_on : (calls next : List CallSite) (kind : EdgeKind) (a b : N) → E a kind b → ((cs : List CallSite) → StaysWithin cs kind) → ((cs : List CallSite) → adv cs (name a) kind (name b) ≡ Some cs)
        → Some calls ≡ Some next → Completes next b → Completes calls a
    goes_on calls next kind a b along stays keeps e done =
        (done.0, done.1, done.2, same_Some calls next e ∙ done.3, onwards done.0 done.0 kind a b done.2 along (stays done.0) (keeps done.0) done.4, done.5)

    -- a call that call_begun is closed by the front, or is never closed
    enters : (calls next : List CallSite) (kind : EdgeKind) (a b : N) → E a kind b → ((cs : List CallSite) → StaysWithin cs kind) → ((cs : List CallSite) → adv cs (name a) kind (name b) ≡ opened cs (begun_call (name a)))
        → Begins calls next (begun_call (name a)) → (R b First → R a First) → Completes next b → Completes calls a
    enters calls next kind a b along stays opens begun first done = by_front done.0 done.1 done.2 (begun.opens ∙ done.3) done.4 done.5
      where
        by_front : (front left : List CallSite) (c : N) → begun.call ∷ calls ≡ front ++ left → MatchedOver name E front b c → Good left c → Completes calls a
        by_front [] left c e path (inl r) = here_in_first calls a (first (on_level b c path First r))
        by_front [] left c e path (inr r) = absurd (not_empty begun.call calls (e ∙ r.0))
        by_front (call ∷ front) left c e path good =
            let same : begun.call ≡ call = first_same begun.call call calls (front ++ left) e in
            let others : calls ≡ front ++ left = rest_same begun.call call calls (front ++ left) e in
            (front, left, c, others, onwards front (call ∷ front) kind a b c along (stays front) (opens front ∙ ap (opened front) begun.is ∙ ap (λ x. Some (x ∷ front)) same) path, good)

    -- a return closes the last call, or goes on to a caller where none is open
    leaves : (calls next : List CallSite) (a b : N) → E a Ret b → Returns calls next (ended_call (name b)) → Completes next b → Completes calls a
    leaves [] next a b along back_to done =
        let found = found_here next b (sym (same_Some [] next back_to.closes)) done in
        ([], [], a, refl, arrived a, inr (refl, back a b Second found.0 (Edge Ret) (along, ap before_return (ended_parts (name b) back_to.call back_to.is).0) found.1))
    leaves (last ∷ calls) next a b along back_to done =
        let end = closes_last last back_to.call calls next (same_site last back_to.call) refl back_to.closes in (
          last ∷ done.0,
          done.1,
          done.2,
          ap (λ cs. last ∷ cs) (end.left ∙ done.3),
          onwards (last ∷ done.0) done.0 Ret a b done.2 along (not_empty last done.0) (closes_again last back_to.call done.0 (ended_call (name b)) back_to.is end.same) done.4,
          done.5,
        )

    forgets : (calls next : List CallSite) (kind : EdgeKind) (a b : N) → E a kind b → ((phase : Phase) → phase_before kind (name a) (name b) phase ≡ Some First) → Some [] ≡ Some next → Completes next b → Completes calls a
    forgets calls next kind a b along phases e done =
        let found = found_here next b (sym (same_Some [] next e)) done in
        here_in_first calls a (back a b First found.0 (Edge kind) (along, phases found.0) found.1)

    into_call : (kind : EdgeKind) (a b : N) → E a kind b → (calls next : List CallSite) → Begins calls next (begun_call (name a)) → phase_before kind (name a) (name b) First ≡ before_call (goes_in (name a).kind) First → R b First → R a First
    into_call kind a b along calls next begun is r =
        back a b First First (Edge kind) (along, is ∙ ap (λ has. before_call has First) (begun_parts (name a) begun.call begun.is).0) r

    completed_edge : (calls next : List CallSite) (kind : EdgeKind) (a b : N) → E a kind b → adv calls (name a) kind (name b) ≡ Some next → Completes next b → Completes calls a
    completed_edge calls next Data a b along e done = goes_on calls next Data a b along (λ cs. tt) (λ cs. refl) e done
    completed_edge calls next Control a b along e done = goes_on calls next Control a b along (λ cs. tt) (λ cs. refl) e done
    completed_edge calls next Out a b along e done = goes_on calls next Out a b along (λ cs. tt) (λ cs. refl) e done
    completed_edge calls next Arg a b along e done =
        let begun = call_begun calls next (begun_call (name a)) e in
        enters calls next Arg a b along (λ cs. tt) (λ cs. refl) begun (into_call Arg a b along calls next begun refl) done
    completed_edge calls next Call a b along e done =
        let begun = call_begun calls next (begun_call (name a)) e in
        enters calls next Call a b along (λ cs. tt) (λ cs. refl) begun (into_call Call a b along calls next begun refl) done
    completed_edge calls next Ret a b along e done = leaves calls next a b along (call_returned calls next (ended_call (name b)) e) done
    completed_edge calls next Heap a b along e done = forgets calls next Heap a b along (λ phase. refl) e done
    completed_edge calls next Fork a b along e done = forgets calls next Fork a b along (λ phase. refl) e done

    completed_step : (calls next : List CallSite) (word : Word) (a b : N) → StepsOnOver name E calls a word b next → Completes next b → Completes calls a
    completed_step calls next (Edge kind) a b step done = completed_edge calls next kind a b step.0 step.1 done
    completed_step calls next Pass a b step done = (done.0, done.1, done.2, sym step.1 ∙ done.3, path_then name E [] done.0 a b done.2 step.0.path done.4, done.5)

    completed : (calls : List CallSite) (a : N) (links : List (LinkTo N)) → IsChainOver name E calls a links → R (end_of a links) First → Completes calls a
    completed calls a [] chain r = here_in_first calls a r
    completed calls a (link ∷ links) (next, step, rest) r = completed_step calls next link.word a link.to step (completed next link.to links rest r)

    -- where a valid chain leads to a place of the first phase, its beginning is found
    pub found_from : (a c : N) → HasChainOver name E a c → R c First → (phase : Phase) × R a phase
    found_from a c chain r = found_here [] a refl (completed [] a chain.0 chain.1 (subst (λ b. R b First) (sym chain.2) r))
