-- How a search goes on, what it has found at its end, and the chains that it gives.
use Rattle.std.proofs.Common.{◌≡◌, ◌↔◌, ℕ, zero, suc, ◌+◌, ◌-◌, ◌<◌, ◌≤◌, true, List, [], ◌∷◌, ◌++◌, length, get_or, take, Contains, All, refl, sym, ◌∙◌, ap, subst, arith, inl, inr, append_assoc, append-nil, length-append}
use Rattle.std.specs.Prelude.{Option, Some, None, slice_get, option_map}
use Rattle.std.proofs.lemmas.Bool.{cases_lt, false≢true}
use Rattle.std.proofs.lemmas.Option.{slice_get_past, same_Some, none-some}
use Rattle.std.proofs.lemmas.List.{get_or_append_left, get_or-append_right, get_or_default, get_or-map, get_or-take, get_or_read, length-map, length-take, map-append}
use Rattle.std.proofs.lemmas.List.Elements.{All-nil, All-cons, All-append, All-weaker, All-get_or, All-contains, Contains-get_or, Contains-append_left, Contains-append_cases, Contains-push, Contains-push_cases}
use Rattle.dep_nodes.specs.declared.kinds.EdgeKind.{EdgeKind}
use Rattle.dep_nodes.specs.declared.chains.Word.{Word}
use Rattle.dep_nodes.specs.declared.chains.Word.TheVariants.{Edge, Pass}
use Rattle.dep_nodes.specs.declared.graphs.NodeName.{NodeName}
use Rattle.dep_nodes.specs.declared.chains.Step.{Step}
use Rattle.dep_nodes.specs.declared.dependence_graph.GraphNode.{GraphNode}
use Rattle.dep_nodes.specs.Nodes.{CallSite, node_named}
use Rattle.dep_nodes.specs.Chains.{goes_in, LinkTo, LeavesOpenOver, StepsOnOver, end_of}
use Rattle.dep_nodes.specs.GrowingGraphs.{HasEdge}
use Rattle.dep_nodes.specs.NumberedChains.{name_or_none, name_at, IsNumberedChain, AreSummaries}
use Rattle.dep_nodes.proofs.ChainLemmas.{end_behind}
use Rattle.slicer.specs.declared.finds.Phase.{Phase}
use Rattle.slicer.specs.declared.finds.Phase.TheVariants.{First}
use Rattle.slicer.specs.declared.finds.Place.{Place}
use Rattle.slicer.specs.declared.finds.Way.{Way}
use Rattle.slicer.specs.declared.finds.Way.TheVariants.{Criterion, Step as AStep}
use Rattle.slicer.specs.declared.finds.Found.{Found}
use Rattle.slicer.specs.Finds.{place, places_of, HasPlace, HasNode, AddsFound}
use Rattle.slicer.specs.Phases.{phase_before, MayBeOpen}
use Rattle.slicer.specs.Slices.{Leads, criterion, IsCriterion, GoesOn, IsSearch, IsClosed, BeginsWith, Appends, IsStepTo, IsPassTo, IsStep, IsPhaseBefore, HasChainToOneOf, IsSlice, link_of_step, step_links, AreStepsToCriterion}
use Rattle.slicer.proofs.FindLemmas.{place_last}
use Rattle.slicer.proofs.PhaseLemmas.{step_sound, leaves_more, leaves_chain, none_open, found_from}

-- ---- lists that grow

pub appends_none : (P : Found → Type 0) (old : List Found) → Appends P old old
appends_none P old = ([], sym (append-nil old), All-nil P)

pub appends_added : (P : Found → Type 0) (old new : List Found) (item : Found) → P item → AddsFound old item new → Appends P old new
appends_added P old new item p (inl known) = ([], known.1 ∙ sym (append-nil old), All-nil P)
appends_added P old new item p (inr fresh) = (item ∷ [], fresh.1, All-cons P item [] p (All-nil P))

pub appends_then : (P : Found → Type 0) (old mid new : List Found) → Appends P old mid → Appends P mid new → Appends P old new
appends_then P old mid new (xs, e, all_xs) (ys, f, all_ys) = (xs ++ ys, f ∙ ap (λ l. l ++ ys) e ∙ append_assoc old xs ys, All-append P xs ys all_xs all_ys)

pub appends_weaker : (P Q : Found → Type 0) → ((item : Found) → P item → Q item) → (old new : List Found) → Appends P old new → Appends Q old new
appends_weaker P Q weaker old new (xs, e, all) = (xs, e, All-weaker P Q weaker xs all)

pub appends_place : (P : Found → Type 0) (old new : List Found) (at : Place) → Appends P old new → HasPlace old at → HasPlace new at
appends_place P old new at (xs, e, all) among =
    subst (λ ps. Contains ps at) (sym (ap places_of e ∙ map-append (λ (f : Found). f.place) old xs)) (Contains-append_left (places_of old) (places_of xs) at among)

pub appends_get : (P : Found → Type 0) (old new : List Found) (k : ℕ) (d : Found) → Appends P old new → k < length old → get_or new k d ≡ get_or old k d
appends_get P old new k d (xs, e, all) below = ap (λ l. get_or l k d) e ∙ get_or_append_left old xs d k below

pub appends_longer : (P : Found → Type 0) (old new : List Found) → Appends P old new → length old ≤ length new
appends_longer P old new (xs, e, all) = omega (arith, ap length e, length-append old xs)

pub added_place : (old new : List Found) (item : Found) → AddsFound old item new → HasPlace new item.place
added_place old new item (inl known) = subst (λ found. HasPlace found item.place) (sym known.1) known.0
added_place old new item (inr fresh) = subst (λ found. HasPlace found item.place) (sym fresh.1) (place_last old item)

-- ---- the criteria

pub begins_with_none : BeginsWith [] []
begins_with_none = record { only = λ k d below. absurd (omega (arith, below)); each = λ c among. absurd (omega (arith, among.1)) }

is_criterion : (item : Found) (node : ℕ) (c : ℕ) → item ≡ criterion c → item.place ≡ place node First → item ≡ criterion node
is_criterion item node c e f = e ∙ ap criterion (ap (λ p. p.node) (sym (ap (λ (x : Found). x.place) e) ∙ f))

module _ (front : List ℕ) (c : ℕ) (found new : List Found) (before : BeginsWith front found) where
  abbrev One : Found → Type 0
  One item = (x : ℕ) × Contains (front ++ c ∷ []) x × (item ≡ criterion x)

  one_more : (item : Found) → ((x : ℕ) × Contains front x × (item ≡ criterion x)) → One item
  one_more item (x, among, e) = (x, Contains-append_left front (c ∷ []) x among, e)

  has_new : AddsFound found (criterion c) new → IsCriterion new c
  has_new (inl known) =
      subst (λ items. Contains items (criterion c)) (sym known.1)
      (let k = known.0.0 in
      let below : k < length found = omega (arith, known.0.1, length-map found (λ (f : Found). f.place)) in
      let one = before.only k (criterion c) below in
      let there : (get_or found k (criterion c)).place ≡ place c First = sym (get_or-map (λ (f : Found). f.place) found k (criterion c) (place c First) below) ∙ known.0.2 in
      (k, below, is_criterion (get_or found k (criterion c)) c one.0 one.2 there))
  has_new (inr fresh) = subst (λ items. Contains items (criterion c)) (sym fresh.1) (Contains-push found (criterion c))

  has_old : AddsFound found (criterion c) new → (x : ℕ) → IsCriterion found x → IsCriterion new x
  has_old (inl known) x among = subst (λ items. Contains items (criterion x)) (sym known.1) among
  has_old (inr fresh) x among = subst (λ items. Contains items (criterion x)) (sym fresh.1) (Contains-append_left found (criterion c ∷ []) (criterion x) among)

  only_new : AddsFound found (criterion c) new → All One new
  only_new (inl known) = subst (λ items. All One items) (sym known.1) (All-weaker (λ item. (x : ℕ) × Contains front x × (item ≡ criterion x)) One one_more found before.only)
  only_new (inr fresh) =
      subst (λ items. All One items) (sym fresh.1)
      (All-append One found (criterion c ∷ []) (All-weaker (λ item. (x : ℕ) × Contains front x × (item ≡ criterion x)) One one_more found before.only)
      (All-cons One (criterion c) [] (c, Contains-push front c, refl) (All-nil One)))

  pub begins_with_more : AddsFound found (criterion c) new → BeginsWith (front ++ c ∷ []) new
  begins_with_more adds = record { only = only_new adds; each = each }
    where
      each : (x : ℕ) → Contains (front ++ c ∷ []) x → IsCriterion new x
      each x among = elim (Contains-push_cases front c x among) [
        | inl had ↦ has_old adds x (before.each x had)
        | inr e ↦ subst (λ n. IsCriterion new n) e (has_new adds)
      ]

-- ---- the search

module _ (nodes : List GraphNode) where
  pub begun_is_search : (criteria : List ℕ) (found : List Found) → BeginsWith criteria found → IsSearch nodes found
  begun_is_search criteria found begun k d below =
      let one = begun.only k d below in
      subst (λ (item : Found). GoesOn nodes found k item.place item.way) (sym one.2) refl

  module _ (number : ℕ) (to : Place) (old new : List Found) (search : IsSearch nodes old) (below : number < length old) (is : (d : Found) → (get_or old number d).place ≡ to)
      (more : Appends (IsStepTo nodes number to) old new) where
    goes_on : (k : ℕ) (from : Place) (way : Way) → k < length old → GoesOn nodes old k from way → GoesOn nodes new k from way
    goes_on k from Criterion inside goes = goes
    goes_on k from (AStep word next) inside goes =
        (goes.0, λ d. subst (λ (item : Found). Leads nodes from word item.place) (sym (appends_get (IsStepTo nodes number to) old new next d more (omega (arith, goes.0)))) (goes.1 d))

    new_goes_on : (k : ℕ) (item : Found) → length old ≤ k → IsStepTo nodes number to item → GoesOn nodes new k item.place item.way
    new_goes_on k item past (word, e, leads) =
        subst (λ way. GoesOn nodes new k item.place way) (sym e)
        (omega arith, λ d. subst (λ at. Leads nodes item.place word at) (sym (ap (λ (f : Found). f.place) (appends_get (IsStepTo nodes number to) old new number d more below) ∙ is d)) leads)

    pub search_more : IsSearch nodes new
    search_more k d inside = elim (cases_lt k (length old)) [
      | inl first ↦
          subst (λ (item : Found). GoesOn nodes new k item.place item.way) (sym (appends_get (IsStepTo nodes number to) old new k d more first))
          (goes_on k (get_or old k d).place (get_or old k d).way first (search k d first))
      | inr past ↦
          let j = k - length old in
          let within : j < length more.0 = omega (arith, ap length more.1, length-append old more.0) in
          let e : get_or new k d ≡ get_or more.0 j d = ap (λ l. get_or l k d) more.1 ∙ get_or-append_right old more.0 (length old) k d refl past in
          subst (λ (item : Found). GoesOn nodes new k item.place item.way) (sym e) (new_goes_on k (get_or more.0 j d) past (All-get_or (IsStepTo nodes number to) more.0 j d within more.2))
    ]

-- ---- a search to its end

-- the steps lead from a node to the place with that number
pub record Walks (nodes : List GraphNode) (found : List Found) (from first number : ℕ) (steps : List Step) : Type 0 where
  pub below : number < length found
  pub fewer : length steps + number ≤ first
  pub left : List CallSite
  pub leaves : LeavesOpenOver (name_at nodes) (HasEdge nodes) [] from (step_links steps) left
  pub may : (d : Found) → MayBeOpen (get_or found number d).place.phase left
  pub ends : (d : Found) → end_of from (step_links steps) ≡ (get_or found number d).place.node

-- the first of what is found has been gone back from
pub record Spreads (nodes : List GraphNode) (begun found : List Found) (done : ℕ) : Type 0 where
  pub so_far : done ≤ length found
  pub search : IsSearch nodes found
  pub more : Appends IsStep begun found
  pub closed : (k : ℕ) (d : Found) (from : Place) (word : Word) → k < done → Leads nodes from word (get_or found k d).place → HasPlace found from

module _ (nodes : List GraphNode) where
  pub spreads_first : (begun : List Found) → IsSearch nodes begun → Spreads nodes begun begun 0
  spreads_first begun search = record { so_far = omega arith; search = search; more = appends_none IsStep begun; closed = λ k d from word none leads. absurd (omega (arith, none)) }

  module _ (begun found new : List Found) (done : ℕ) (before : Spreads nodes begun found done) (inside : done < length found)
      (more : (d : Found) → Appends (IsStepTo nodes done (get_or found done d).place) found new)
      (all : (d : Found) (from : Place) (word : Word) → Leads nodes from word (get_or found done d).place → HasPlace new from) where
    abbrev To : Place
    To = (get_or found done (criterion 0)).place

    is_to : (d : Found) → (get_or found done d).place ≡ To
    is_to d = ap (λ (f : Found). f.place) (get_or_default found done d (criterion 0) inside)

    a_step : (item : Found) → IsStepTo nodes done To item → IsStep item
    a_step item (word, e, leads) = (word, done, e)

    added_steps : Appends (IsStepTo nodes done To) found new
    added_steps = more (criterion 0)

    closed : (k : ℕ) (d : Found) (from : Place) (word : Word) → k < done + 1 → Leads nodes from word (get_or new k d).place → HasPlace new from
    closed k d from word below leads =
        let here : Leads nodes from word (get_or found k d).place = subst (λ (item : Found). Leads nodes from word item.place) (appends_get (IsStepTo nodes done To) found new k d added_steps (omega arith)) leads in
        elim (cases_lt k done) [
          | inl had ↦ appends_place (IsStepTo nodes done To) found new from added_steps (before.closed k d from word had here)
          | inr last ↦
              let e : k ≡ done = omega arith in
              all d from word (subst (λ n. Leads nodes from word (get_or found n d).place) e here)
        ]

    pub spreads_more : Spreads nodes begun new (done + 1)
    spreads_more = record {
      so_far = omega (arith, appends_longer (IsStepTo nodes done To) found new added_steps);
      search = search_more nodes done To found new before.search inside is_to added_steps;
      more = appends_then IsStep begun found new before.more (appends_weaker (IsStepTo nodes done To) IsStep a_step found new added_steps);
      closed = closed;
    }

  pub spreads_closed : (begun found : List Found) (done : ℕ) → Spreads nodes begun found done → length found ≤ done → IsClosed nodes found
  spreads_closed begun found done before past from to word leads (k, below, e) =
      let inside : k < length found = omega (arith, below, length-map found (λ (f : Found). f.place)) in
      let is : (get_or found k (criterion 0)).place ≡ to = sym (get_or-map (λ (f : Found). f.place) found k (criterion 0) to inside) ∙ e in
      before.closed k (criterion 0) from word (omega arith) (subst (λ at. Leads nodes from word at) (sym is) leads)

  -- ---- what is found has a chain

  abbrev Chains : List Found → List CallSite → ℕ → Type 0
  Chains found calls from = (links : List (LinkTo ℕ)) × IsNumberedChain nodes calls from links × IsCriterion found (end_of from links)

  whole : (item : Found) → item.place.phase ≡ First → item.way ≡ Criterion → item ≡ criterion item.place.node
  whole item e f =
      let first : item ≡ record { place = place item.place.node First; way = item.way } = ap (λ p. let x : Found = record { place = place item.place.node p; way = item.way } in x) e in
      first ∙ ap (λ w. let x : Found = record { place = place item.place.node First; way = w } in x) f

  -- the chain by the way from there, where the chains from what was found before are given
  by_way : (found : List Found) → IsSearch nodes found → (k : ℕ) (d : Found) (calls : List CallSite) → k < length found → MayBeOpen (get_or found k d).place.phase calls
      → ((next : ℕ) (after : List CallSite) → next < k → MayBeOpen (get_or found next d).place.phase after → Chains found after (get_or found next d).place.node)
      → (way : Way) → (get_or found k d).way ≡ way → Chains found calls (get_or found k d).place.node
  by_way found is_search k d calls below may before Criterion e =
      let first : (get_or found k d).place.phase ≡ First = subst (λ w. GoesOn nodes found k (get_or found k d).place w) e (is_search k d below) in
      ([], tt, subst (λ (item : Found). Contains found item) (whole (get_or found k d) first e) (Contains-get_or found k d below))
  by_way found is_search k d calls below may before (AStep word next) e =
      let goes : (next < k) × ((x : Found) → Leads nodes (get_or found k d).place word (get_or found next x).place) =
      subst (λ w. GoesOn nodes found k (get_or found k d).place w) e (is_search k d below) in
      let to = (get_or found next d).place in
      let step = step_sound (name_at nodes) (HasEdge nodes) calls (get_or found k d).place.node to.node (get_or found k d).place.phase to.phase word (goes.1 d) may in
      let rest = before next step.0 goes.0 step.2 in
      (record { word = word; to = to.node } ∷ rest.0, (step.0, step.1, rest.1), rest.2)

  chain_from : (found : List Found) → IsSearch nodes found → (fuel k : ℕ) (d : Found) (calls : List CallSite) → k < fuel → k < length found → MayBeOpen (get_or found k d).place.phase calls
      → Chains found calls (get_or found k d).place.node
  chain_from found is_search zero k d calls none below may = absurd (omega (arith, none))
  chain_from found is_search (suc fuel) k d calls within below may =
      by_way found is_search k d calls below may (λ next after less open_there. chain_from found is_search fuel next d after (omega (arith, less)) (omega (arith, less)) open_there) (get_or found k d).way refl

  module _ (criteria : List ℕ) (begun found : List Found) (begins : BeginsWith criteria begun) (more : Appends IsStep begun found) (search : IsSearch nodes found) (closed : IsClosed nodes found) where
    not_step : (n : ℕ) → IsStep (criterion n) → ⊥
    not_step n (word, next, e) = absurd (cc)

    criterion_among : (n : ℕ) → IsCriterion found n → Contains criteria n
    criterion_among n among = elim (Contains-append_cases begun more.0 (criterion n) (subst (λ items. Contains items (criterion n)) more.1 among)) [
      | inl first ↦
          let one = All-contains (λ item. (c : ℕ) × Contains criteria c × (item ≡ criterion c)) begun (criterion n) begins.only first in
          subst (λ c. Contains criteria c) (sym (ap (λ (item : Found). item.place.node) one.2)) one.1
      | inr later ↦ absurd (not_step n (All-contains IsStep more.0 (criterion n) more.2 later))
    ]

    criterion_found : (n : ℕ) → Contains criteria n → IsCriterion found n
    criterion_found n among = subst (λ items. Contains items (criterion n)) (sym more.1) (Contains-append_left begun more.0 (criterion n) (begins.each n among))

    pub criteria_are : (n : ℕ) → IsCriterion found n ↔ Contains criteria n
    criteria_are n = (criterion_among n, criterion_found n)

    has_chain : (n : ℕ) → HasNode found n → HasChainToOneOf nodes criteria n
    has_chain n (phase, (k, below, e)) =
        let inside : k < length found = omega (arith, below, length-map found (λ (f : Found). f.place)) in
        let is : (get_or found k (criterion 0)).place ≡ place n phase = sym (get_or-map (λ (f : Found). f.place) found k (criterion 0) (place n phase) inside) ∙ e in
        let chain = chain_from found search (k + 1) k (criterion 0) [] (omega arith) inside (none_open (get_or found k (criterion 0)).place.phase) in
        let node : (get_or found k (criterion 0)).place.node ≡ n = ap (λ (p : Place). p.node) is in
        let there : Chains found [] n = subst (λ from. Chains found [] from) node chain in
        (end_of n there.0, criterion_among (end_of n there.0) there.2, (there.0, there.1, refl))

    place_found : (c : ℕ) → Contains criteria c → HasPlace found (place c First)
    place_found c among =
        let at = criterion_found c among in (
          at.0,
          omega (arith, at.1, length-map found (λ (f : Found). f.place)),
          get_or-map (λ (f : Found). f.place) found at.0 (criterion c) (place c First) at.1 ∙ ap (λ (f : Found). f.place) at.2,
        )

    is_found : (n : ℕ) → HasChainToOneOf nodes criteria n → HasNode found n
    is_found n (c, among, chain) =
        found_from (name_at nodes) (HasEdge nodes) (λ a phase. HasPlace found (place a phase)) (λ a b before phase word leads r. closed (place a before) (place b phase) word leads r) n c chain (place_found c among)

    pub is_slice : IsSlice nodes criteria found
    is_slice n = (has_chain n, is_found n)

  -- ---- the steps of a chain

  pub walks_first : (found : List Found) (number : ℕ) (d : Found) → number < length found → Walks nodes found (get_or found number d).place.node number number []
  walks_first found number d below = record {
    below = below;
    fewer = omega arith;
    left = [];
    leaves = refl;
    may = λ x. none_open (get_or found number x).place.phase;
    ends = λ x. ap (λ (f : Found). f.place.node) (get_or_default found number d x below);
  }

  pub walks_more : (found : List Found) → IsSearch nodes found → (from first number next : ℕ) (steps : List Step) (word : Word) (to : ℕ) → Walks nodes found from first number steps
      → ((d : Found) → (get_or found number d).way ≡ AStep word next) → ((d : Found) → (get_or found next d).place.node ≡ to) → Walks nodes found from first next (steps ++ record { word = word; to = to } ∷ [])
  walks_more found search from first number next steps word to walks way is =
      let d = criterion 0 in
      let goes : (next < number) × ((x : Found) → Leads nodes (get_or found number d).place word (get_or found next x).place) =
      subst (λ w. GoesOn nodes found number (get_or found number d).place w) (way d) (search number d walks.below) in
      let at = (get_or found number d).place in
      let behind = (get_or found next d).place in
      let inside : next < length found = omega (arith, goes.0, walks.below) in
      let step = step_sound (name_at nodes) (HasEdge nodes) walks.left at.node behind.node at.phase behind.phase word (goes.1 d) (walks.may d) in
      let there : StepsOnOver (name_at nodes) (HasEdge nodes) walks.left (end_of from (step_links steps)) word to step.0 =
      subst (λ n. StepsOnOver (name_at nodes) (HasEdge nodes) walks.left n word to step.0) (sym (walks.ends d)) (subst (λ n. StepsOnOver (name_at nodes) (HasEdge nodes) walks.left at.node word n step.0) (is d) step.1) in
      let links : step_links (steps ++ record { word = word; to = to } ∷ []) ≡ step_links steps ++ record { word = word; to = to } ∷ [] =
      map-append link_of_step steps (record { word = word; to = to } ∷ []) in
      record {
        below = inside;
        fewer = omega (arith, length-append steps (record { word = word; to = to } ∷ []), goes.0, walks.fewer);
        left = step.0;
        leaves = subst (λ ls. LeavesOpenOver (name_at nodes) (HasEdge nodes) [] from ls step.0) (sym links) (leaves_more (name_at nodes) (HasEdge nodes) [] walks.left step.0 from (step_links steps) word to walks.leaves there);
        may = λ x. subst (λ (f : Found). MayBeOpen f.place.phase step.0) (get_or_default found next d x inside) step.2;
        ends = λ x. ap (λ ls. end_of from ls) links ∙ end_behind (name_at nodes) (HasEdge nodes) from (step_links steps) (record { word = word; to = to } ∷ []) ∙ sym (is x);
      }

  pub walks_next : (found : List Found) → IsSearch nodes found → (from first number next : ℕ) (steps : List Step) (word : Word) → Walks nodes found from first number steps → ((d : Found) → (get_or found number d).way ≡ AStep word next) → next < number
  walks_next found is_search from first number next steps word walks way =
      let d = criterion 0 in
      let goes : (next < number) × ((x : Found) → Leads nodes (get_or found number d).place word (get_or found next x).place) =
      subst (λ w. GoesOn nodes found number (get_or found number d).place w) (way d) (is_search number d walks.below) in
      goes.0

  pub walks_done : (found : List Found) → IsSearch nodes found → (from first number : ℕ) (steps : List Step) → Walks nodes found from first number steps → ((d : Found) → (get_or found number d).way ≡ Criterion)
      → first < length found → length found ≤ length nodes + length nodes → AreStepsToCriterion nodes found from steps
  walks_done found search from first number steps walks way below most =
      let d = criterion 0 in
      let first_phase : (get_or found number d).place.phase ≡ First = subst (λ w. GoesOn nodes found number (get_or found number d).place w) (way d) (search number d walks.below) in
      let last : IsCriterion found (get_or found number d).place.node =
      subst (λ (item : Found). Contains found item) (whole (get_or found number d) first_phase (way d)) (Contains-get_or found number d walks.below) in
      record {
        valid = leaves_chain (name_at nodes) (HasEdge nodes) [] walks.left from (step_links steps) walks.leaves;
        ends = subst (λ n. IsCriterion found n) (sym (walks.ends d)) last;
        short = omega (arith, walks.fewer);
      }

-- ---- one place

-- the name with that number
pub name_is : (nodes : List GraphNode) (n : ℕ) (name : NodeName) → option_map (λ (x : GraphNode). x.name) (slice_get nodes n) ≡ Some name → name_at nodes n ≡ node_named name
name_is nodes n name is = named (slice_get nodes n) is
  where
    named : (o : Option GraphNode) → option_map (λ (x : GraphNode). x.name) o ≡ Some name → name_or_none o ≡ node_named name
    named None e = absurd (none-some name e)
    named (Some x) e = ap node_named (same_Some x.name name e)

-- where values go into a call there is a node
pub begins_inside : (nodes : List GraphNode) (n : ℕ) → goes_in (name_at nodes n).kind ≡ true → n < length nodes
begins_inside nodes n begin = elim (cases_lt n (length nodes)) [
  | inl below ↦ below
  | inr past ↦ absurd (false≢true (sym (ap (λ o. goes_in (name_or_none o).kind) (slice_get_past nodes n past)) ∙ begin))
]

pub beginnings_below : (nodes : List GraphNode) (rows : List (List ℕ)) (to count : ℕ) (row : List ℕ) → AreSummaries nodes rows → row ≡ get_or rows to [] → count ≡ length nodes → All (λ n. n < count) row
beginnings_below nodes rows to count row summaries is same k d below =
    let among : Contains (get_or rows to []) (get_or row k d) = subst (λ ns. Contains ns (get_or row k d)) is (Contains-get_or row k d below) in
    let inside : get_or row k d < length nodes = begins_inside nodes (get_or row k d) ((summaries.pairs (get_or row k d) to).0 among).begin in
    omega (arith, inside, same)

module _ (nodes : List GraphNode) (rows : List (List ℕ)) (summaries : AreSummaries nodes rows) (number : ℕ) (to : Place) (row : List ℕ) (is : row ≡ get_or rows to.node []) (old mid new : List Found)
    (edges : Appends (IsStepTo nodes number to) old mid) (passes : Appends (IsPassTo row number to) mid new) where
  pass_is_step : (item : Found) → IsPassTo row number to item → IsStepTo nodes number to item
  pass_is_step item pass = (Pass, pass.way, ((summaries.pairs item.place.node to.node).0 (subst (λ ns. Contains ns item.place.node) is pass.from), pass.phase))

  pub followed_more : Appends (IsStepTo nodes number to) old new
  followed_more = appends_then (IsStepTo nodes number to) old mid new edges (appends_weaker (IsPassTo row number to) (IsStepTo nodes number to) pass_is_step mid new passes)

  pub followed_all : ((from : Place) (kind : EdgeKind) → Leads nodes from (Edge kind) to → HasPlace mid from) → ((n : ℕ) → Contains row n → HasPlace new (place n to.phase))
      → (from : Place) (word : Word) → Leads nodes from word to → HasPlace new from
  followed_all by_edge by_pass from (Edge kind) leads = appends_place (IsPassTo row number to) mid new from passes (by_edge from kind leads)
  followed_all by_edge by_pass from Pass leads =
      subst (λ phase. HasPlace new (place from.node phase)) (sym leads.1)
      (by_pass from.node (subst (λ ns. Contains ns from.node) (sym is) ((summaries.pairs from.node to.node).1 leads.0)))

-- ---- one step of a loop

-- the item of a `pass`
abbrev pub pass_from : ℕ → ℕ → Place → Found
pass_from n number to = record { place = place n to.phase; way = AStep Pass number }

module _ (row : List ℕ) (number : ℕ) (to : Place) (mid new : List Found) (i n : ℕ) (below : i < length row) (is : n ≡ get_or row i 0) (adds : AddsFound mid (pass_from n number to) new) where
  one_pass : Appends (IsPassTo row number to) mid new
  one_pass =
      appends_added (IsPassTo row number to) mid new (pass_from n number to)
      (record { way = refl; phase = refl; from = subst (λ m. Contains row m) (sym is) (Contains-get_or row i 0 below) }) adds

  pub pass_more : (old : List Found) → Appends (IsPassTo row number to) old mid → Appends (IsPassTo row number to) old new
  pass_more old before = appends_then (IsPassTo row number to) old mid new before one_pass

  pub pass_all : ((k : ℕ) → k < i → HasPlace mid (place (get_or row k 0) to.phase)) → (k : ℕ) → k < i + 1 → HasPlace new (place (get_or row k 0) to.phase)
  pass_all before k within = elim (cases_lt k i) [
    | inl had ↦ appends_place (IsPassTo row number to) mid new (place (get_or row k 0) to.phase) one_pass (before k had)
    | inr past ↦
        let e : i ≡ k = omega arith in
        subst (λ m. HasPlace new (place m to.phase)) (is ∙ ap (λ j. get_or row j 0) e) (added_place mid new (pass_from n number to) adds)
  ]

pub pass_each : (row : List ℕ) (to : Place) (found : List Found) → ((k : ℕ) → k < length row → HasPlace found (place (get_or row k 0) to.phase)) → (n : ℕ) → Contains row n → HasPlace found (place n to.phase)
pass_each row to found all n (k, below, e) = subst (λ m. HasPlace found (place m to.phase)) (get_or_default row k 0 n below ∙ e) (all k below)

-- the item of an edge
abbrev pub edge_from : ℕ → Phase → EdgeKind → ℕ → Found
edge_from n phase kind number = record { place = place n phase; way = AStep (Edge kind) number }

module _ (nodes : List GraphNode) (number : ℕ) (to : Place) (old new : List Found) (from : ℕ) (kind : EdgeKind) (phase : Phase) (begin_name end_name : NodeName)
    (begin : name_at nodes from ≡ node_named begin_name) (end : name_at nodes to.node ≡ node_named end_name) (is : Some phase ≡ phase_before kind (node_named begin_name) (node_named end_name) to.phase)
    (adds : AddsFound old (edge_from from phase kind number) new) where
  phase_is : IsPhaseBefore nodes from kind to phase
  phase_is = ap (λ n. phase_before kind n (name_at nodes to.node) to.phase) begin ∙ ap (λ n. phase_before kind (node_named begin_name) n to.phase) end ∙ sym is

  pub edge_more : HasEdge nodes from kind to.node → Appends (IsStepTo nodes number to) old new
  edge_more along = appends_added (IsStepTo nodes number to) old new (edge_from from phase kind number) (Edge kind, refl, (along, phase_is)) adds

  pub edge_all : (other : Phase) → IsPhaseBefore nodes from kind to other → HasPlace new (place from other)
  edge_all other e = subst (λ p. HasPlace new (place from p)) (same_Some phase other (sym phase_is ∙ e)) (added_place old new (edge_from from phase kind number) adds)

pub edges_all : (nodes : List GraphNode) (edges : List (ℕ × EdgeKind)) (number : ℕ) (to : Place) (mid new : List Found) (i : ℕ) (edge : ℕ × EdgeKind) → i < length edges → edge ≡ get_or edges i edge → Appends (IsStepTo nodes number to) mid new
    → ((k : ℕ) (d : ℕ × EdgeKind) (phase : Phase) → k < i → IsPhaseBefore nodes (get_or edges k d).0 (get_or edges k d).1 to phase → HasPlace mid (place (get_or edges k d).0 phase))
    → ((phase : Phase) → IsPhaseBefore nodes edge.0 edge.1 to phase → HasPlace new (place edge.0 phase))
    → (k : ℕ) (d : ℕ × EdgeKind) (phase : Phase) → k < i + 1 → IsPhaseBefore nodes (get_or edges k d).0 (get_or edges k d).1 to phase → HasPlace new (place (get_or edges k d).0 phase)
edges_all nodes edges number to mid new i edge below is more before here k d phase within e = elim (cases_lt k i) [
  | inl had ↦ appends_place (IsStepTo nodes number to) mid new (place (get_or edges k d).0 phase) more (before k d phase had e)
  | inr past ↦
      let same : edge ≡ get_or edges k d = get_or_read edges i edge below is d ∙ ap (λ j. get_or edges j d) (let at : i ≡ k = omega arith in at) in
      subst (λ (x : ℕ × EdgeKind). HasPlace new (place x.0 phase)) same (here phase (subst (λ (x : ℕ × EdgeKind). IsPhaseBefore nodes x.0 x.1 to phase) (sym same) e))
]

-- no place of the node is found
pub find_none : (places found : List Found) (end node : ℕ) → take end places ≡ found → ((k : ℕ) (d : Found) → k < end → (get_or places k d).place.node ≡ node → ⊥) → HasNode found node → ⊥
find_none places found end node is none (phase, (k, below, e)) =
    let inside : k < length found = omega (arith, below, length-map found (λ (f : Found). f.place)) in
    let within : k < end = omega (arith, ap length is, length-take end places, inside) in
    let there : (get_or found k (criterion 0)).place ≡ place node phase = sym (get_or-map (λ (f : Found). f.place) found k (criterion 0) (place node phase) inside) ∙ e in
    let same : get_or found k (criterion 0) ≡ get_or places k (criterion 0) = ap (λ l. get_or l k (criterion 0)) (sym is) ∙ get_or-take end places k (criterion 0) within in
    none k (criterion 0) within (ap (λ (f : Found). f.place.node) (sym same) ∙ ap (λ (p : Place). p.node) there)
