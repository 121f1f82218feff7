-- Cycles of calls, by numbers and over lists of sites.
use Rattle.std.proofs.Common.{[], get_or, replicate, ◌≡◌, ◌↔◌, ◌⊎◌, inl, inr, ℕ, Bool, false, IsTrue, ◌+◌, ◌<◌, List, length, Contains, refl, sym, ap, ◌∙◌, subst, arith}
use Rattle.std.proofs.lemmas.Bool.{cases_lt}
use Rattle.std.proofs.lemmas.List.{length-replicate, get_or-replicate, get_or_past}
use Rattle.std.proofs.lemmas.Option.{same_Some, slice_get_within}
use Rattle.jo_ids.specs.Path.{Path, stays, goes}
use Rattle.jo_ids.proofs.PathLemmas.{path_in}
use Rattle.jo_graph.specs.Graphs.{HasEdge, AddsEdge}
use Rattle.dep_nodes.specs.OnceLists.{IsOnceEach}
use Rattle.dependence.specs.declared.facts.InstKey.{InstKey}
use Rattle.dependence.specs.declared.facts.Fact.{Fact}
use Rattle.dependence.specs.declared.facts.Fact.TheVariants.{Reached, Holds, CellHolds, Target, Fork, Throws, Stalls}
use Rattle.dependence.specs.FactRules.{CallsInThread}
use Rattle.fact_sets.specs.declared.numbered.NumberedFact.{NumberedFact}
use Rattle.fact_sets.specs.declared.numbered.NumberedFact.TheVariants.{Reached as IsReached, Calls as IsCalled}
use Rattle.fact_sets.specs.FactLists.{FactLists, HasFact, IsFactAt, IsInstance, Says, called, pair_of}
use Rattle.fact_sets.specs.Seen.{TellsApart, instance_seen, fact_seen, Known, Listed}
use Rattle.fact_rules.specs.Adds.{Adds, FromBelow}
use Rattle.fact_rules.specs.CycleRules.{ByRecursion, recurs, CallsAs, IsCallEdge, HasPair, IsPairOf, IsTargetPair, IsPairFrom, RecursAt}
use Rattle.fact_rules.proofs.AddsLemmas.{adds_more}
use Rattle.fact_rules.proofs.CallLemmas.{at_same, place_of, has_at}
use Rattle.fact_rules.proofs.KeptLemmas.{runs_told}
use Rattle.fact_rules.proofs.SeenLemmas.{same_instance, was_kept, kept_known, seen_adds}

abbrev the_key : {C : Type 0} → ℕ → C → InstKey C
the_key m c = record { method = m; context = c }

one_key_of : {C : Type 0} (instances : List (ℕ × C)) (a : ℕ) (key other : InstKey C) → IsInstance instances a key → IsInstance instances a other → key ≡ other
one_key_of {C} instances a key other is also = ap (λ (p : ℕ × C). the_key p.0 p.1) (same_Some (pair_of key) (pair_of other) (sym is ∙ also))

-- ---- the graph

pair_added : (old new : List (List ℕ)) (a b : ℕ) → AddsEdge old new a b → Adds (HasPair old) (HasPair new) (λ pair. (pair.0 ≡ a) × (pair.1 ≡ b))
pair_added old new a b adds pair = adds.edges pair.0 pair.1

pub call_added : (old mid new : List (List ℕ)) (count a b : ℕ) → AddsEdge old mid a b → AddsEdge mid new (count + a) b → Adds (HasPair old) (HasPair new) (IsPairOf count a b)
call_added old mid new count a b first second =
    adds_more (HasPair old) (HasPair mid) (HasPair new) (λ pair. (pair.0 ≡ a) × (pair.1 ≡ b)) (λ pair. (pair.0 ≡ count + a) × (pair.1 ≡ b)) (IsPairOf count a b)
    (pair_added old mid a b first) (pair_added mid new (count + a) b second) parts
  where
    parts : (pair : ℕ × ℕ) → IsPairOf count a b pair ↔ (((pair.0 ≡ a) × (pair.1 ≡ b)) ⊎ ((pair.0 ≡ count + a) × (pair.1 ≡ b)))
    parts pair = (there, back)
      where
        there : IsPairOf count a b pair → ((pair.0 ≡ a) × (pair.1 ≡ b)) ⊎ ((pair.0 ≡ count + a) × (pair.1 ≡ b))
        there (inl low, to) = inl (low, to)
        there (inr high, to) = inr (high, to)

        back : ((pair.0 ≡ a) × (pair.1 ≡ b)) ⊎ ((pair.0 ≡ count + a) × (pair.1 ≡ b)) → IsPairOf count a b pair
        back (inl (low, to)) = (inl low, to)
        back (inr (high, to)) = (inr high, to)

-- each key has one number
pub target_pairs : {C : Type 0} (instances : List (ℕ × C)) (count a b : ℕ) (key to : InstKey C) → IsOnceEach instances → IsInstance instances a key → IsInstance instances b to
    → (pair : ℕ × ℕ) → IsPairOf count a b pair ↔ IsTargetPair instances count key to pair
target_pairs {C} instances count a b key to once is_a is_b pair = (λ p. (a, (b, (is_a, (is_b, p)))), back)
  where
    back : IsTargetPair instances count key to pair → IsPairOf count a b pair
    back (x, (y, (is_x, (is_y, p)))) =
        subst (λ (n : ℕ). IsPairOf count n b pair) (once x a (pair_of key) is_x is_a) (subst (λ (n : ℕ). IsPairOf count x n pair) (once y b (pair_of to) is_y is_b) p)

-- the edges for the fact at a place
abbrev pub IsPairAt : {C : Type 0} → FactLists C → ℕ → ℕ → ℕ × ℕ → Type 0
IsPairAt {C} lists count place pair = (fact : Fact C) × IsFactAt lists place fact × IsPairFrom lists.instances count fact pair

pub pairs_at : {C : Type 0} (lists : FactLists C) (count place : ℕ) (fact : Fact C) → IsFactAt lists place fact → (pair : ℕ × ℕ) → IsPairFrom lists.instances count fact pair ↔ IsPairAt lists count place pair
pairs_at lists count place fact at pair =
    (λ from. (fact, at, from), λ there. subst (λ q. IsPairFrom lists.instances count q pair) (at_same lists place there.0 fact there.1 at) there.2)

module _ {C : Type 0} (lists : FactLists C) (count : ℕ) where
  from_pair : (fact : Fact C) (x y : ℕ) → HasFact lists fact → IsPairFrom lists.instances count fact (x, y) → IsCallEdge lists count x y
  from_pair (Target key pc to) x y has (a, (b, (is_a, (is_b, (doubled, is))))) =
      (a, record { key = key; pc = pc; to = to; has = has; is_caller = is_a; is_target = subst (λ (n : ℕ). IsInstance lists.instances n to) (sym is) is_b }, doubled)
  from_pair (Fork key pc to) x y has none = absurd none
  from_pair (Reached i) x y has none = absurd none
  from_pair (Holds i spot o) x y has none = absurd none
  from_pair (CellHolds cell o) x y has none = absurd none
  from_pair (Throws i) x y has none = absurd none
  from_pair (Stalls i) x y has none = absurd none

  pub edge_pairs : (x y : ℕ) → FromBelow (length lists.facts) (IsPairAt lists count) (x, y) ↔ IsCallEdge lists count x y
  edge_pairs x y = (there, back)
    where
      there : FromBelow (length lists.facts) (IsPairAt lists count) (x, y) → IsCallEdge lists count x y
      there (place, below, (fact, at, from)) = from_pair fact x y (has_at lists place fact at) from

      back : IsCallEdge lists count x y → FromBelow (length lists.facts) (IsPairAt lists count) (x, y)
      back (a, calls, doubled) =
          let fact : Fact C = Target calls.key calls.pc calls.to in
          let (place, below, at) = place_of lists fact calls.has in
          (place, below, (fact, at, (a, (y, (calls.is_caller, (calls.is_target, (doubled, refl)))))))

  -- ---- paths of the graph

  module _ (graph : List (List ℕ)) (all : count ≡ length lists.instances) (edges : (x y : ℕ) → HasEdge graph x y ↔ IsCallEdge lists count x y) where
    caller_below : (a b : ℕ) → CallsAs lists a b → a < count
    caller_below a b calls = omega (arith, all, slice_get_within lists.instances a (pair_of calls.key) calls.is_caller)

    target_below : (a b : ℕ) → CallsAs lists a b → b < count
    target_below a b calls = omega (arith, all, slice_get_within lists.instances b (pair_of calls.to) calls.is_target)

    from_low : (x y : ℕ) → x < count → IsCallEdge lists count x y → CallsAs lists x y
    from_low x y below (a, calls, inl is) = subst (λ (n : ℕ). CallsAs lists n y) (sym is) calls
    from_low x y below (a, calls, inr is) = absurd (omega (arith, below, is))

    from_high : (i y : ℕ) → i < count → IsCallEdge lists count (count + i) y → CallsAs lists i y
    from_high i y below (a, calls, inl is) = absurd (omega (arith, is, caller_below a y calls))
    from_high i y below (a, calls, inr is) = let e : a ≡ i = omega (arith, is) in subst (λ (n : ℕ). CallsAs lists n y) e calls

    low_path : (x z : ℕ) → x < count → Path (HasEdge graph) x z → Path (CallsAs lists) x z
    low_path x _ below (stays _) = stays x
    low_path x z below (goes _ y _ edge path) =
        let calls = from_low x y below ((edges x y).0 edge) in
        goes x y z calls (low_path y z (target_below x y calls) path)

    abbrev Returns : ℕ → Type 0
    Returns i = (j : ℕ) × (CallsAs lists i j × Path (CallsAs lists) j i)

    pub path_returns : (i : ℕ) → i < count → Path (HasEdge graph) (count + i) i ↔ Returns i
    path_returns i below = (λ path. there (count + i) i refl refl path, back)
      where
        there : (x z : ℕ) → x ≡ count + i → z ≡ i → Path (HasEdge graph) x z → Returns i
        there x _ is_x is_z (stays _) = absurd (omega (arith, below, is_x, is_z))
        there x z is_x is_z (goes _ y _ edge path) =
            let calls = from_high i y below (subst (λ (n : ℕ). IsCallEdge lists count n y) is_x ((edges x y).0 edge)) in
            (y, (calls, subst (λ (n : ℕ). Path (CallsAs lists) y n) is_z (low_path y z (target_below i y calls) path)))

        back : Returns i → Path (HasEdge graph) (count + i) i
        back (j, (calls, path)) =
            goes (count + i) j i ((edges (count + i) j).1 (i, calls, inr refl))
            (path_in (λ (n : ℕ). n) (λ a b step. (edges a b).1 (a, step, inl refl)) path)

no_edges : (n a b : ℕ) → HasEdge (replicate n []) a b → ⊥
no_edges n a b edge =
    let none : get_or (replicate n []) a [] ≡ [] = elim (cases_lt a n) [
      | inl h ↦ get_or-replicate {A = List ℕ} n a [] [] h
      | inr h ↦ get_or_past {X = List ℕ} (replicate n []) a [] (omega (arith, h, length-replicate {A = List ℕ} n []))
    ] in
    let among : Contains {X = ℕ} [] b = subst (λ bs. Contains bs b) none edge in
    omega (arith, among.1)

-- the edges of all facts, from none
pub call_edges : {C : Type 0} (lists : FactLists C) (count n : ℕ) (empty graph : List (List ℕ)) → empty ≡ replicate n [] → Adds (HasPair empty) (HasPair graph) (FromBelow (length lists.facts) (IsPairAt lists count))
    → (x y : ℕ) → HasEdge graph x y ↔ IsCallEdge lists count x y
call_edges lists count n empty graph is adds x y = (there, λ edge. (adds (x, y)).1 (inr ((edge_pairs lists count x y).1 edge)))
  where
    of : HasEdge empty x y ⊎ FromBelow (length lists.facts) (IsPairAt lists count) (x, y) → IsCallEdge lists count x y
    of (inl edge) = absurd (no_edges n x y (subst (λ g. HasEdge g x y) is edge))
    of (inr from) = (edge_pairs lists count x y).0 from

    there : HasEdge graph x y → IsCallEdge lists count x y
    there edge = of ((adds (x, y)).0 edge)

-- ---- one number

module _ {C : Type 0} (lists : FactLists C) (once : IsOnceEach lists.instances) (graph : List (List ℕ)) (count i : ℕ) where
  pub recurs_runs : (b : Bool) → IsTrue b ↔ Contains lists.facts (IsReached i) → (f : Fact C) → RecursAt lists graph count i f → IsTrue b
  recurs_runs b told f at = (runs_told lists i at.key b once at.is_key told).1 at.runs

  pub recurs_at : (b : Bool) (key : InstKey C) → IsTrue b ↔ Contains lists.facts (IsReached i) → IsTrue b → IsInstance lists.instances i key → Path (HasEdge graph) (count + i) i
      → (f : Fact C) → (f ≡ Stalls key) ↔ RecursAt lists graph count i f
  recurs_at b key told runs is path f = (
    λ e. record { key = key; is_key = is; runs = (runs_told lists i key b once is told).0 runs; path = path; is = e },
    λ at. at.is ∙ ap Stalls (one_key_of lists.instances i at.key key at.is_key is),
  )

-- ---- over lists of sites

module _ {C : Type 0} (list : C → List ℕ) (tells : TellsApart list) (lists : FactLists C) (once : IsOnceEach lists.instances) where
  abbrev Calls : InstKey (List ℕ) → InstKey (List ℕ) → Type 0
  Calls = CallsInThread (Known list lists)

  one_key : (a : ℕ) (key other : InstKey C) → IsInstance lists.instances a key → IsInstance lists.instances a other → key ≡ other
  one_key a key other is also = one_key_of lists.instances a key other is also

  step_seen : (a b : ℕ) (calls : CallsAs lists a b) (key to : InstKey C) → IsInstance lists.instances a key → IsInstance lists.instances b to → Calls (instance_seen list key) (instance_seen list to)
  step_seen a b calls key to is_a is_b =
      let from : calls.key ≡ key = one_key a calls.key key calls.is_caller is_a in
      let at : calls.to ≡ to = one_key b calls.to to calls.is_target is_b in
      let has : HasFact lists (Target key calls.pc to) = subst (λ k. HasFact lists (Target k calls.pc to)) from (subst (λ k. HasFact lists (Target calls.key calls.pc k)) at calls.has) in
      (calls.pc, kept_known list tells lists (Target key calls.pc to) has)

  path_seen : (a b : ℕ) (key to : InstKey C) → IsInstance lists.instances a key → IsInstance lists.instances b to → Path (CallsAs lists) a b → Path Calls (instance_seen list key) (instance_seen list to)
  path_seen a _ key to is_a is_b (stays _) = subst (λ k. Path Calls (instance_seen list key) (instance_seen list k)) (one_key a key to is_a is_b) (stays (instance_seen list key))
  path_seen a b key to is_a is_b (goes _ m _ calls path) =
      goes (instance_seen list key) (instance_seen list calls.to) (instance_seen list to) (step_seen a m calls key calls.to is_a calls.is_target)
      (path_seen m b calls.to to calls.is_target is_b path)

  -- the number of an instance that is seen so
  record Numbered (i : InstKey (List ℕ)) (a : ℕ) : Type 0 where
    key : InstKey C
    is : IsInstance lists.instances a key
    seen : instance_seen list key ≡ i

  one_number : (i : InstKey (List ℕ)) (a b : ℕ) → Numbered i a → Numbered i b → a ≡ b
  one_number i a b one other =
      let same : one.key ≡ other.key = same_instance list tells one.key other.key (one.seen ∙ sym other.seen) in
      once a b (pair_of other.key) (subst (λ k. IsInstance lists.instances a k) same one.is) other.is

  -- a call that is known, by numbers
  record Numbers (i j : InstKey (List ℕ)) : Type 0 where
    a : ℕ
    b : ℕ
    calls : CallsAs lists a b
    caller : Numbered i a
    target : Numbered j b

  numbers_said : (n : NumberedFact) (key to : InstKey C) (pc : ℕ) (i j : InstKey (List ℕ)) → Contains lists.facts n → Says lists.instances lists.objects n (Target key pc to)
      → instance_seen list key ≡ i → instance_seen list to ≡ j → Numbers i j
  numbers_said _ _ _ _ i j there (called call b pc key to at) is_i is_j =
      record {
        a = call.instance;
        b = b;
        calls = record { key = key; pc = pc; to = to; has = record { numbered = IsCalled call b false; there = there; says = called call b pc key to at }; is_caller = at.caller; is_target = at.target };
        caller = record { key = key; is = at.caller; seen = is_i };
        target = record { key = to; is = at.target; seen = is_j };
      }

  target_numbers : (i j : InstKey (List ℕ)) (pc : ℕ) (fact : Fact C) → HasFact lists fact → fact_seen list fact ≡ Target i pc j → Numbers i j
  target_numbers i j pc (Target a p b) has e = numbers_said has.numbered a b p i j has.there has.says (cc) (cc)
  target_numbers i j pc (Fork a p b) has e = absurd (cc)
  target_numbers i j pc (Reached a) has e = absurd (cc)
  target_numbers i j pc (Holds a spot o) has e = absurd (cc)
  target_numbers i j pc (CellHolds cell o) has e = absurd (cc)
  target_numbers i j pc (Throws a) has e = absurd (cc)
  target_numbers i j pc (Stalls a) has e = absurd (cc)

  call_numbers : (i j : InstKey (List ℕ)) → Calls i j → Numbers i j
  call_numbers i j (pc, known) = target_numbers i j pc known.fact known.has known.seen

  path_numbers : (i j : InstKey (List ℕ)) (a : ℕ) → Numbered i a → Path Calls i j → (b : ℕ) × (Numbered j b × Path (CallsAs lists) a b)
  path_numbers i _ a at (stays _) = (a, (at, stays a))
  path_numbers i j a at (goes _ m _ call path) =
      let n = call_numbers i m call in
      let e : n.a ≡ a = one_number i n.a a n.caller at in
      let (b, (at_b, rest)) = path_numbers m j n.b n.target path in
      (b, (at_b, goes a n.b b (subst (λ (x : ℕ). CallsAs lists x n.b) e n.calls) rest))

  -- ---- what all numbers give

  module _ (graph : List (List ℕ)) (edges : (x y : ℕ) → HasEdge graph x y ↔ IsCallEdge lists (length lists.instances) x y) where
    abbrev count : ℕ
    count = length lists.instances

    gives_seen : (f : Fact C) → FromBelow count (RecursAt lists graph count) f → ByRecursion (Known list lists) (fact_seen list f)
    gives_seen f (i, below, at) =
        let (j, (calls, path)) = (path_returns lists count graph refl edges i below).0 at.path in
        subst (λ q. ByRecursion (Known list lists) (fact_seen list q)) (sym at.is)
        (recurs (instance_seen list at.key) (instance_seen list calls.to) (kept_known list tells lists (Reached at.key) at.runs)
        (step_seen i j calls at.key calls.to at.is_key calls.is_target) (path_seen j i calls.to at.key calls.is_target at.is_key path))

    -- a cycle, by numbers
    recursion_kept : (i j : InstKey (List ℕ)) → Known list lists (Reached i) → (call : Numbers i j) → (b : ℕ) → Numbered i b → Path (CallsAs lists) call.b b
        → (f : Fact C) × (FromBelow count (RecursAt lists graph count) f × (fact_seen list f ≡ Stalls i))
    recursion_kept i j runs call b at path =
        let key = call.caller.key in
        let e : b ≡ call.a = one_number i b call.a at call.caller in
        let below : call.a < count = slice_get_within lists.instances call.a (pair_of key) call.caller.is in
        let back : Path (CallsAs lists) call.b call.a = subst (λ (x : ℕ). Path (CallsAs lists) call.b x) e path in
        let has : HasFact lists (Reached key) = was_kept list tells lists (Reached key) (subst (λ k. Known list lists (Reached k)) (sym call.caller.seen) runs) in (
          Stalls key,
          (
            (call.a, below, record { key = key; is_key = call.caller.is; runs = has; path = (path_returns lists count graph refl edges call.a below).1 (call.b, (call.calls, back)); is = refl }),
            ap Stalls call.caller.seen,
          ),
        )

    gives_kept : (g : Fact (List ℕ)) → ByRecursion (Known list lists) g → (f : Fact C) × (FromBelow count (RecursAt lists graph count) f × (fact_seen list f ≡ g))
    gives_kept _ (recurs i j runs call path) =
        let n = call_numbers i j call in
        let (b, (at, rest)) = path_numbers j i n.b n.target path in
        recursion_kept i j runs n b at rest

    pub all_cycles : (old new : List (Fact C)) → Adds (Contains old) (Contains new) (FromBelow count (RecursAt lists graph count)) → Adds (Listed list old) (Listed list new) (ByRecursion (Known list lists))
    all_cycles old new adds = seen_adds list tells old new (FromBelow count (RecursAt lists graph count)) (ByRecursion (Known list lists)) adds gives_seen gives_kept
