-- Facts stay kept as derivable ones are taken in, and their numbers tell where a limit is.
use Rattle.std.specs.Prelude.{slice_get, map}
use Rattle.std.proofs.Common.{◌≡◌, ◌↔◌, ◌⊎◌, inl, inr, ℕ, zero, suc, ◌+◌, ◌<◌, ◌≤◌, List, [], ◌∷◌, length, Contains, Some, None, refl, sym, ap, ◌∙◌, subst, arith}
use Rattle.std.proofs.lemmas.List.{length-map}
use Rattle.std.proofs.lemmas.Option.{same_Some}
use Rattle.jo_ids.specs.declared.ObjKey.{ObjKey}
use Rattle.jo_ids.specs.declared.LimitKind.TheVariants.{M1, M2, M3, M4, M5, M6, M7}
use Rattle.jo_prog.specs.declared.program.Program.{Program}
use Rattle.jo_prog.proofs.WalkLemmas.{here, behind, head_or_behind, none_there}
use Rattle.contexts.specs.Policies.{ContextPolicy}
use Rattle.dep_nodes.specs.OnceLists.{IsOnceEach}
use Rattle.dep_nodes.proofs.OnceLemmas.{contains_at}
use Rattle.dependence.specs.declared.facts.InstKey.{InstKey}
use Rattle.dependence.specs.declared.facts.FactCell.{FactCell}
use Rattle.dependence.specs.declared.facts.FactCell.TheVariants.{Field, Elements, Static}
use Rattle.dependence.specs.declared.facts.Fact.{Fact}
use Rattle.dependence.specs.declared.facts.Fact.TheVariants.{Reached, Holds, CellHolds, Target, Fork, Throws, Stalls}
use Rattle.fact_sets.specs.declared.numbered.CellNumber.{CellNumber}
use Rattle.fact_sets.specs.declared.numbered.NumberedFact.{NumberedFact}
use Rattle.fact_sets.specs.FactLists.{FactLists, HasFact, IsInstance, IsObject, IsCell, Says, instances_in, objects_in, objects_at, with_last, object_pair, pair_of, of_field, of_elements, of_static, reached, held, in_cell, called, forked, throws, stalls}
use Rattle.fact_sets.specs.Seen.{TellsApart, Known, fact_seen, cell_seen, instance_seen, object_seen}
use Rattle.fact_rules.specs.Adds.{From}
use Rattle.points_to.specs.declared.faults.SolveFault.{SolveFault}
use Rattle.points_to.specs.declared.faults.SolveFault.TheVariants.{Limit, Memory}
use Rattle.points_to.specs.Limits.{HasMore, Runs, IsNamed, NamesObject, CellNames, IsLimitOf}
use Rattle.flow_graph.proofs.CountLemmas.{not_longer}
use Rattle.points_to.specs.Additions.{TakesOnly, IsOver, IsFew}
use Rattle.points_to.specs.Kept.{FactsOf, IsKept, instance_of, object_of}
use Rattle.points_to.proofs.ClosureLemmas.{NamesRunning, names_running}

module _ (program : Program) (policy : ContextPolicy) (entry : ℕ) {C : Type 0} (list : C → List ℕ) where
  abbrev Are : Fact (List ℕ) → Type 0
  Are = FactsOf program policy entry

  of_one : (P : ℕ × C → Type 0) (x : ℕ × C) → P x → (p : ℕ × C) → Contains (x ∷ []) p → P p
  of_one P x h p c = elim (head_or_behind x [] p c) [
    | inl e ↦ subst P e h
    | inr none ↦ absurd (none_there p none)
  ]

  of_two : (P : ℕ × C → Type 0) (x y : ℕ × C) → P x → P y → (p : ℕ × C) → Contains (x ∷ y ∷ []) p → P p
  of_two P x y h k p c = elim (head_or_behind x (y ∷ []) p c) [
    | inl e ↦ subst P e h
    | inr more ↦ of_one P y k p more
  ]

  abbrev RunsAs : ℕ × C → Type 0
  RunsAs pair = Are (Reached (instance_of list pair))

  instances_run : (f : Fact C) → NamesRunning program policy entry (fact_seen list f) → (pair : ℕ × C) → Contains (instances_in f) pair → RunsAs pair
  instances_run (Reached i) runs pair c = of_one RunsAs (i.method, i.context) runs pair c
  instances_run (Holds i _ o) runs pair c = of_one RunsAs (i.method, i.context) runs pair c
  instances_run (CellHolds cell o) runs pair c = absurd (none_there pair c)
  instances_run (Target i pc j) runs pair c = of_two RunsAs (i.method, i.context) (j.method, j.context) runs.0 runs.1 pair c
  instances_run (Fork i pc j) runs pair c = of_two RunsAs (i.method, i.context) (j.method, j.context) runs.0 runs.1 pair c
  instances_run (Throws i) runs pair c = of_one RunsAs (i.method, i.context) runs pair c
  instances_run (Stalls i) runs pair c = of_one RunsAs (i.method, i.context) runs pair c

  abbrev NamedAs : Fact (List ℕ) → ℕ × C → Type 0
  NamedAs g pair = NamesObject g (object_of list pair)

  cell_named : (cell : FactCell C) (o : ObjKey C) (pair : ℕ × C) → Contains (with_last (objects_at cell) o) pair → NamedAs (fact_seen list (CellHolds cell o)) pair
  cell_named (Field f b) o pair c = of_two (NamedAs (fact_seen list (CellHolds (Field f b) o))) (b.site, b.context) (o.site, o.context) (inl refl) (inr refl) pair c
  cell_named (Elements b) o pair c = of_two (NamedAs (fact_seen list (CellHolds (Elements b) o))) (b.site, b.context) (o.site, o.context) (inl refl) (inr refl) pair c
  cell_named (Static f) o pair c = of_one (NamedAs (fact_seen list (CellHolds (Static f) o))) (o.site, o.context) (inr refl) pair c

  objects_named : (f : Fact C) (pair : ℕ × C) → Contains (objects_in f) pair → NamedAs (fact_seen list f) pair
  objects_named (Reached i) pair c = absurd (none_there pair c)
  objects_named (Holds i kind o) pair c = of_one (NamedAs (fact_seen list (Holds i kind o))) (o.site, o.context) refl pair c
  objects_named (CellHolds cell o) pair c = cell_named cell o pair c
  objects_named (Target i pc j) pair c = absurd (none_there pair c)
  objects_named (Fork i pc j) pair c = absurd (none_there pair c)
  objects_named (Throws i) pair c = absurd (none_there pair c)
  objects_named (Stalls i) pair c = absurd (none_there pair c)

  -- ---- as facts are taken in

  pub kept_on : (old new : FactLists C) (items : List (Fact C)) → ((f : Fact C) → Contains items f → Are (fact_seen list f))
      → IsKept program policy entry list old → TakesOnly old new items → IsKept program policy entry list new
  kept_on old new items derivable kept only = record {
    sound = λ g known. subst Are known.seen (of_fact known.fact (only.facts known.fact known.has));
    runs = λ pair there. of_instance pair (only.instances pair there);
    named = λ pair there. of_object pair (only.objects pair there);
  }
    where
      of_fact : (f : Fact C) → HasFact old f ⊎ Contains items f → Are (fact_seen list f)
      of_fact f (inl has) = kept.sound (fact_seen list f) (record { fact = f; has = has; seen = refl })
      of_fact f (inr among) = derivable f among

      of_instance : (pair : ℕ × C) → Contains old.instances pair ⊎ From items (λ g p. Contains (instances_in g) p) pair → RunsAs pair
      of_instance pair (inl had) = kept.runs pair had
      of_instance pair (inr (f, among, names)) = instances_run f (names_running program policy entry (fact_seen list f) (derivable f among)) pair names

      of_object : (pair : ℕ × C) → Contains old.objects pair ⊎ From items (λ g p. Contains (objects_in g) p) pair → IsNamed Are (object_of list pair)
      of_object pair (inl had) = kept.named pair had
      of_object pair (inr (f, among, names)) = (fact_seen list f, derivable f among, objects_named f pair names)

  -- ---- limits

  mapped : {A B : Type 0} (f : A → B) (P : B → Type 0) (xs : List A) → ((x : A) → Contains xs x → P (f x)) → (y : B) → Contains (map f xs) y → P y
  mapped f P [] h y c = absurd (none_there y c)
  mapped {A} {B} f P (x ∷ xs) h y c = elim (head_or_behind (f x) (map f xs) y c) [
    | inl e ↦ subst P e (h x (here x xs))
    | inr more ↦ mapped f P xs (λ z d. h z (behind x xs z d)) y more
  ]

  record CameFrom {A B : Type 0} (f : A → B) (o : List A) (i : ℕ) (y : B) : Type 0 where
    item : A
    at : slice_get o i ≡ Some item
    is : f item ≡ y

  came_from : {A B : Type 0} (f : A → B) (xs : List A) (i : ℕ) (y : B) → slice_get (map f xs) i ≡ Some y → CameFrom f xs i y
  came_from f [] i y e = absurd (cc)
  came_from f (x ∷ xs) zero y e = record { item = x; at = refl; is = same_Some (f x) y e }
  came_from f (x ∷ xs) (suc i) y e = let from = came_from f xs i y e in record { item = from.item; at = from.at; is = from.is }

  mapped_once : {A B : Type 0} (f : A → B) → ((a b : A) → f a ≡ f b → a ≡ b) → (xs : List A) → IsOnceEach xs → IsOnceEach (map f xs)
  mapped_once f apart xs once i j y at_i at_j =
      let a = came_from f xs i y at_i in
      let b = came_from f xs j y at_j in
      let same = apart a.item b.item (a.is ∙ sym b.is) in
      once i j a.item a.at (subst (λ z. slice_get xs j ≡ Some z) (sym same) b.at)

  module _ (tells : TellsApart list) where
    abbrev pair_at : ℕ → C → ℕ × C
    pair_at n context = (n, context)

    instance_apart : (a b : ℕ × C) → instance_of list a ≡ instance_of list b → a ≡ b
    instance_apart (m, c) (n, d) e =
        let em : m ≡ n = ap (λ (k : InstKey (List ℕ)). k.method) e in
        let ec : c ≡ d = tells c d (ap (λ (k : InstKey (List ℕ)). k.context) e) in
        ap (λ (k : ℕ). pair_at k c) em ∙ ap (λ (x : C). pair_at n x) ec

    object_apart : (a b : ℕ × C) → object_of list a ≡ object_of list b → a ≡ b
    object_apart (m, c) (n, d) e =
        let em : m ≡ n = ap (λ (k : ObjKey (List ℕ)). k.site) e in
        let ec : c ≡ d = tells c d (ap (λ (k : ObjKey (List ℕ)). k.context) e) in
        ap (λ (k : ℕ). pair_at k c) em ∙ ap (λ (x : C). pair_at n x) ec

    pub is_limit : (lists : FactLists C) (fault : SolveFault) → IsKept program policy entry list lists → IsOver lists fault → IsLimitOf program Are fault
    is_limit lists Memory kept over = _
    is_limit lists (Limit M3) kept (many, once) = record {
      items = map (instance_of list) lists.instances;
      many = subst (λ n. 20000 < n) (sym (length-map lists.instances (instance_of list))) many;
      each = mapped (instance_of list) (Runs Are) lists.instances kept.runs;
      once = mapped_once (instance_of list) instance_apart lists.instances once;
    }
    is_limit lists (Limit M4) kept (many, once) = record {
      items = map (object_of list) lists.objects;
      many = subst (λ n. 8192 < n) (sym (length-map lists.objects (object_of list))) many;
      each = mapped (object_of list) (IsNamed Are) lists.objects kept.named;
      once = mapped_once (object_of list) object_apart lists.objects once;
    }
    is_limit lists (Limit M1) kept over = absurd over
    is_limit lists (Limit M2) kept over = absurd over
    is_limit lists (Limit M5) kept over = absurd over
    is_limit lists (Limit M6) kept over = absurd over
    is_limit lists (Limit M7) kept over = absurd over

  -- ---- what is within the limits

  contains_mapped : {A B : Type 0} (f : A → B) (xs : List A) (x : A) → Contains xs x → Contains (map f xs) (f x)
  contains_mapped f [] x c = absurd (none_there x c)
  contains_mapped {A} {B} f (y ∷ xs) x c = elim (head_or_behind y xs x c) [
    | inl e ↦ subst (λ z. Contains (f y ∷ map f xs) (f z)) e (here (f y) (map f xs))
    | inr more ↦ behind (f y) (map f xs) (f x) (contains_mapped f xs x more)
  ]

  instance_there : (lists : FactLists C) (f : Fact C) (i : InstKey (List ℕ)) → HasFact lists f → fact_seen list f ≡ Reached i → Contains (map (instance_of list) lists.instances) i
  instance_there lists f i has seen = by_said has.numbered f has.says seen
    where
      said : (n : ℕ) (key : InstKey C) → IsInstance lists.instances n key → fact_seen list (Reached key) ≡ Reached i → Contains (map (instance_of list) lists.instances) i
      said n key at e =
          let same : instance_seen list key ≡ i = cc in
          subst (λ k. Contains (map (instance_of list) lists.instances) k) same (contains_mapped (instance_of list) lists.instances (pair_of key) (contains_at lists.instances n (pair_of key) at))

      by_said : (m : NumberedFact) (f : Fact C) → Says lists.instances lists.objects m f → fact_seen list f ≡ Reached i → Contains (map (instance_of list) lists.instances) i
      by_said _ _ (reached n key at) e = said n key at e
      by_said _ _ (held n o _ key object at at_o) e = absurd (cc)
      by_said _ _ (in_cell cell there o object is at) e = absurd (cc)
      by_said _ _ (called call j pc key to is) e = absurd (cc)
      by_said _ _ (forked call j pc key to is) e = absurd (cc)
      by_said _ _ (throws n key at) e = absurd (cc)
      by_said _ _ (stalls n key at) e = absurd (cc)

  object_there : (lists : FactLists C) (f : Fact C) (o : ObjKey (List ℕ)) → HasFact lists f → NamesObject (fact_seen list f) o → Contains (map (object_of list) lists.objects) o
  object_there lists f o has names = by_said has.numbered f has.says names
    where
      said : (n : ℕ) (key : ObjKey C) → IsObject lists.objects n key → o ≡ object_seen list key → Contains (map (object_of list) lists.objects) o
      said n key at e =
          subst (λ k. Contains (map (object_of list) lists.objects) k) (sym e) (contains_mapped (object_of list) lists.objects (object_pair key) (contains_at lists.objects n (object_pair key) at))

      by_cell : (cell : CellNumber) (there : FactCell C) → IsCell lists.objects cell there → CellNames (cell_seen list there) o → Contains (map (object_of list) lists.objects) o
      by_cell _ _ (of_field f x key at) e = said x key at e
      by_cell _ _ (of_elements x key at) e = said x key at e
      by_cell _ _ (of_static f) e = absurd e

      by_said : (m : NumberedFact) (f : Fact C) → Says lists.instances lists.objects m f → NamesObject (fact_seen list f) o → Contains (map (object_of list) lists.objects) o
      by_said _ _ (reached n key at) e = absurd e
      by_said _ _ (held n x _ key object at at_o) e = said x object at_o e
      by_said _ _ (in_cell cell there x object is at) (inl e) = by_cell cell there is e
      by_said _ _ (in_cell cell there x object is at) (inr e) = said x object at e
      by_said _ _ (called call j pc key to is) e = absurd e
      by_said _ _ (forked call j pc key to is) e = absurd e
      by_said _ _ (throws n key at) e = absurd e
      by_said _ _ (stalls n key at) e = absurd e

  -- where all derivable facts are kept, and few instances and objects, no limit is passed
  pub few_there : (lists : FactLists C) → ((g : Fact (List ℕ)) → Are g → Known list lists g) → IsFew lists → (HasMore 20000 (Runs Are) → ⊥) × (HasMore 8192 (IsNamed Are) → ⊥)
  few_there lists complete few = (instances, objects)
    where
      instances : HasMore 20000 (Runs Are) → ⊥
      instances more =
          let most = not_longer (map (instance_of list) lists.instances) more.items more.once (λ i c. let k = complete (Reached i) (more.each i c) in instance_there lists k.fact i k.has k.seen) in
          let same = length-map lists.instances (instance_of list) in
          let many = more.many in
          let bound = few.instances in
          omega (arith, most, same, many, bound)

      objects : HasMore 8192 (IsNamed Are) → ⊥
      objects more =
          let most = not_longer (map (object_of list) lists.objects) more.items more.once (λ o c. let n = more.each o c in let k = complete n.0 n.1 in object_there lists k.fact o k.has (subst (λ g. NamesObject g o) (sym k.seen) n.2)) in
          let same = length-map lists.objects (object_of list) in
          let many = more.many in
          let bound = few.objects in
          omega (arith, most, same, many, bound)
