-- What one fact and several add to those that are there.
use Rattle.std.proofs.Common.{◌≡◌, ◌↔◌, ◌⊎◌, inl, inr, ℕ, zero, suc, ◌+◌, ◌<◌, ◌≤◌, List, [], ◌∷◌, ◌++◌, length, get_or, take, Contains, refl, sym, ap, ◌∙◌, subst, arith}
use Rattle.std.proofs.lemmas.List.{take_more, take_all, append-nil, append_assoc, length-append}
use Rattle.std.proofs.lemmas.List.Elements.{Contains-append_left, Contains-append_right, Contains-append_cases, Contains-push, Contains-push_cases}
use Rattle.jo_prog.proofs.WalkLemmas.{here, behind, head_or_behind, none_there}
use Rattle.dep_nodes.specs.GrowingGraphs.{AppendsNew}
use Rattle.dependence.specs.declared.facts.Fact.{Fact}
use Rattle.fact_sets.specs.declared.numbered.NumberedFact.{NumberedFact}
use Rattle.fact_sets.specs.FactLists.{FactLists, HasFact, AddsFact, AppendsEach, Grows, Says, instances_in, objects_in}
use Rattle.fact_sets.proofs.SayLemmas.{longer}
use Rattle.fact_rules.specs.Adds.{From}
use Rattle.points_to.specs.Additions.{size_of, TakesOnly, GoesOn, Takes}

-- ---- lists of names

new_grows : {A : Type 0} (old new : List A) (x : A) → AppendsNew old x new → Grows old new
new_grows old new x (inl (there, same)) = ([], same ∙ sym (append-nil old))
new_grows old new x (inr (lacks, made)) = (x ∷ [], made)

pub grows_on : {A : Type 0} (a b c : List A) → Grows a b → Grows b c → Grows a c
grows_on a b c (xs, first) (ys, second) = (xs ++ ys, second ∙ ap (λ zs. zs ++ ys) first ∙ append_assoc a xs ys)

each_grows : {C : Type 0} (xs old new : List (ℕ × C)) → AppendsEach old xs new → Grows old new
each_grows [] old new same = ([], same ∙ sym (append-nil old))
each_grows (x ∷ xs) old new (mid, first, rest) = grows_on old mid new (new_grows old mid x first) (each_grows xs mid new rest)

new_only : {A : Type 0} (old new : List A) (x y : A) → AppendsNew old x new → Contains new y → Contains old y ⊎ (x ≡ y)
new_only old new x y (inl (there, same)) c = inl (subst (λ zs. Contains zs y) same c)
new_only old new x y (inr (lacks, made)) c = Contains-push_cases old x y (subst (λ zs. Contains zs y) made c)

each_only : {C : Type 0} (xs old new : List (ℕ × C)) (y : ℕ × C) → AppendsEach old xs new → Contains new y → Contains old y ⊎ Contains xs y
each_only [] old new y same c = inl (subst (λ zs. Contains zs y) same c)
each_only {C} (x ∷ xs) old new y (mid, first, rest) c = elim (each_only xs mid new y rest c) [
  | inl among ↦ by_first (new_only old mid x y first among)
  | inr later ↦ inr (behind x xs y later)
]
  where
    by_first : Contains old y ⊎ (x ≡ y) → Contains old y ⊎ Contains (x ∷ xs) y
    by_first (inl had) = inl had
    by_first (inr same) = inr (subst (λ z. Contains (x ∷ xs) z) same (here x xs))

more_than : {A : Type 0} (x : A) (xs : List A) → 0 < length (x ∷ xs)
more_than x xs = omega arith

-- a list that goes on and is no longer is the same
same_list : {A : Type 0} (old new : List A) → Grows old new → length new ≤ length old → new ≡ old
same_list old new ([], made) short = made ∙ append-nil old
same_list old new (x ∷ xs, made) short = let e : length new ≡ length old + length (x ∷ xs) = ap length made ∙ length-append old (x ∷ xs) in absurd (omega (arith, more_than x xs, e, short))

-- ---- one fact

from_one : {A X : Type 0} (a : A) (makes : A → X → Type 0) (x : X) → makes a x → From (a ∷ []) makes x
from_one a makes x made = (a, here a [], made)

module _ {C : Type 0} (old new : FactLists C) (f : Fact C) (adds : AddsFact old new f) (exact : (q : Fact C) → HasFact new q ↔ (HasFact old q ⊎ (q ≡ f))) where
  grows_i : Grows old.instances new.instances
  grows_i = each_grows (instances_in f) old.instances new.instances adds.instances

  grows_o : Grows old.objects new.objects
  grows_o = each_grows (objects_in f) old.objects new.objects adds.objects

  grows_f : Grows old.facts new.facts
  grows_f = new_grows old.facts new.facts adds.numbered adds.facts

  was : AppendsNew old.facts adds.numbered new.facts → length new.facts ≤ length old.facts → Contains old.facts adds.numbered
  was (inl (there, same)) short = there
  was (inr (lacks, made)) short = let e : length new.facts ≡ length old.facts + 1 = ap length made ∙ length-append old.facts (adds.numbered ∷ []) in absurd (omega (arith, e, short))

  was_there : size_of new ≤ size_of old → HasFact old f
  was_there small =
      let a = longer old.instances new.instances grows_i in
      let b = longer old.objects new.objects grows_o in
      let d = longer old.facts new.facts grows_f in
      let si : new.instances ≡ old.instances = same_list old.instances new.instances grows_i (omega (arith, a, b, d, small)) in
      let so : new.objects ≡ old.objects = same_list old.objects new.objects grows_o (omega (arith, a, b, d, small)) in
      record {
        numbered = adds.numbered;
        there = was adds.facts (omega (arith, a, b, d, small));
        says = subst (λ i. Says i old.objects adds.numbered f) si (subst (λ o. Says new.instances o adds.numbered f) so adds.says);
      }

  pub one_taken : Takes old new (f ∷ [])
  one_taken = record {
    goes_on = record {
      keeps = λ q has. (exact q).1 (inl has);
      instances = grows_i;
      longer = let a = longer old.instances new.instances grows_i in let b = longer old.objects new.objects grows_o in let d = longer old.facts new.facts grows_f in omega (arith, a, b, d);
      still = λ small q has. by_case small q ((exact q).0 has);
    };
    has = λ q c. of_item q (head_or_behind f [] q c);
  }
    where
      by_case : size_of new ≤ size_of old → (q : Fact C) → HasFact old q ⊎ (q ≡ f) → HasFact old q
      by_case small q (inl has) = has
      by_case small q (inr same) = subst (λ p. HasFact old p) (sym same) (was_there small)

      of_item : (q : Fact C) → (f ≡ q) ⊎ Contains [] q → HasFact new q
      of_item q (inl same) = (exact q).1 (inr (sym same))
      of_item q (inr none) = absurd (none_there q none)

  pub one_only : TakesOnly old new (f ∷ [])
  one_only = record {
    facts = λ q has. of_fact q ((exact q).0 has);
    instances = λ pair c. of_instance pair (each_only (instances_in f) old.instances new.instances pair adds.instances c);
    objects = λ pair c. of_object pair (each_only (objects_in f) old.objects new.objects pair adds.objects c);
  }
    where
      of_fact : (q : Fact C) → HasFact old q ⊎ (q ≡ f) → HasFact old q ⊎ Contains (f ∷ []) q
      of_fact q (inl has) = inl has
      of_fact q (inr same) = inr (subst (λ p. Contains (f ∷ []) p) (sym same) (here f []))

      of_instance : (pair : ℕ × C) → Contains old.instances pair ⊎ Contains (instances_in f) pair → Contains old.instances pair ⊎ From (f ∷ []) (λ g p. Contains (instances_in g) p) pair
      of_instance pair (inl had) = inl had
      of_instance pair (inr among) = inr (from_one f (λ g p. Contains (instances_in g) p) pair among)

      of_object : (pair : ℕ × C) → Contains old.objects pair ⊎ Contains (objects_in f) pair → Contains old.objects pair ⊎ From (f ∷ []) (λ g p. Contains (objects_in g) p) pair
      of_object pair (inl had) = inl had
      of_object pair (inr among) = inr (from_one f (λ g p. Contains (objects_in g) p) pair among)

-- ---- several facts

module _ {C : Type 0} where
  pub goes_on_still : (lists : FactLists C) → GoesOn lists lists
  goes_on_still lists = record { keeps = λ f has. has; instances = ([], sym (append-nil lists.instances)); longer = omega arith; still = λ small f has. has }

  pub goes_further : (a b c : FactLists C) → GoesOn a b → GoesOn b c → GoesOn a c
  goes_further a b c first second = record {
    keeps = λ f has. second.keeps f (first.keeps f has);
    instances = grows_on a.instances b.instances c.instances first.instances second.instances;
    longer = let x = first.longer in let y = second.longer in omega (arith, x, y);
    still = λ small f has. let x = first.longer in let y = second.longer in first.still (omega (arith, x, y, small)) f (second.still (omega (arith, x, y, small)) f has);
  }

  pub none_only : (lists : FactLists C) (items : List (Fact C)) → TakesOnly lists lists items
  none_only lists items = record { facts = λ f has. inl has; instances = λ pair c. inl c; objects = λ pair c. inl c }

  -- some of a list, then others of it
  pub only_more : (a b c : FactLists C) (xs ys zs : List (Fact C)) → ((f : Fact C) → Contains xs f → Contains zs f) → ((f : Fact C) → Contains ys f → Contains zs f)
      → TakesOnly a b xs → TakesOnly b c ys → TakesOnly a c zs
  only_more a b c xs ys zs of_xs of_ys first second = record {
    facts = λ f has. elim (second.facts f has) [
      | inl before ↦ by_first f (first.facts f before)
      | inr among ↦ inr (of_ys f among)
    ];
    instances = λ pair there. elim (second.instances pair there) [
      | inl before ↦ by_instance pair (first.instances pair before)
      | inr (f, among, makes) ↦ inr (f, of_ys f among, makes)
    ];
    objects = λ pair there. elim (second.objects pair there) [
      | inl before ↦ by_object pair (first.objects pair before)
      | inr (f, among, makes) ↦ inr (f, of_ys f among, makes)
    ];
  }
    where
      by_first : (f : Fact C) → HasFact a f ⊎ Contains xs f → HasFact a f ⊎ Contains zs f
      by_first f (inl has) = inl has
      by_first f (inr among) = inr (of_xs f among)

      by_instance : (pair : ℕ × C) → Contains a.instances pair ⊎ From xs (λ g p. Contains (instances_in g) p) pair → Contains a.instances pair ⊎ From zs (λ g p. Contains (instances_in g) p) pair
      by_instance pair (inl had) = inl had
      by_instance pair (inr (f, among, makes)) = inr (f, of_xs f among, makes)

      by_object : (pair : ℕ × C) → Contains a.objects pair ⊎ From xs (λ g p. Contains (objects_in g) p) pair → Contains a.objects pair ⊎ From zs (λ g p. Contains (objects_in g) p) pair
      by_object pair (inl had) = inl had
      by_object pair (inr (f, among, makes)) = inr (f, of_xs f among, makes)

  -- the items before a place, then the one there
  module _ (items : List (Fact C)) (i : ℕ) (f : Fact C) (below : i < length items) (is : f ≡ get_or items i f) where
    one_more : take (i + 1) items ≡ take i items ++ f ∷ []
    one_more = take_more items i f below ∙ ap (λ x. take i items ++ x ∷ []) (sym is)

    early : (q : Fact C) → Contains (take i items) q → Contains (take (i + 1) items) q
    early q c = subst (λ xs. Contains xs q) (sym one_more) (Contains-append_left (take i items) (f ∷ []) q c)

    last : (q : Fact C) → Contains (f ∷ []) q → Contains (take (i + 1) items) q
    last q c = subst (λ xs. Contains xs q) (sym one_more) (Contains-append_right (take i items) (f ∷ []) q c)

    pub only_next : (a b c : FactLists C) → TakesOnly a b (take i items) → TakesOnly b c (f ∷ []) → TakesOnly a c (take (i + 1) items)
    only_next a b c first second = only_more a b c (take i items) (f ∷ []) (take (i + 1) items) early last first second

    pub takes_next : (a b c : FactLists C) → Takes a b (take i items) → Takes b c (f ∷ []) → Takes a c (take (i + 1) items)
    takes_next a b c first second = record {
      goes_on = goes_further a b c first.goes_on second.goes_on;
      has = λ q among. by_place q (Contains-append_cases (take i items) (f ∷ []) q (subst (λ xs. Contains xs q) one_more among));
    }
      where
        by_place : (q : Fact C) → Contains (take i items) q ⊎ Contains (f ∷ []) q → HasFact c q
        by_place q (inl before) = second.goes_on.keeps q (first.has q before)
        by_place q (inr there) = second.has q there

  taken_of : (items : List (Fact C)) (n : ℕ) (f : Fact C) → Contains (take n items) f → Contains items f
  taken_of items zero f c = absurd (none_there f c)
  taken_of [] (suc n) f c = absurd (none_there f c)
  taken_of (x ∷ items) (suc n) f c = elim (head_or_behind x (take n items) f c) [
    | inl e ↦ subst (λ q. Contains (x ∷ items) q) e (here x items)
    | inr more ↦ behind x items f (taken_of items n f more)
  ]

  -- some of a list are of the whole list
  pub only_of : (a b : FactLists C) (items : List (Fact C)) (n : ℕ) → TakesOnly a b (take n items) → TakesOnly a b items
  only_of a b items n only = only_more a b b (take n items) items items (taken_of items n) (λ f c. c) only (none_only b items)

  pub takes_none : (lists : FactLists C) → Takes lists lists []
  takes_none lists = record { goes_on = goes_on_still lists; has = λ f c. absurd (none_there f c) }
