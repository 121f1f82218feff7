-- Tables of facts, after one more fact.
use Rattle.std.specs.Prelude.{Bool}
use Rattle.std.proofs.Common.{◌≡◌, ◌⊎◌, ◌↔◌, inl, inr, ℕ, Contains, List, [], ◌∷◌, ◌++◌, Result, Ok, Err, OnOk, ap, sym, ◌∙◌, subst}
use Rattle.std.proofs.lemmas.List.Elements.{Contains-append_left, Contains-append_cases}
use Rattle.dependence.specs.declared.facts.Target.{Target}
use Rattle.dep_nodes.proofs.ListedLemmas.{only_one, last_there}
use Rattle.fact_sets.specs.declared.numbered.Holder.{Holder}
use Rattle.fact_sets.specs.declared.numbered.CallPlace.{CallPlace}
use Rattle.fact_sets.specs.declared.numbered.NumberedFact.{NumberedFact}
use Rattle.fact_sets.specs.declared.numbered.NumberedFact.TheVariants.{Reached, Holds, Calls, Throws, Stalls}
use Rattle.fact_sets.specs.Groups.{HasIn}
use Rattle.fact_sets.specs.Tables.{HeldTable, CalledTable, target_at, AreTables, AddFact}

pub both_ways : {P Q R : Type 0} → P ↔ Q → Q ↔ R → P ↔ R
both_ways one two = (λ p. two.0 (one.0 p), λ r. one.1 (two.1 r))

pub ok_more : {T E P Q : Type 0} (r : Result T E) → (P → Q) → OnOk r P → OnOk r Q
ok_more (Ok t) more p = more p
ok_more (Err e) more p = p

pub with_one : {A : Type 0} (xs : List A) (x y : A) → Contains (xs ++ x ∷ []) y ↔ (Contains xs y ⊎ (y ≡ x))
with_one xs x y = (λ there. had (Contains-append_cases xs (x ∷ []) y there), has)
  where
    had : Contains xs y ⊎ Contains (x ∷ []) y → Contains xs y ⊎ (y ≡ x)
    had (inl before) = inl before
    had (inr last) = inr (only_one x y last)

    has : Contains xs y ⊎ (y ≡ x) → Contains (xs ++ x ∷ []) y
    has (inl before) = Contains-append_left xs (x ∷ []) y before
    has (inr same) = subst (λ z. Contains (xs ++ x ∷ []) z) (sym same) (last_there xs x)

-- ---- one more fact

-- in the table stands what the old list says, or what is the one; and so in the new list
grown : {A : Type 0} {Held : Type 0} (Same : Type 0) (facts : List A) (one fact : A) {Had : Type 0} → Held ↔ (Had ⊎ Same) → Had ↔ Contains facts fact → (Same → fact ≡ one) → (fact ≡ one → Same) → Held ↔ Contains (facts ++ one ∷ []) fact
grown {A} {Held} Same facts one fact {Had} added had to from = (λ held. (with_one facts one fact).1 (forth (added.0 held)), λ there. added.1 (back ((with_one facts one fact).0 there)))
  where
    forth : Had ⊎ Same → Contains facts fact ⊎ (fact ≡ one)
    forth (inl before) = inl (had.0 before)
    forth (inr same) = inr (to same)

    back : Contains facts fact ⊎ (fact ≡ one) → Had ⊎ Same
    back (inl before) = inl (had.1 before)
    back (inr same) = inr (from same)

-- the table stays, and the one is no fact of its kind
stays : {A : Type 0} {Had : Type 0} (facts : List A) (one fact : A) → Had ↔ Contains facts fact → (fact ≡ one → ⊥) → Had ↔ Contains (facts ++ one ∷ []) fact
stays {A} {Had} facts one fact had apart = (λ held. (with_one facts one fact).1 (inl (had.0 held)), λ there. back ((with_one facts one fact).0 there))
  where
    back : Contains facts fact ⊎ (fact ≡ one) → Had
    back (inl before) = had.1 before
    back (inr same) = absurd (apart same)

same_target : (t : Target) (instance : ℕ) (fork : Bool) → t.instance ≡ instance → t.fork ≡ fork → t ≡ target_at instance fork
same_target t instance fork one other = ap (λ n. target_at n t.fork) one ∙ ap (λ b. target_at instance b) other

others : (all : List NumberedFact) (fact : NumberedFact) (held held_new : HeldTable) (called called_new : CalledTable) → AreTables all held called → (held_new ≡ held) × (called_new ≡ called) → ((h : Holder) (p : ℕ) → Holds h p ≡ fact → ⊥) → ((c : CallPlace) (t : Target) → Calls c t.instance t.fork ≡ fact → ⊥) → AreTables (all ++ fact ∷ []) held_new called_new
others all fact held held_new called called_new are same not_held not_called = record {
  held_is = λ h p. subst (λ table. HasIn table h p ↔ Contains (all ++ fact ∷ []) (Holds h p)) (sym same.0) (stays all fact (Holds h p) (are.held_is h p) (not_held h p));
  called_is = λ c t. subst (λ table. HasIn table c t ↔ Contains (all ++ fact ∷ []) (Calls c t.instance t.fork)) (sym same.1) (stays all fact (Calls c t.instance t.fork) (are.called_is c t) (not_called c t));
}

pub tables_grow : (all new : List NumberedFact) (held held_new : HeldTable) (called called_new : CalledTable) (fact : NumberedFact) → new ≡ all ++ fact ∷ [] → AreTables all held called → AddFact held called held_new called_new fact → AreTables new held_new called_new
tables_grow all new held held_new called called_new (Holds holder o) made are adds = subst (λ xs. AreTables xs held_new called_new) (sym made) (record {
  held_is = λ h p. grown ((h ≡ holder) × (p ≡ o)) all (Holds holder o) (Holds h p) (adds.0 h p) (are.held_is h p)
      (λ same. let one = same.0 in let two = same.1 in cc) (λ same. (cc, cc));
  called_is = λ c t. subst (λ table. HasIn table c t ↔ Contains (all ++ Holds holder o ∷ []) (Calls c t.instance t.fork)) (sym adds.1)
      (stays all (Holds holder o) (Calls c t.instance t.fork) (are.called_is c t) (λ same. absurd (cc)));
})
tables_grow all new held held_new called called_new (Calls call instance fork) made are adds = subst (λ xs. AreTables xs held_new called_new) (sym made) (record {
  held_is = λ h p. subst (λ table. HasIn table h p ↔ Contains (all ++ Calls call instance fork ∷ []) (Holds h p)) (sym adds.0)
      (stays all (Calls call instance fork) (Holds h p) (are.held_is h p) (λ same. absurd (cc)));
  called_is = λ c t. grown ((c ≡ call) × (t ≡ target_at instance fork)) all (Calls call instance fork) (Calls c t.instance t.fork) (adds.1 c t) (are.called_is c t)
      (λ same. let one = same.0 in let two = ap (λ (u : Target). u.instance) same.1 in let three = ap (λ (u : Target). u.fork) same.1 in cc)
      (λ same. (cc, same_target t instance fork (cc) (cc)));
})
tables_grow all new held held_new called called_new (Reached i) made are adds = subst (λ xs. AreTables xs held_new called_new) (sym made) (others all (Reached i) held held_new called called_new are adds (λ h p same. absurd (cc)) (λ c t same. absurd (cc)))
tables_grow all new held held_new called called_new (Throws i) made are adds = subst (λ xs. AreTables xs held_new called_new) (sym made) (others all (Throws i) held held_new called called_new are adds (λ h p same. absurd (cc)) (λ c t same. absurd (cc)))
tables_grow all new held held_new called called_new (Stalls i) made are adds = subst (λ xs. AreTables xs held_new called_new) (sym made) (others all (Stalls i) held held_new called called_new are adds (λ h p same. absurd (cc)) (λ c t same. absurd (cc)))
