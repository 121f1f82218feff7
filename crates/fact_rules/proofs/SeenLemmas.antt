-- Facts are told apart by what is seen of them.
use Rattle.std.proofs.Common.{◌≡◌, ◌⊎◌, inl, inr, ℕ, List, Contains, refl, ap, ◌∙◌, subst}
use Rattle.jo_ids.specs.declared.ObjKey.{ObjKey}
use Rattle.dep_nodes.specs.OnceLists.{IsOnceEach}
use Rattle.dependence.specs.declared.facts.InstKey.{InstKey}
use Rattle.dependence.specs.declared.facts.FactCell.{FactCell}
use Rattle.dependence.specs.declared.facts.FactCell.TheVariants.{Field, Elements, Static}
use Rattle.dependence.specs.declared.facts.Fact.{Fact}
use Rattle.dependence.specs.declared.facts.Fact.TheVariants.{Reached, Holds, CellHolds, Target, Fork, Throws, Stalls}
use Rattle.fact_sets.specs.declared.numbered.NumberedFact.{NumberedFact}
use Rattle.fact_sets.specs.FactLists.{FactLists, HasFact, Says}
use Rattle.fact_sets.proofs.SayLemmas.{same_number}
use Rattle.fact_rules.specs.Adds.{Adds}
use Rattle.fact_sets.specs.Seen.{TellsApart, instance_seen, object_seen, cell_seen, fact_seen, Known, Listed}

module _ {C : Type 0} (list : C → List ℕ) (tells : TellsApart list) where
  pub same_instance : (a b : InstKey C) → instance_seen list a ≡ instance_seen list b → a ≡ b
  same_instance a b e =
      let em : a.method ≡ b.method = ap (λ (k : InstKey (List ℕ)). k.method) e in
      let ec : a.context ≡ b.context = tells a.context b.context (ap (λ (k : InstKey (List ℕ)). k.context) e) in
      let whole : InstKey C → InstKey C = λ k. k in
      ap (λ (m : ℕ). whole (record { method = m; context = a.context })) em ∙ ap (λ (c : C). whole (record { method = b.method; context = c })) ec

  pub same_object : (a b : ObjKey C) → object_seen list a ≡ object_seen list b → a ≡ b
  same_object a b e =
      let em : a.site ≡ b.site = ap (λ (k : ObjKey (List ℕ)). k.site) e in
      let ec : a.context ≡ b.context = tells a.context b.context (ap (λ (k : ObjKey (List ℕ)). k.context) e) in
      let whole : ObjKey C → ObjKey C = λ k. k in
      ap (λ (m : ℕ). whole (record { site = m; context = a.context })) em ∙ ap (λ (c : C). whole (record { site = b.site; context = c })) ec

  pub same_cell : (a b : FactCell C) → cell_seen list a ≡ cell_seen list b → a ≡ b
  same_cell (Field f1 o1) (Field f2 o2) e = let eo = same_object o1 o2 (cc) in let ef : f1 ≡ f2 = cc in cc
  same_cell (Field f1 o1) (Elements o2) e = absurd (cc)
  same_cell (Field f1 o1) (Static f2) e = absurd (cc)
  same_cell (Elements o1) (Field f2 o2) e = absurd (cc)
  same_cell (Elements o1) (Elements o2) e = ap Elements (same_object o1 o2 (cc))
  same_cell (Elements o1) (Static f2) e = absurd (cc)
  same_cell (Static f1) (Field f2 o2) e = absurd (cc)
  same_cell (Static f1) (Elements o2) e = absurd (cc)
  same_cell (Static f1) (Static f2) e = cc

  pub same_seen : (a b : Fact C) → fact_seen list a ≡ fact_seen list b → a ≡ b
  same_seen (Reached i1) (Reached i2) e = ap Reached (same_instance i1 i2 (cc))
  same_seen (Reached i1) (Holds i2 spot2 o2) e = absurd (cc)
  same_seen (Reached i1) (CellHolds cell2 o2) e = absurd (cc)
  same_seen (Reached i1) (Target i2 pc2 j2) e = absurd (cc)
  same_seen (Reached i1) (Fork i2 pc2 j2) e = absurd (cc)
  same_seen (Reached i1) (Throws i2) e = absurd (cc)
  same_seen (Reached i1) (Stalls i2) e = absurd (cc)
  same_seen (Holds i1 spot1 o1) (Reached i2) e = absurd (cc)
  same_seen (Holds i1 spot1 o1) (Holds i2 spot2 o2) e = let ei = same_instance i1 i2 (cc) in let eo = same_object o1 o2 (cc) in let ek : spot1 ≡ spot2 = cc in cc
  same_seen (Holds i1 spot1 o1) (CellHolds cell2 o2) e = absurd (cc)
  same_seen (Holds i1 spot1 o1) (Target i2 pc2 j2) e = absurd (cc)
  same_seen (Holds i1 spot1 o1) (Fork i2 pc2 j2) e = absurd (cc)
  same_seen (Holds i1 spot1 o1) (Throws i2) e = absurd (cc)
  same_seen (Holds i1 spot1 o1) (Stalls i2) e = absurd (cc)
  same_seen (CellHolds cell1 o1) (Reached i2) e = absurd (cc)
  same_seen (CellHolds cell1 o1) (Holds i2 spot2 o2) e = absurd (cc)
  same_seen (CellHolds cell1 o1) (CellHolds cell2 o2) e = let ec = same_cell cell1 cell2 (cc) in let eo = same_object o1 o2 (cc) in cc
  same_seen (CellHolds cell1 o1) (Target i2 pc2 j2) e = absurd (cc)
  same_seen (CellHolds cell1 o1) (Fork i2 pc2 j2) e = absurd (cc)
  same_seen (CellHolds cell1 o1) (Throws i2) e = absurd (cc)
  same_seen (CellHolds cell1 o1) (Stalls i2) e = absurd (cc)
  same_seen (Target i1 pc1 j1) (Reached i2) e = absurd (cc)
  same_seen (Target i1 pc1 j1) (Holds i2 spot2 o2) e = absurd (cc)
  same_seen (Target i1 pc1 j1) (CellHolds cell2 o2) e = absurd (cc)
  same_seen (Target i1 pc1 j1) (Target i2 pc2 j2) e = let ei = same_instance i1 i2 (cc) in let ej = same_instance j1 j2 (cc) in let ep : pc1 ≡ pc2 = cc in cc
  same_seen (Target i1 pc1 j1) (Fork i2 pc2 j2) e = absurd (cc)
  same_seen (Target i1 pc1 j1) (Throws i2) e = absurd (cc)
  same_seen (Target i1 pc1 j1) (Stalls i2) e = absurd (cc)
  same_seen (Fork i1 pc1 j1) (Reached i2) e = absurd (cc)
  same_seen (Fork i1 pc1 j1) (Holds i2 spot2 o2) e = absurd (cc)
  same_seen (Fork i1 pc1 j1) (CellHolds cell2 o2) e = absurd (cc)
  same_seen (Fork i1 pc1 j1) (Target i2 pc2 j2) e = absurd (cc)
  same_seen (Fork i1 pc1 j1) (Fork i2 pc2 j2) e = let ei = same_instance i1 i2 (cc) in let ej = same_instance j1 j2 (cc) in let ep : pc1 ≡ pc2 = cc in cc
  same_seen (Fork i1 pc1 j1) (Throws i2) e = absurd (cc)
  same_seen (Fork i1 pc1 j1) (Stalls i2) e = absurd (cc)
  same_seen (Throws i1) (Reached i2) e = absurd (cc)
  same_seen (Throws i1) (Holds i2 spot2 o2) e = absurd (cc)
  same_seen (Throws i1) (CellHolds cell2 o2) e = absurd (cc)
  same_seen (Throws i1) (Target i2 pc2 j2) e = absurd (cc)
  same_seen (Throws i1) (Fork i2 pc2 j2) e = absurd (cc)
  same_seen (Throws i1) (Throws i2) e = ap Throws (same_instance i1 i2 (cc))
  same_seen (Throws i1) (Stalls i2) e = absurd (cc)
  same_seen (Stalls i1) (Reached i2) e = absurd (cc)
  same_seen (Stalls i1) (Holds i2 spot2 o2) e = absurd (cc)
  same_seen (Stalls i1) (CellHolds cell2 o2) e = absurd (cc)
  same_seen (Stalls i1) (Target i2 pc2 j2) e = absurd (cc)
  same_seen (Stalls i1) (Fork i2 pc2 j2) e = absurd (cc)
  same_seen (Stalls i1) (Throws i2) e = absurd (cc)
  same_seen (Stalls i1) (Stalls i2) e = ap Stalls (same_instance i1 i2 (cc))

  -- a fact is known exactly where its number is among the numbered ones
  pub known_number : (L : FactLists C) (n : NumberedFact) (f : Fact C) → IsOnceEach L.instances → IsOnceEach L.objects → Says L.instances L.objects n f → Known list L (fact_seen list f) → Contains L.facts n
  known_number L n f once_i once_o says known =
      let same : known.fact ≡ f = same_seen known.fact f known.seen in
      let e : known.has.numbered ≡ n = same_number L.instances L.objects known.has.numbered n known.fact f once_i once_o known.has.says says same in
      subst (λ k. Contains L.facts k) e known.has.there

  pub number_known : (L : FactLists C) (n : NumberedFact) (f : Fact C) → Says L.instances L.objects n f → Contains L.facts n → Known list L (fact_seen list f)
  number_known L n f says there = record { fact = f; has = record { numbered = n; there = there; says = says }; seen = refl }

  -- where it is known over lists of sites, it is among the facts kept
  pub was_kept : (L : FactLists C) (f : Fact C) → Known list L (fact_seen list f) → HasFact L f
  was_kept L f known = subst (λ q. HasFact L q) (same_seen known.fact f known.seen) known.has

  pub kept_known : (L : FactLists C) (f : Fact C) → HasFact L f → Known list L (fact_seen list f)
  kept_known L f has = record { fact = f; has = has; seen = refl }

  -- what is added to the list of facts is added to what is seen of them
  pub seen_adds : (old new : List (Fact C)) (P : Fact C → Type 0) (R : Fact (List ℕ) → Type 0) → Adds (Contains old) (Contains new) P → ((f : Fact C) → P f → R (fact_seen list f))
      → ((g : Fact (List ℕ)) → R g → (f : Fact C) × (P f × (fact_seen list f ≡ g))) → Adds (Listed list old) (Listed list new) R
  seen_adds old new P R adds to from g = (there, back)
    where
      part : (f : Fact C) → fact_seen list f ≡ g → Contains old f ⊎ P f → Listed list old g ⊎ R g
      part f seen (inl had) = inl (record { fact = f; there = had; seen = seen })
      part f seen (inr p) = inr (subst R seen (to f p))

      there : Listed list new g → Listed list old g ⊎ R g
      there listed = part listed.fact listed.seen ((adds listed.fact).0 listed.there)

      back : Listed list old g ⊎ R g → Listed list new g
      back (inl had) = record { fact = had.fact; there = (adds had.fact).1 (inl had.there); seen = had.seen }
      back (inr r) = let (f, (p, seen)) = from g r in record { fact = f; there = (adds f).1 (inr p); seen = seen }
