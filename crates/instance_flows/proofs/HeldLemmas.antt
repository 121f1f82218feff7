-- Going over the objects that a node may hold.
use Rattle.std.specs.Prelude.{◌↔◌}
use Rattle.std.proofs.Common.{inl, inr, ◌≡◌, ℕ, ◌+◌, ◌<◌, ◌≤◌, List, [], ◌∷◌, ◌++◌, length, get_or, take, Contains, refl, sym, ◌∙◌, ap, subst, arith}
use Rattle.std.proofs.lemmas.Bool.{cases_lt}
use Rattle.std.proofs.lemmas.List.{take_all}
use Rattle.std.proofs.lemmas.List.Elements.{Contains-append_left, Contains-push, Contains-push_cases}
use Rattle.std.proofs.lemmas.Option.{same_Some}
use Rattle.jo_ids.specs.declared.ObjKey.{ObjKey}
use Rattle.jo_prog.specs.declared.program.Program.{Program}
use Rattle.jo_prog.proofs.WalkLemmas.{none_there}
use Rattle.dep_nodes.specs.declared.kinds.NodeKind.{NodeKind}
use Rattle.dep_nodes.specs.declared.kinds.NodeKind.TheVariants.{Throw}
use Rattle.dependence.specs.declared.facts.Fact.TheVariants.{Holds}
use Rattle.dependence.specs.FlowGraph.{AnObject}
use Rattle.dependence.proofs.ListedLemmas.{taken_more}
use Rattle.fact_sets.specs.declared.numbered.Holder.TheVariants.{Node}
use Rattle.fact_sets.specs.declared.numbered.NumberedFact.TheVariants.{Holds as IsHeld}
use Rattle.fact_sets.specs.FactLists.{FactLists, object_pair, IsObject}
use Rattle.flow_graph.specs.Adding.{HasThose}
use Rattle.instance_flows.specs.BySite.{BySite}
use Rattle.instance_flows.specs.Raising.{alone}
use Rattle.instance_flows.specs.declared.keeping.Way.{Way}
use Rattle.instance_flows.specs.declared.keeping.Way.TheVariants.{Row, Out}
use Rattle.instance_flows.specs.Keeping.{IsWay, IsWayOf}

-- the number is that of an object of the same site
pub record ObjectIs {C : Type 0} (objects : List (ℕ × C)) (x : ℕ) (o : AnObject) : Type 0 where
  pub key : ObjKey C
  pub is : IsObject objects x key
  pub site : o.site ≡ key.site

abbrev pub bare_object : ℕ → AnObject
bare_object site = record { site = site; context = [] }

-- an object of a number has its site
pub site_is : {C : Type 0} (objects : List (ℕ × C)) (x : ℕ) (key : ObjKey C) → IsObject objects x key → (o : AnObject) → ObjectIs objects x o → o.site ≡ key.site
site_is {C} objects x key is o object =
    let pairs : object_pair object.key ≡ object_pair key = same_Some (object_pair object.key) (object_pair key) (sym object.is ∙ is) in
    object.site ∙ ap (λ (p : ℕ × C). p.0) pairs

-- none of the first so many numbers is that of an object of which this is true
abbrev pub NoneOf : {C : Type 0} → List (ℕ × C) → List ℕ → (AnObject → Type 0) → ℕ → Type 0
NoneOf objects held P i = (x : ℕ) → Contains (take i held) x → (o : AnObject) → ObjectIs objects x o → P o → ⊥

module _ {C : Type 0} (lists : FactLists C) (held : List ℕ) (P : AnObject → Type 0) where
  pub none_yet : NoneOf lists.objects held P 0
  none_yet x among o is p = none_there x among

  pub none_more : (i y : ℕ) → i < length held → y ≡ get_or held i y → ((o : AnObject) → ObjectIs lists.objects y o → P o → ⊥) → NoneOf lists.objects held P i → NoneOf lists.objects held P (i + 1)
  none_more i y below at none before x among o is p = elim ((taken_more held i y x below at).0 among) [
    | inl first ↦ before x first o is p
    | inr last ↦ none o (subst (λ k. ObjectIs lists.objects k o) last is) p
  ]

  module _ (n m : ℕ) (kind : NodeKind) (each : (x : ℕ) → Contains held x ↔ Contains lists.facts (IsHeld (Node n kind) x)) where
    pub none_all : (i : ℕ) → length held ≤ i → NoneOf lists.objects held P i → (o : AnObject) × BySite lists n (Holds (alone m) kind o) × P o → ⊥
    none_all i past none (o, (x, key, among, is, site), p) =
        none x (subst (λ xs. Contains xs x) (sym (take_all i held past)) ((each x).1 among)) o (record { key = key; is = is; site = site }) p

    pub some_here : (i y : ℕ) (key : ObjKey C) → i < length held → y ≡ get_or held i y → IsObject lists.objects y key → P (bare_object key.site) → (o : AnObject) × BySite lists n (Holds (alone m) kind o) × P o
    some_here i y key below at is p = (bare_object key.site, (y, key, (each y).0 (i, below, sym at), is, refl), p)

-- ---- ways

module _ (program : Program) (m pc : ℕ) (o : AnObject) where
  pub one_way : (v w : Way) → IsWay program m pc v o → IsWay program m pc w o → v ≡ w
  one_way (Row j) (Row k) first second = elim (cases_lt j k) [
    | inl below ↦ absurd (second.first j below first.catches)
    | inr above ↦ elim (cases_lt k j) [
      | inl below ↦ absurd (first.first k below second.catches)
      | inr more ↦ ap Row (omega (arith, above, more))
    ]
  ]
  one_way (Row j) Out first passes = absurd (passes j first.catches)
  one_way Out (Row k) passes second = absurd (passes k second.catches)
  one_way Out Out passes also = refl

-- the way of an object of the first so many numbers
pub record WayAmong {C : Type 0} (program : Program) (m pc : ℕ) (objects : List (ℕ × C)) (held : List ℕ) (i : ℕ) (w : Way) : Type 0 where
  pub x : ℕ
  pub among : Contains (take i held) x
  pub o : AnObject
  pub is : ObjectIs objects x o
  pub goes : IsWay program m pc w o

module _ {C : Type 0} (program : Program) (m pc : ℕ) (lists : FactLists C) (held : List ℕ) where
  pub ways_none : HasThose (WayAmong program m pc lists.objects held 0) []
  ways_none w = (λ c. absurd (none_there w c), λ way. absurd (none_there way.x way.among))

  pub ways_more : (i y : ℕ) (key : ObjKey C) (way : Way) (old new : List Way) → i < length held → y ≡ get_or held i y → IsObject lists.objects y key
      → ((o : AnObject) → o.site ≡ key.site → IsWay program m pc way o) → new ≡ old ++ way ∷ [] → HasThose (WayAmong program m pc lists.objects held i) old → HasThose (WayAmong program m pc lists.objects held (i + 1)) new
  ways_more i y key way old new below at is goes made has w = (there, back)
    where
      there : Contains new w → WayAmong program m pc lists.objects held (i + 1) w
      there c = elim (Contains-push_cases old way w (subst (λ xs. Contains xs w) made c)) [
        | inl before ↦ let a = (has w).0 before in record { x = a.x; among = (taken_more held i y a.x below at).1 (inl a.among); o = a.o; is = a.is; goes = a.goes }
        | inr same ↦ record {
          x = y;
          among = (taken_more held i y y below at).1 (inr refl);
          o = bare_object key.site;
          is = record { key = key; is = is; site = refl };
          goes = subst (λ v. IsWay program m pc v (bare_object key.site)) same (goes (bare_object key.site) refl);
        }
      ]

      last : (a : WayAmong program m pc lists.objects held (i + 1) w) → a.x ≡ y → way ≡ w
      last a same = one_way program m pc a.o way w (goes a.o (site_is lists.objects y key is a.o (subst (λ k. ObjectIs lists.objects k a.o) same a.is))) a.goes

      back : WayAmong program m pc lists.objects held (i + 1) w → Contains new w
      back a = subst (λ xs. Contains xs w) (sym made) (elim ((taken_more held i y a.x below at).0 a.among) [
        | inl first ↦ Contains-append_left old (way ∷ []) w ((has w).1 (record { x = a.x; among = first; o = a.o; is = a.is; goes = a.goes }))
        | inr same ↦ subst (λ v. Contains (old ++ way ∷ []) v) (last a same) (Contains-push old way)
      ])

module _ {C : Type 0} (program : Program) (m pc n : ℕ) (lists : FactLists C) (held : List ℕ) (each : (x : ℕ) → Contains held x ↔ Contains lists.facts (IsHeld (Node n (Throw pc)) x)) where
  pub ways_all : (i : ℕ) (ways : List Way) → length held ≤ i → HasThose (WayAmong program m pc lists.objects held i) ways → HasThose (IsWayOf program (BySite lists n) m pc) ways
  ways_all i ways past has w = (there, back)
    where
      there : Contains ways w → IsWayOf program (BySite lists n) m pc w
      there c =
          let a = (has w).0 c in
          (a.o, (a.x, a.is.key, (each a.x).0 (subst (λ xs. Contains xs a.x) (take_all i held past) a.among), a.is.is, a.is.site), a.goes)

      back : IsWayOf program (BySite lists n) m pc w → Contains ways w
      back (o, (x, key, among, is, site), goes) =
          (has w).1 (record { x = x; among = subst (λ xs. Contains xs x) (sym (take_all i held past)) ((each x).1 among); o = o; is = record { key = key; is = is; site = site }; goes = goes })
