-- Faults that are found by heights, and the first of them.
use Rattle.std.proofs.Common.{◌≡◌, ◌⊎◌, ◌↔◌, ℕ, ◌+◌, ◌<◌, ◌≤◌, List, [], ◌∷◌, ◌++◌, length, get_or, take, Option, Some, None, Contains, refl, sym, ◌∙◌, ap, subst, inl, inr, arith}
use Rattle.std.proofs.lemmas.List.{take_more}
use Rattle.std.proofs.lemmas.List.Elements.{Contains-append_left, Contains-push, Contains-push_cases}
use Rattle.jo_prog.specs.declared.program.Program.{Program}
use Rattle.jo_prog.specs.declared.typed.TypeCode.{TypeCode}
use Rattle.jo_prog.specs.declared.typed.TypeFault.{TypeFault}
use Rattle.jo_prog.specs.TypingPaths.{Typable}
use Rattle.typing_heights.specs.declared.moves.Move.{Move}
use Rattle.typing_heights.specs.Adds.{Adds, From}
use Rattle.typing_heights.specs.Moves.{IsMove, Tells, FaultAt, FaultBehind, IsHeightFault}
use Rattle.typing_heights.specs.FirstFaults.{key_of, IsFirstOf, IsSooner}
use Rattle.typing_heights.proofs.AddsLemmas.{adds_none, adds_alike, adds_more, adds_pushed, adds_all}

pub none_added : (S : TypeFault → Type 0) (pc : ℕ) → Adds S S (Tells pc None)
none_added S pc = adds_none S (Tells pc None) (λ f h. absurd (let e = h.told in cc))

pub fault_added : (xs ys : List TypeFault) (pc : ℕ) (code : TypeCode) → ys ≡ xs ++ record { code = code; pc = pc } ∷ [] → Adds (Contains xs) (Contains ys) (Tells pc (Some code))
fault_added xs ys pc code made =
    adds_alike (Contains xs) (Contains ys) (λ f. f ≡ record { code = code; pc = pc }) (Tells pc (Some code))
    (adds_pushed xs ys (record { code = code; pc = pc }) made) (λ f. (there f, back f))
  where
    there : (f : TypeFault) → f ≡ record { code = code; pc = pc } → Tells pc (Some code) f
    there f e = subst (Tells pc (Some code)) (sym e) (record { at_it = refl; told = refl })

    back : (f : TypeFault) → Tells pc (Some code) f → f ≡ record { code = code; pc = pc }
    back f h =
        let told : Some code ≡ Some f.code = h.told in
        let same : f.code ≡ code = cc in
        let s1 : ◌≡◌ {A = TypeFault} f (record { code = code; pc = f.pc }) = ap (λ x. record { code = x; pc = f.pc }) same in
        let s2 : ◌≡◌ {A = TypeFault} (record { code = code; pc = f.pc }) (record { code = code; pc = pc }) = ap (λ x. record { code = code; pc = x }) h.at_it in
        s1 ∙ s2

pub faults_exact : (program : Program) (t : Typable) (heights : List (Option ℕ)) (moves : List Move) (found : List TypeFault) (S : TypeFault → Type 0)
    → ((m : Move) → Contains moves m ↔ IsMove program t heights m) → Adds (Contains []) S (FaultAt program t heights 0 0) → Adds S (Contains found) (From moves (FaultBehind program t heights))
    → (f : TypeFault) → Contains found f ↔ IsHeightFault program t heights f
faults_exact program t heights moves found S exact first rest f =
    let both = adds_more (Contains []) S (Contains found) (FaultAt program t heights 0 0) (From moves (FaultBehind program t heights)) (IsHeightFault program t heights) first rest (λ g. (there g, back g)) in
    adds_all found (IsHeightFault program t heights) both f
  where
    at_move : (g : TypeFault) (height : ℕ) (m : Move) → IsMove program t heights m → m.to ≡ g.pc → m.height ≡ height → FaultAt program t heights g.pc height g → From moves (FaultBehind program t heights) g
    at_move g height m is to same tells =
        (m, (exact m).1 is, subst (λ (pc : ℕ). FaultAt program t heights pc m.height g) (sym to) (subst (λ (h : ℕ). FaultAt program t heights g.pc h g) (sym same) tells))

    there : (g : TypeFault) → IsHeightFault program t heights g → FaultAt program t heights 0 0 g ⊎ From moves (FaultBehind program t heights) g
    there g (height, inl (at, low), tells) = inl (subst (λ (pc : ℕ). FaultAt program t heights pc 0 g) at (subst (λ (h : ℕ). FaultAt program t heights g.pc h g) low tells))
    there g (height, inr (m, is, to, same), tells) = inr (at_move g height m is to same tells)

    back : (g : TypeFault) → FaultAt program t heights 0 0 g ⊎ From moves (FaultBehind program t heights) g → IsHeightFault program t heights g
    back g (inl tells) = (0, inl (tells.at_it, refl), subst (λ (pc : ℕ). FaultAt program t heights pc 0 g) (sym tells.at_it) tells)
    back g (inr (m, among, tells)) = (m.height, inr (m, (exact m).0 among, sym tells.at_it, refl), subst (λ (pc : ℕ). FaultAt program t heights pc m.height g) (sym tells.at_it) tells)

-- ---- the first

pub first_with : (xs : List TypeFault) (fault : TypeFault) (first next : Option TypeFault) → IsFirstOf xs first → IsSooner first fault next → IsFirstOf (xs ++ fault ∷ []) next
first_with xs fault None next none sooner =
    subst (λ (o : Option TypeFault). IsFirstOf (xs ++ fault ∷ []) o) (sym sooner)
    (subst (λ (l : List TypeFault). IsFirstOf (l ++ fault ∷ []) (Some fault)) (sym none) (record { among = Contains-push [] fault; least = λ g c. alone g c }))
  where
    alone : (g : TypeFault) → Contains ([] ++ fault ∷ []) g → key_of fault ≤ key_of g
    alone g c = elim (Contains-push_cases [] fault g c) [
      | inl before ↦ absurd (omega (arith, before.1))
      | inr last ↦ subst (λ (x : TypeFault). key_of fault ≤ key_of x) last (omega arith)
    ]
first_with xs fault (Some other) next of_these sooner = by_case sooner
  where
    below_all : (first : TypeFault) → key_of first ≤ key_of other → key_of first ≤ key_of fault → (g : TypeFault) → Contains (xs ++ fault ∷ []) g → key_of first ≤ key_of g
    below_all first low same g c = elim (Contains-push_cases xs fault g c) [
      | inl before ↦ (let l = of_these.least g before in omega arith)
      | inr last ↦ subst (λ (x : TypeFault). key_of first ≤ key_of x) last same
    ]

    by_case : ((next ≡ Some fault) × (key_of fault ≤ key_of other)) ⊎ ((next ≡ Some other) × (key_of other ≤ key_of fault)) → IsFirstOf (xs ++ fault ∷ []) next
    by_case (inl h) = subst (λ (o : Option TypeFault). IsFirstOf (xs ++ fault ∷ []) o) (sym h.0) (record { among = Contains-push xs fault; least = below_all fault h.1 (omega arith) })
    by_case (inr h) =
        subst (λ (o : Option TypeFault). IsFirstOf (xs ++ fault ∷ []) o) (sym h.0)
        (record { among = Contains-append_left xs (fault ∷ []) other of_these.among; least = below_all other (omega arith) h.1 })

pub first_more : (found : List TypeFault) (i : ℕ) (d : TypeFault) (first next : Option TypeFault) → i < length found
    → IsFirstOf (take i found) first → IsSooner first (get_or found i d) next → IsFirstOf (take (i + 1) found) next
first_more found i d first next below of_these sooner =
    subst (λ (l : List TypeFault). IsFirstOf l next) (sym (take_more found i d below)) (first_with (take i found) (get_or found i d) first next of_these sooner)
