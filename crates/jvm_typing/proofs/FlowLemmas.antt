-- How kinds spread by steps.
use Rattle.std.proofs.Common.{◌≡◌, ◌↔◌, ◌⊎◌, ℕ, ◌+◌, ◌<◌, ◌≤◌, Bool, true, false, not, ◌||◌, List, [], ◌∷◌, length, get_or, Option, Some, None, Contains, refl, sym, ◌∙◌, ap, subst, inl, inr, arith, append-nil}
use Rattle.std.specs.Prelude.{◌==◌, slice_get}
use Rattle.std.proofs.lemmas.Bool.{ltb-false, cases_eq}
use Rattle.std.proofs.lemmas.Option.{slice_get-get_or, slice_get_within}
use Rattle.jo_prog.specs.declared.program.Program.{Program}
use Rattle.jo_prog.specs.declared.program.Row.{Row}
use Rattle.jo_prog.specs.Shapes.{changed, Effect}
use Rattle.jo_prog.specs.Typing.{Kind}
use Rattle.jo_prog.specs.TypingPaths.{Typable, Step, height_of, shape_of, effect_at, underflows, overflows, falls_off, ends_at, IsBefore, shorter}
use Rattle.typing_heights.specs.Adds.{FromBelow}
use Rattle.typing_heights.specs.declared.moves.Move.{Move}
use Rattle.typing_heights.specs.Moves.{IsMove, other_height}
use Rattle.typing_heights.specs.Searches.{height_at, AreHeights}
use Rattle.jvm_typing.specs.KindPasses.{Item, Holds, Source, Fixed, FromPlace, Gives, Brings, Fixes, Carries, Frame, frame_of, row_at, row_source, step_source, ClosedFor, FixesFrom, CarriesFrom, GoesAlong, Found, Grows, Starts, AreKinds}
use Rattle.typing_heights.proofs.PathSteps.{begins}
use Rattle.typing_heights.proofs.ArrivalLemmas.{leaves_with}
use Rattle.typing_heights.proofs.MoveLemmas.{has_below}
use Rattle.jvm_typing.proofs.GrowLemmas.{contains_at, number_of, none_past, item_is}
use Rattle.jvm_typing.proofs.KindLemmas.{brings_holds, are_kinds, some_same}

first_of_three : (a b c : Bool) → (a || b || c) ≡ false → a ≡ false
first_of_three true b c e = absurd (cc)
first_of_three false b c e = refl

-- an instruction that a move leaves pops no more than is there
pub pops_there : (program : Program) (t : Typable) (heights : List (Option ℕ)) (m : Move) (height : ℕ) → IsMove program t heights m → height_at heights m.from ≡ Some height → length (effect_at program t m.from).pops ≤ height
pops_there program t heights m height is has =
    let l = leaves_with program t heights m is in
    let one : l.height ≡ height = some_same l.height height (sym l.has ∙ has) in
    let live : ends_at program t m.from height ≡ false = subst (λ (h : ℕ). ends_at program t m.from h ≡ false) one l.leaves.live in
    ltb-false height (length (effect_at program t m.from).pops) (first_of_three (underflows program t m.from height) (overflows program t m.from height) (falls_off t.code m.from) live)

pub step_source_is : (program : Program) (t : Typable) (m : Move) (height place : ℕ) (f : Frame) (effect : Effect) (row : Option Row) → f ≡ frame_of t height → effect ≡ effect_at program t m.from → row ≡ row_at t.code.rows m.row
    → row_source program f effect row place ≡ step_source program t m height place
step_source_is program t m height place f effect row e g h =
    ap (λ (x : Frame). row_source program x effect row place) e
    ∙ ap (λ (x : Effect). row_source program (frame_of t height) x row place) g
    ∙ ap (λ (x : Option Row). row_source program (frame_of t height) (effect_at program t m.from) x place) h

-- ---- at the start

start_height : (program : Program) (t : Typable) (heights : List (Option ℕ)) → AreHeights program t heights → height_at heights 0 ≡ Some 0
start_height program t heights are =
    let r = are.reached [] (begins program t) in
    let f = are.is_first 0 r.0 r.1 in
    let empty = is_empty f.0 (λ before. f.1.first [] (begins program t) refl before) in
    r.1 ∙ ap (λ h. Some h) (sym f.2 ∙ ap (height_of program t) empty)
  where
    is_empty : (path : List Step) → (IsBefore [] path → ⊥) → path ≡ []
    is_empty [] never = refl
    is_empty (step ∷ path) never = absurd (never (shorter (omega arith)))

pub starts_hold : (program : Program) (t : Typable) (heights : List (Option ℕ)) → AreHeights program t heights → (x : Item) → Starts program t x → Holds program t heights x
starts_hold program t heights are x s = record {
  path = [];
  is_path = begins program t;
  arrives = sym s.0;
  same_height = ap (height_at heights) s.0 ∙ start_height program t heights are;
  holds = subst (λ (l : List Kind). slice_get l x.place ≡ Some x.kind) (sym (append-nil (shape_of program t []).locals)) s.1;
}

-- ---- heights that are the same

pub not_there : (o : Option ℕ) (height : ℕ) → other_height o height ≡ true → o ≡ Some height → ⊥
not_there None height e f = absurd (cc)
not_there (Some first) height e f =
    let same : first ≡ height = some_same first height f in
    let eq : (first == height) ≡ true = grind (arith, same) in
    absurd (let g : not true ≡ true = subst (λ (b : Bool). not b ≡ true) eq e in cc)

pub is_there : (o : Option ℕ) (height : ℕ) → other_height o height ≡ false → o ≡ Some height
is_there None height e = absurd (cc)
is_there (Some first) height e = ap (λ (h : ℕ). Some h) (by_test (first == height) refl)
  where
    by_test : (b : Bool) → (first == height) ≡ b → first ≡ height
    by_test true f = grind (arith, f)
    by_test false f = absurd (let g : not false ≡ false = subst (λ (b : Bool). not b ≡ false) f e in cc)

-- ---- what is found

fixes_brings : (program : Program) (items : List Item) (from to place : ℕ) (source : Source) (x : Item) → Fixes to place source x → Brings program items from to place source x
fixes_brings program items from to place (Fixed kind) x e = record {
  at_pc = ap (λ (y : Item). y.pc) e;
  at_place = ap (λ (y : Item). y.place) e;
  gives = ap (λ (y : Item). y.kind) e;
}
fixes_brings program items from to place (FromPlace before change) x e = absurd e

carries_brings : (program : Program) (items : List Item) (y : Item) → Contains items y → (from to place : ℕ) → from ≡ y.pc → (source : Source) (x : Item) → Carries program y to place source x
    → Brings program items from to place source x
carries_brings program items y among from to place at (Fixed kind) x c = absurd c
carries_brings program items y among from to place at (FromPlace before change) x c = record {
  at_pc = ap (λ (z : Item). z.pc) c.1;
  at_place = ap (λ (z : Item). z.place) c.1;
  gives = (y.kind, subst (λ (z : Item). Contains items z) (item_is y from before y.kind (sym at) (sym c.0) refl) among, ap (λ (z : Item). z.kind) c.1);
}

module _ (program : Program) (t : Typable) (heights : List (Option ℕ)) (are : AreHeights program t heights) where
  fixed_holds : (items : List Item) → ((x : Item) → Contains items x → Holds program t heights x) → (pc : ℕ) (x : Item) → FixesFrom program t heights pc x → Holds program t heights x
  fixed_holds items sound pc x f =
      let b = f.fixes in
      brings_holds program t heights are items sound f.step f.along.is_move f.along.to_height f.height f.along.at_height b.0 b.1 x
      (fixes_brings program items f.step.from f.step.to b.0 (step_source program t f.step f.height b.0) x b.2)

  carried_holds : (items : List Item) → ((x : Item) → Contains items x → Holds program t heights x) → (y : Item) → Contains items y → (x : Item) → CarriesFrom program t heights y x → Holds program t heights x
  carried_holds items sound y among x f =
      let b = f.carries in
      brings_holds program t heights are items sound f.step f.along.is_move f.along.to_height f.height f.along.at_height b.0 b.1 x
      (carries_brings program items y among f.step.from f.step.to b.0 f.from_it (step_source program t f.step f.height b.0) x b.2)

  pub found_first : (first items : List Item) → ((x : Item) → Contains first x ↔ Starts program t x) → Grows (FromBelow (length heights) (FixesFrom program t heights)) first items → Found program t heights 0 items
  found_first first items exact grows = record {
    sound = λ x c. by_case x ((grows.adds x).0 c);
    starts = λ x s. (grows.adds x).1 (inl ((exact x).1 s));
    fixed = λ pc x f. (grows.adds x).1 (inr (pc, subst (λ (n : ℕ). n < length heights) f.from_it (has_below heights f.step.from f.height f.along.at_height), f));
    carried = λ k y low. absurd (omega (arith, low));
  }
    where
      at_start : (x : Item) → Contains first x → Holds program t heights x
      at_start x c = starts_hold program t heights are x ((exact x).0 c)

      by_case : (x : Item) → Contains first x ⊎ FromBelow (length heights) (FixesFrom program t heights) x → Holds program t heights x
      by_case x (inl c) = at_start x c
      by_case x (inr b) = fixed_holds first at_start b.0 x b.2

  pub found_more : (n : ℕ) (old new : List Item) (y : Item) → slice_get old n ≡ Some y → Grows (CarriesFrom program t heights y) old new → Found program t heights n old → Found program t heights (n + 1) new
  found_more n old new y at grows f = record {
    sound = λ x c. by_case x ((grows.adds x).0 c);
    starts = λ x s. (grows.adds x).1 (inl (f.starts x s));
    fixed = λ pc x m. (grows.adds x).1 (inl (f.fixed pc x m));
    carried = λ k z low found x m. elim (cases_eq k n) [
      | inl same ↦
          let here : slice_get new k ≡ Some y = subst (λ (j : ℕ). slice_get new j ≡ Some y) (sym same) (grows.stays n y at) in
          (grows.adds x).1 (inr (subst (λ (w : Item). CarriesFrom program t heights w x) (some_same z y (sym found ∙ here)) m))
      | inr other ↦ (grows.adds x).1 (inl (earlier k z (omega (arith, low, other)) found x m))
    ];
  }
    where
      by_case : (x : Item) → Contains old x ⊎ CarriesFrom program t heights y x → Holds program t heights x
      by_case x (inl c) = f.sound x c
      by_case x (inr m) = carried_holds old f.sound y (contains_at old n y at) x m

      earlier : (k : ℕ) (z : Item) → k < n → slice_get new k ≡ Some z → (x : Item) → CarriesFrom program t heights z x → Contains old x
      earlier k z low found x m =
          let end = slice_get_within old n y at in
          let before = slice_get-get_or old k z (omega arith) in
          let same = some_same (get_or old k z) z (sym (grows.stays k (get_or old k z) before) ∙ found) in
          f.carried k z low (before ∙ ap (λ (w : Item). Some w) same) x m

  pub found_kinds : (n : ℕ) (items : List Item) → slice_get items n ≡ None → Found program t heights n items → AreKinds program t heights items
  found_kinds n items past f = are_kinds program t heights are items f.sound f.starts closed
    where
      closed : ClosedFor program t heights items
      closed m is height at_height to_height place below x brings = by_source (step_source program t m height place) refl brings.gives
        where
          along : GoesAlong program t heights height m
          along = record { is_move = is; at_height = at_height; to_height = to_height }

          by_source : (source : Source) → step_source program t m height place ≡ source → Gives program items m.from source x.kind → Contains items x
          by_source (Fixed kind) e gives =
              f.fixed m.from x (record {
                step = m;
                height = height;
                along = along;
                from_it = refl;
                fixes = (place, below, subst (λ (s : Source). Fixes m.to place s x) (sym e) (item_is x m.to place kind brings.at_pc brings.at_place gives));
              })
          by_source (FromPlace before change) e gives =
              let y : Item = record { pc = m.from; place = before; kind = gives.0 } in
              let at = number_of items y gives.1 in
              let low : at.0 < n = (let b = slice_get_within items at.0 y at.1 in let c = none_past items n past in omega arith) in
              f.carried at.0 y low at.1 x (record {
                step = m;
                height = height;
                along = along;
                from_it = refl;
                carries = (
                  place,
                  below,
                  subst (λ (s : Source). Carries program y m.to place s x) (sym e) (refl, item_is x m.to place (changed program change gives.0) brings.at_pc brings.at_place gives.2),
                );
              })

  pub kinds_alike : (items other : List Item) → AreKinds program t heights items → ((x : Item) → Contains other x ↔ Contains items x) → AreKinds program t heights other
  kinds_alike items other kinds alike x = (λ c. (kinds x).0 ((alike x).0 c), λ h. (alike x).1 ((kinds x).1 h))
