-- What places hold at the start of a method.
use Rattle.std.proofs.Common.{◌≡◌, ◌↔◌, ℕ, zero, suc, ◌≤◌, List, [], ◌∷◌, ◌++◌, length, map, take, Option, Some, None, option_map, Contains, refl, sym, ◌∙◌, ap, subst, arith}
use Rattle.std.specs.Prelude.{slice_get}
use Rattle.std.proofs.lemmas.Option.{slice_get-map, slice_get_within}
use Rattle.jo_prog.specs.declared.program.Program.{Program}
use Rattle.jo_prog.specs.InsnTyping.{shape_at_start}
use Rattle.jo_prog.specs.Typing.{Kind}
use Rattle.jo_prog.specs.TypingPaths.{Typable}
use Rattle.jvm_typing.specs.declared.facts.Fact.{Fact}
use Rattle.typing_effects.specs.declared.kinds.Kind.{Kind as KindHere}
use Rattle.typing_heights.specs.Adds.{Adds, FromBelow}
use Rattle.typing_effects.specs.Kinds.{kind_in}
use Rattle.jvm_typing.specs.KindPasses.{Item, item_in, items_of, Starts, StartAt}
use Rattle.typing_heights.proofs.AddsLemmas.{adds_none, adds_alike, adds_pushed, adds_all}
use Rattle.jvm_typing.proofs.GrowLemmas.{item_is, map_push}

pub map_take : {A B : Type 0} (f : A → B) (n : ℕ) (xs : List A) → map f (take n xs) ≡ take n (map f xs)
map_take f zero xs = refl
map_take f (suc n) [] = refl
map_take f (suc n) (x ∷ xs) = ap (λ ys. f x ∷ ys) (map_take f n xs)

some_same : (a b : Kind) → Some a ≡ Some b → a ≡ b
some_same a b e = ap (λ (o : Option Kind). elim o [ Some x ↦ x | None ↦ a ]) e

pub no_start : (S : Item → Type 0) (kinds : List KindHere) (place : ℕ) → slice_get kinds place ≡ None → Adds S S (StartAt (map kind_in kinds) place)
no_start S kinds place none = adds_none S (StartAt (map kind_in kinds) place) (λ x h. absurd (let e = h.2 in let f = slice_get-map kind_in kinds place ∙ ap (λ (o : Option KindHere). option_map kind_in o) none in cc))

pub start_added : (facts new : List Fact) (kinds : List KindHere) (place : ℕ) (kind copy : KindHere) → slice_get kinds place ≡ Some kind → copy ≡ kind → new ≡ facts ++ record { pc = 0; place = place; kind = copy } ∷ []
    → Adds (Contains (items_of facts)) (Contains (items_of new)) (StartAt (map kind_in kinds) place)
start_added facts new kinds place kind copy at same made =
    adds_alike (Contains (items_of facts)) (Contains (items_of new)) (λ x. x ≡ record { pc = 0; place = place; kind = kind_in copy }) (StartAt (map kind_in kinds) place)
    (adds_pushed (items_of facts) (items_of new) (record { pc = 0; place = place; kind = kind_in copy }) (ap items_of made ∙ map_push item_in facts (record { pc = 0; place = place; kind = copy }))) (λ x. (there x, back x))
  where
    has : slice_get (map kind_in kinds) place ≡ Some (kind_in copy)
    has = slice_get-map kind_in kinds place ∙ ap (λ (o : Option KindHere). option_map kind_in o) at ∙ ap (λ (k : KindHere). Some (kind_in k)) (sym same)

    there : (x : Item) → x ≡ record { pc = 0; place = place; kind = kind_in copy } → StartAt (map kind_in kinds) place x
    there x e = subst (StartAt (map kind_in kinds) place) (sym e) (refl, refl, has)

    back : (x : Item) → StartAt (map kind_in kinds) place x → x ≡ record { pc = 0; place = place; kind = kind_in copy }
    back x h = item_is x 0 place (kind_in copy) h.0 h.1 (some_same x.kind (kind_in copy) (sym h.2 ∙ has))

pub starts_exact : (program : Program) (t : Typable) (items : List Item) (kinds : List Kind) (end : ℕ) → length kinds ≤ end → kinds ≡ (shape_at_start program t.method t.code).locals
    → Adds (Contains {X = Item} []) (Contains items) (FromBelow end (StartAt kinds)) → (x : Item) → Contains items x ↔ Starts program t x
starts_exact program t items kinds end past same adds x =
    let each = adds_all items (FromBelow end (StartAt kinds)) adds x in (λ among. there (each.0 among), λ s. each.1 (back s))
  where
    there : FromBelow end (StartAt kinds) x → Starts program t x
    there (place, below, h) = (h.0, subst (λ (l : List Kind). slice_get l x.place ≡ Some x.kind) same (subst (λ (p : ℕ). slice_get kinds p ≡ Some x.kind) (sym h.1) h.2))

    back : Starts program t x → FromBelow end (StartAt kinds) x
    back s =
        let at = subst (λ (l : List Kind). slice_get l x.place ≡ Some x.kind) (sym same) s.1 in
        (x.place, (let b = slice_get_within kinds x.place x.kind at in omega arith), (s.0, refl, at))
