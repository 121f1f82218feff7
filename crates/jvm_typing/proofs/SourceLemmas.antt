-- Where kinds come from.
use Rattle.std.proofs.Common.{◌≡◌, ℕ, zero, suc, ◌+◌, ◌-◌, ◌<◌, ◌≤◌, ◌∙◌, Bool, true, false, cond, List, [], ◌∷◌, ◌++◌, length, get_or, Option, Some, None, option_map, Contains, refl, sym, ap, subst, inl, inr, arith}
use Rattle.std.specs.Prelude.{◌==◌, ◌^◌, nat_lt, slice_get}
use Rattle.std.proofs.lemmas.Bool.{ltb-false, cases_eq}
use Rattle.std.proofs.lemmas.List.Elements.{Contains-append_left, Contains-push}
use Rattle.std.proofs.lemmas.Option.{slice_get_within}
use Rattle.jo_prog.specs.declared.program.Program.{Program}
use Rattle.jo_prog.specs.declared.program.Row.{Row}
use Rattle.jo_prog.specs.InsnTyping.{caught}
use Rattle.jo_prog.specs.Typing.{Ref}
use Rattle.jo_prog.specs.Shapes.{Origin, OfStack, Same, Change, Effect}
use Rattle.jvm_typing.specs.KindPasses.{Frame, Source, Fixed, FromPlace, origin_source, written_source, pushed_source, row_source}
use Rattle.jvm_typing.specs.Sources.{copies, HasFrom, Feeds}
use Rattle.jvm_typing.proofs.GrowLemmas.{none_past}

-- a list of one has nothing past its first place
pub past_one : {A : Type 0} (x : A) (k : ℕ) → (k ≡ 0 → ⊥) → slice_get (x ∷ []) k ≡ None
past_one x zero never = absurd (never refl)
past_one x (suc k) never = refl

pub copy_there : {B : Type 0} (g : Origin → B) (places : List ℕ) (k : ℕ) → k < length places → option_map g (slice_get (copies places) k) ≡ Some (g (OfStack (get_or places k 0) Same))
copy_there g [] k below = absurd (omega arith)
copy_there g (p ∷ places) zero below = refl
copy_there g (p ∷ places) (suc k) below = copy_there g places k (omega arith)

pub copy_past : {B : Type 0} (g : Origin → B) (places : List ℕ) (k : ℕ) → length places ≤ k → option_map g (slice_get (copies places) k) ≡ None
copy_past g [] k past = refl
copy_past g (p ∷ places) zero past = absurd (omega arith)
copy_past g (p ∷ places) (suc k) past = copy_past g places k (omega arith)

pub written_here : (program : Program) (f : Frame) (k place : ℕ) (origin : Origin) → k ≡ place → written_source program f (Some (k, origin)) place ≡ origin_source program f origin
written_here program f k place origin same = ap (λ (b : Bool). cond b (origin_source program f origin) (FromPlace place Same)) (passes k place same)
  where
    passes : (a b : ℕ) → a ≡ b → (a == b) ≡ true
    passes a b e = grind (arith, e)

pub some_pushed : (program : Program) (f : Frame) (effect : Effect) (k : ℕ) (o : Option Origin) (source : Source) → Some source ≡ option_map (origin_source program f) o → source ≡ pushed_source program f effect k o
some_pushed program f effect k None source e = absurd (cc)
some_pushed program f effect k (Some origin) source e = ap (λ (s : Option Source). elim s [ Some x ↦ x | None ↦ source ]) e

pub none_pushed : (program : Program) (f : Frame) (effect : Effect) (k : ℕ) (o : Option Origin) (a b d : ℕ) → None ≡ option_map (origin_source program f) o → a ≡ f.locals → b ≡ length effect.pops → d ≡ k - length effect.pushes
    → FromPlace (a + (b + d)) Same ≡ pushed_source program f effect k o
none_pushed program f effect k None a b d e p q r = ap (λ (n : ℕ). FromPlace (n + (b + d)) Same) p ∙ ap (λ (n : ℕ). FromPlace (f.locals + (n + d)) Same) q ∙ ap (λ (n : ℕ). FromPlace (f.locals + (length effect.pops + n)) Same) r
none_pushed program f effect k (Some origin) a b d e p q r = absurd (cc)

-- ---- which places take their kind from one

pub places_none : (old : List ℕ) (from : ℕ) → HasFrom old from from old
places_none old from = record { kept = λ q c. c; has = λ q low high. absurd (omega (arith, low, high)) }

pub places_more : (old mid new : List ℕ) (from end : ℕ) → HasFrom old from end mid → new ≡ mid ++ end ∷ [] → HasFrom old from (end + 1) new
places_more old mid new from end has made =
    subst (λ (l : List ℕ). HasFrom old from (end + 1) l) (sym made) (record {
      kept = λ q c. Contains-append_left mid (end ∷ []) q (has.kept q c);
      has = λ q low high. elim (cases_eq q end) [
        | inl same ↦ subst (λ (p : ℕ). Contains (mid ++ end ∷ []) p) (sym same) (Contains-push mid end)
        | inr other ↦ Contains-append_left mid (end ∷ []) q (has.has q low (omega (arith, high, other)))
      ];
    })

-- where nothing is between the two
pub places_past : (old : List ℕ) (from end : ℕ) → end ≤ from → HasFrom old from end old
places_past old from end past = record { kept = λ q c. c; has = λ q low high. absurd (omega (arith, low, high, past)) }

place_of : (a b : ℕ) (c d : Change) → FromPlace a c ≡ FromPlace b d → a ≡ b
place_of a b c d e = ap (λ (s : Source). elim s [ FromPlace p x ↦ p | Fixed kind ↦ a ]) e

pub feeds : (f : Frame) (effect : Effect) (place : ℕ) (places : List ℕ) (written shifted pushed : ℕ) → Contains places place → Contains places written → Contains places shifted
    → ((q : ℕ) → f.locals ≤ q → q < pushed → Contains places q)
    → ((k : ℕ) (origin : Origin) → effect.writes ≡ Some (k, origin) → written ≡ k)
    → ((q : ℕ) → q < 2 ^ 17 → q < f.locals + length effect.pushes → q < pushed)
    → ((q : ℕ) → q < 2 ^ 17 → q ≡ f.locals + length effect.pushes + (place - (f.locals + length effect.pops)) → q ≡ shifted)
    → Feeds f effect place places
feeds f effect place places written shifted pushed has_place has_written has_shifted has_pushed is_written is_pushed is_shifted program row q change low = by_row row
  where
    itself : q ≡ place → Contains places q
    itself e = subst (λ (p : ℕ). Contains places p) (sym e) has_place

    by_handler : (row : Row) (b : Bool) → cond b (FromPlace q Same) (Fixed (Ref (caught row.catches))) ≡ FromPlace place change → Contains places q
    by_handler row true e = itself (place_of q place Same change e)
    by_handler row false e = absurd (cc)

    by_here : (k : ℕ) (origin : Origin) (b : Bool) → (k == q) ≡ b → effect.writes ≡ Some (k, origin) → cond b (origin_source program f origin) (FromPlace q Same) ≡ FromPlace place change → Contains places q
    by_here k origin true same is e =
        let here : k ≡ q = grind (arith, same) in
        subst (λ (p : ℕ). Contains places p) (is_written k origin is ∙ here) has_written
    by_here k origin false same is e = itself (place_of q place Same change e)

    by_writes : (writes : Option (ℕ × Origin)) → effect.writes ≡ writes → written_source program f writes q ≡ FromPlace place change → Contains places q
    by_writes None is e = itself (place_of q place Same change e)
    by_writes (Some (k, origin)) is e = by_here k origin (k == q) refl is e

    by_pushes : f.locals ≤ q → (o : Option Origin) → slice_get effect.pushes (q - f.locals) ≡ o → pushed_source program f effect (q - f.locals) o ≡ FromPlace place change → Contains places q
    by_pushes above (Some origin) is e =
        let within = slice_get_within effect.pushes (q - f.locals) origin is in
        has_pushed q above (is_pushed q low (omega (arith, within, above)))
    by_pushes above None is e =
        let past = none_past effect.pushes (q - f.locals) is in
        let from = place_of (f.locals + (length effect.pops + ((q - f.locals) - length effect.pushes))) place Same change e in
        subst (λ (p : ℕ). Contains places p) (sym (is_shifted q low (omega (arith, past, from, above)))) has_shifted

    by_plain : (b : Bool) → nat_lt q f.locals ≡ b
        → cond b (written_source program f effect.writes q) (pushed_source program f effect (q - f.locals) (slice_get effect.pushes (q - f.locals))) ≡ FromPlace place change → Contains places q
    by_plain true below e = by_writes effect.writes refl e
    by_plain false past e = by_pushes (ltb-false q f.locals past) (slice_get effect.pushes (q - f.locals)) refl e

    by_row : (row : Option Row) → row_source program f effect row q ≡ FromPlace place change → Contains places q
    by_row None e = by_plain (nat_lt q f.locals) refl e
    by_row (Some row) e = by_handler row (nat_lt q f.locals) e
