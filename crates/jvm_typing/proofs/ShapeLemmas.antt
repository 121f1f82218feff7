-- The kinds of places behind a step, by where they come from.
use Rattle.std.proofs.Common.{◌≡◌, ℕ, zero, suc, ◌+◌, ◌-◌, ◌<◌, ◌≤◌, ◌≢◌, Bool, true, false, cond, List, [], ◌∷◌, ◌++◌, length, map, get_or, set, drop, Option, Some, None, refl, sym, ◌∙◌, ap, arith}
use Rattle.std.specs.Prelude.{◌==◌, nat_lt, slice_get}
use Rattle.std.proofs.lemmas.Bool.{ltb-true, ltb-false}
use Rattle.std.proofs.lemmas.List.{length-set, length-map, get_or_append_left, get_or-append_right, get_or-append-add, get_or-set_same, get_or-set_other, get_or-drop, get_or_past}
use Rattle.jo_prog.specs.declared.program.Program.{Program}
use Rattle.jo_prog.specs.declared.program.Row.{Row}
use Rattle.jo_prog.specs.InsnTyping.{caught, at_handler}
use Rattle.jo_prog.specs.Typing.{Kind, Ref, Unset, Shape}
use Rattle.jo_prog.specs.Shapes.{Same, changed, Origin, Always, OfStack, OfLocal, Effect, kind_from, written, after}
use Rattle.jvm_typing.specs.KindPasses.{flat, Source, Fixed, FromPlace, Frame, origin_source, written_source, pushed_source, plain_source, handler_source}

abbrev pub source_kind : Program → Shape → Source → Kind
source_kind program s (Fixed kind) = kind
source_kind program s (FromPlace place change) = changed program change (get_or (flat s) place Unset)

-- a place that a source names is there
abbrev pub IsThere : ℕ → Source → Type 0
IsThere end (Fixed kind) = Unit {0}
IsThere end (FromPlace place change) = place < end

pub record Fits (f : Frame) (s : Shape) : Type 0 where
  pub locals : length s.locals ≡ f.locals
  pub height : length s.stack ≡ f.height

-- what a source gives, and that its place is there
pub record Comes (program : Program) (f : Frame) (s : Shape) (source : Source) (kind : Kind) : Type 0 where
  pub same : source_kind program s source ≡ kind
  pub there : IsThere (f.locals + f.height) source

pushed_at : (f : Origin → Kind) (xs : List Origin) (rest : List Kind) (k : ℕ) (x : Origin) → slice_get xs k ≡ Some x → get_or (map f xs ++ rest) k Unset ≡ f x
pushed_at f [] rest k x e = absurd (cc)
pushed_at f (y ∷ xs) rest zero x e = ap f (some_origin y x e)
  where
    some_origin : (a b : Origin) → Some a ≡ Some b → a ≡ b
    some_origin a b e = ap (λ (o : Option Origin). elim o [ Some z ↦ z | None ↦ a ]) e
pushed_at f (y ∷ xs) rest (suc k) x e = pushed_at f xs rest k x e

none_past : (xs : List Origin) (k : ℕ) → slice_get xs k ≡ None → length xs ≤ k
none_past [] k e = omega arith
none_past (x ∷ xs) zero e = absurd (cc)
none_past (x ∷ xs) (suc k) e = let r = none_past xs k e in omega arith

module _ (program : Program) (f : Frame) (s : Shape) (fits : Fits f s) where
  stack_at : (k : ℕ) → get_or (flat s) (f.locals + k) Unset ≡ get_or s.stack k Unset
  stack_at k = ap (λ n. get_or (flat s) (n + k) Unset) (sym fits.locals) ∙ get_or-append-add s.locals s.stack k Unset

  local_at : (k : ℕ) → k < f.locals → get_or (flat s) k Unset ≡ get_or s.locals k Unset
  local_at k below = get_or_append_left s.locals s.stack Unset k (let e = fits.locals in omega arith)

  pub origin_comes : (origin : Origin) → Comes program f s (origin_source program f origin) (kind_from program s origin)
  origin_comes (Always kind) = record { same = refl; there = tt }
  origin_comes (OfStack k change) = by_test (nat_lt k f.height) refl
    where
      by_test : (b : Bool) → nat_lt k f.height ≡ b → Comes program f s (cond b (FromPlace (f.locals + k) change) (Fixed (changed program change Unset))) (changed program change (get_or s.stack k Unset))
      by_test true e = record { same = ap (changed program change) (stack_at k); there = (let b = ltb-true k f.height e in omega arith) }
      by_test false e = record { same = ap (changed program change) (sym (get_or_past s.stack k Unset (let b = ltb-false k f.height e in let h = fits.height in omega arith))); there = tt }
  origin_comes (OfLocal k change) = by_test (nat_lt k f.locals) refl
    where
      by_test : (b : Bool) → nat_lt k f.locals ≡ b → Comes program f s (cond b (FromPlace k change) (Fixed (changed program change Unset))) (changed program change (get_or s.locals k Unset))
      by_test true e = (let b = ltb-true k f.locals e in record { same = ap (changed program change) (local_at k b); there = omega arith })
      by_test false e = record { same = ap (changed program change) (sym (get_or_past s.locals k Unset (let b = ltb-false k f.locals e in let h = fits.locals in omega arith))); there = tt }

  same_comes : (place : ℕ) → place < f.locals + f.height → Comes program f s (FromPlace place Same) (get_or (flat s) place Unset)
  same_comes place below = record { same = refl; there = below }

  written_comes : (writes : Option (ℕ × Origin)) (place : ℕ) → place < f.locals → Comes program f s (written_source program f writes place) (get_or (written program s writes) place Unset)
  written_comes None place below = record { same = local_at place below; there = omega arith }
  written_comes (Some (k, origin)) place below = by_test (k == place) refl
    where
      by_test : (b : Bool) → (k == place) ≡ b → Comes program f s (cond b (origin_source program f origin) (FromPlace place Same)) (get_or (set s.locals k (kind_from program s origin)) place Unset)
      by_test true e =
          let same : k ≡ place = grind (arith, e) in
          let at = get_or-set_same s.locals k (kind_from program s origin) Unset (let h = fits.locals in omega arith) in
          let comes = origin_comes origin in
          record { same = comes.same ∙ sym (ap (λ n. get_or (set s.locals k (kind_from program s origin)) n Unset) (sym same) ∙ at); there = comes.there }
      by_test false e =
          let other : place ≢ k = (λ q. absurd (let r : (k == place) ≡ true = grind (arith, q) in cc)) in
          let at = get_or-set_other s.locals k place (kind_from program s origin) Unset other in
          record { same = local_at place below ∙ sym at; there = omega arith }

  pushed_comes : (effect : Effect) (k : ℕ) (found : Option Origin) → slice_get effect.pushes k ≡ found → k < length effect.pushes + (f.height - length effect.pops)
      → Comes program f s (pushed_source program f effect k found) (get_or (map (kind_from program s) effect.pushes ++ drop (length effect.pops) s.stack) k Unset)
  pushed_comes effect k (Some origin) e below =
      let comes = origin_comes origin in
      record { same = comes.same ∙ sym (pushed_at (kind_from program s) effect.pushes (drop (length effect.pops) s.stack) k origin e); there = comes.there }
  pushed_comes effect k None e below =
      let past = none_past effect.pushes k e in
      record {
        same =
            stack_at (length effect.pops + (k - length effect.pushes))
            ∙ sym (get_or-append_right (map (kind_from program s) effect.pushes) (drop (length effect.pops) s.stack) (length effect.pushes) k Unset (length-map effect.pushes (kind_from program s)) past
            ∙ get_or-drop (length effect.pops) s.stack (k - length effect.pushes) Unset);
        there = omega arith;
      }

  written_length : (writes : Option (ℕ × Origin)) → length (written program s writes) ≡ f.locals
  written_length None = fits.locals
  written_length (Some (k, origin)) = length-set s.locals k (kind_from program s origin) ∙ fits.locals

  pub plain_comes : (effect : Effect) (place : ℕ) → place < f.locals + (length effect.pushes + (f.height - length effect.pops)) → Comes program f s (plain_source program f effect place) (get_or (flat (after program effect s)) place Unset)
  plain_comes effect place below = by_test (nat_lt place f.locals) refl
    where
      by_test : (b : Bool) → nat_lt place f.locals ≡ b
          → Comes program f s (cond b (written_source program f effect.writes place) (pushed_source program f effect (place - f.locals) (slice_get effect.pushes (place - f.locals)))) (get_or (flat (after program effect s)) place Unset)
      by_test true e =
          let low = ltb-true place f.locals e in
          let comes = written_comes effect.writes place low in
          let at = get_or_append_left (written program s effect.writes) (map (kind_from program s) effect.pushes ++ drop (length effect.pops) s.stack) Unset place (let l = written_length effect.writes in omega arith) in
          record { same = comes.same ∙ sym at; there = comes.there }
      by_test false e =
          let high = ltb-false place f.locals e in
          let comes = pushed_comes effect (place - f.locals) (slice_get effect.pushes (place - f.locals)) refl (omega arith) in
          let at = get_or-append_right (written program s effect.writes) (map (kind_from program s) effect.pushes ++ drop (length effect.pops) s.stack) f.locals place Unset (written_length effect.writes) high in
          record { same = comes.same ∙ sym at; there = comes.there }

  pub handler_comes : (row : Row) (place : ℕ) → place < f.locals + 1 → Comes program f s (handler_source f row place) (get_or (flat (at_handler row s)) place Unset)
  handler_comes row place below = by_test (nat_lt place f.locals) refl
    where
      by_test : (b : Bool) → nat_lt place f.locals ≡ b → Comes program f s (cond b (FromPlace place Same) (Fixed (Ref (caught row.catches)))) (get_or (flat (at_handler row s)) place Unset)
      by_test true e =
          let low = ltb-true place f.locals e in
          let at = get_or_append_left s.locals (Ref (caught row.catches) ∷ []) Unset place (let l = fits.locals in omega arith) in
          record { same = local_at place low ∙ sym at; there = omega arith }
      by_test false e =
          let high = ltb-false place f.locals e in
          let zeroth : place - f.locals ≡ 0 = omega arith in
          let at = get_or-append_right s.locals (Ref (caught row.catches) ∷ []) f.locals place Unset fits.locals high ∙ ap (λ n. get_or (Ref (caught row.catches) ∷ []) n Unset) zeroth in
          record { same = sym at; there = tt }
