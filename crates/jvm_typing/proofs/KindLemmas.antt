-- What is found of kinds is what typing paths bring.
use Rattle.std.proofs.Common.{◌≡◌, ℕ, ◌+◌, ◌<◌, List, [], ◌∷◌, ◌++◌, length, get_or, replicate, Option, Some, None, Contains, refl, sym, ◌∙◌, ap, subst, arith, append-nil}
use Rattle.std.specs.Prelude.{slice_get}
use Rattle.std.proofs.lemmas.List.{length-set, length-append, length-replicate, length-take-le}
use Rattle.std.proofs.lemmas.Option.{slice_get-get_or, slice_get_within, get_or_from_slice_get}
use Rattle.jo_prog.specs.declared.program.Program.{Program}
use Rattle.jo_prog.specs.declared.program.Row.{Row}
use Rattle.jo_prog.specs.InsnTyping.{receiver_kinds, param_kinds, shape_at_start}
use Rattle.jo_prog.specs.MethodTypes.{method_desc_in}
use Rattle.jo_prog.specs.Typing.{Kind, Unset, Shape}
use Rattle.jo_prog.specs.Shapes.{changed, Origin, Effect, written, after, kind_from}
use Rattle.jo_prog.specs.TypingPaths.{Typable, Step, arrives_at, height_of, shape_of, stepped, row_taken, effect_at, TakesStep, TypingPath}
use Rattle.typing_heights.specs.declared.moves.Move.{Move}
use Rattle.typing_heights.specs.Searches.{height_at, height_behind, AreHeights}
use Rattle.typing_heights.specs.Moves.{LeavesFrom, IsMove}
use Rattle.jvm_typing.specs.KindPasses.{flat, Item, Holds, Source, Fixed, FromPlace, Gives, Brings, row_at, row_source, step_source, frame_of, ClosedFor, Starts, AreKinds}
use Rattle.typing_heights.proofs.PathSteps.{back}
use Rattle.typing_heights.proofs.SearchPaths.{height_stepped}
use Rattle.typing_heights.proofs.ArrivalLemmas.{moves_on, goes_on_at, has_its_height, is_move, leaves_with}
use Rattle.jvm_typing.proofs.GrowLemmas.{item_is}
use Rattle.jvm_typing.proofs.ShapeLemmas.{source_kind, IsThere, Comes, plain_comes, handler_comes}

-- ---- the locals of a path's shape are as many as the method has

locals_start : (program : Program) (t : Typable) → length (shape_at_start program t.method t.code).locals ≡ t.code.max_locals
locals_start program t =
    let n = t.code.max_locals in
    let fixed = receiver_kinds t.method ++ param_kinds program (method_desc_in t.method.desc) in
    let long = length-append fixed (replicate n Unset) in
    let same = length-replicate {A = Kind} n Unset in
    length-take-le n (fixed ++ replicate n Unset) (omega arith)

written_long : (program : Program) (effect : Effect) (s : Shape) → length (after program effect s).locals ≡ length s.locals
written_long program effect s = by_writes effect.writes
  where
    by_writes : (writes : Option (ℕ × Origin)) → length (written program s writes) ≡ length s.locals
    by_writes None = refl
    by_writes (Some (k, origin)) = length-set s.locals k (kind_from program s origin)

pub locals_long : (program : Program) (t : Typable) (path : List Step) → length (shape_of program t path).locals ≡ t.code.max_locals
locals_long program t [] = locals_start program t
locals_long program t (step ∷ path) = by_row step.row ∙ locals_long program t path
  where
    by_found : (row : Option Row) → length (row_taken row (shape_of program t path)).locals ≡ length (shape_of program t path).locals
    by_found None = refl
    by_found (Some row) = refl

    by_row : (row : Option ℕ) → length (stepped program t (arrives_at path) row (shape_of program t path)).locals ≡ length (shape_of program t path).locals
    by_row None = written_long program (effect_at program t (arrives_at path)) (shape_of program t path)
    by_row (Some k) = by_found (slice_get t.code.rows k)

-- ---- a step turns the kinds as their sources say

step_comes : (program : Program) (t : Typable) (path : List Step) (height : ℕ) (row : Option ℕ) (to place : ℕ) → height_of program t path ≡ height → TakesStep t.code (arrives_at path) row to
    → place < t.code.max_locals + height_behind program t (arrives_at path) height row
    → Comes program (frame_of t height) (shape_of program t path) (row_source program (frame_of t height) (effect_at program t (arrives_at path)) (row_at t.code.rows row) place)
    (get_or (flat (stepped program t (arrives_at path) row (shape_of program t path))) place Unset)
step_comes program t path height None to place same takes below =
    plain_comes program (frame_of t height) (shape_of program t path) (record { locals = locals_long program t path; height = same }) (effect_at program t (arrives_at path)) place below
step_comes program t path height (Some k) to place same takes below =
    subst (λ (o : Option Row). Comes program (frame_of t height) (shape_of program t path) (row_source program (frame_of t height) (effect_at program t (arrives_at path)) o place) (get_or (flat (row_taken o (shape_of program t path))) place Unset))
    (sym takes.found)
    (handler_comes program (frame_of t height) (shape_of program t path) (record { locals = locals_long program t path; height = same }) takes.row place below)

flat_long : (program : Program) (t : Typable) (path : List Step) → length (flat (shape_of program t path)) ≡ t.code.max_locals + height_of program t path
flat_long program t path = length-append (shape_of program t path).locals (shape_of program t path).stack ∙ ap (λ n. n + height_of program t path) (locals_long program t path)

-- ---- what a step brings holds

-- a path to the pc of a move from which the source takes its kind
record Bears (program : Program) (t : Typable) (from height : ℕ) (source : Source) (kind : Kind) : Type 0 where
  path : List Step
  is_path : TypingPath program t path
  arrives : arrives_at path ≡ from
  same_height : height_of program t path ≡ height
  same_kind : source_kind program (shape_of program t path) source ≡ kind

pub some_same : {A : Type 0} (a b : A) → Some a ≡ Some b → a ≡ b
some_same a b e = ap (λ (o : Option _). elim o [ Some x ↦ x | None ↦ a ]) e

module _ (program : Program) (t : Typable) (heights : List (Option ℕ)) (are : AreHeights program t heights) where
  bears : (items : List Item) → ((x : Item) → Contains items x → Holds program t heights x) → (from height : ℕ) → height_at heights from ≡ Some height → (source : Source) (kind : Kind) → Gives program items from source kind
      → Bears program t from height source kind
  bears items sound from height has (Fixed known) kind gives =
      let f = are.is_first from height has in
      record { path = f.0; is_path = f.1.is_path; arrives = f.1.arrives; same_height = f.2; same_kind = sym gives }
  bears items sound from height has (FromPlace place change) kind gives =
      let h = sound (record { pc = from; place = place; kind = gives.0 }) gives.1 in
      record {
        path = h.path;
        is_path = h.is_path;
        arrives = h.arrives;
        same_height = some_same (height_of program t h.path) height (sym h.same_height ∙ has);
        same_kind = ap (changed program change) (get_or_from_slice_get (flat (shape_of program t h.path)) place gives.0 Unset h.holds) ∙ sym gives.2;
      }

  pub brings_holds : (items : List Item) → ((x : Item) → Contains items x → Holds program t heights x) → (m : Move) → IsMove program t heights m → height_at heights m.to ≡ Some m.height
      → (height : ℕ) → height_at heights m.from ≡ Some height → (place : ℕ) → place < t.code.max_locals + m.height → (x : Item) → Brings program items m.from m.to place (step_source program t m height place) x
      → Holds program t heights x
  brings_holds items sound m is has_to height has place below x brings =
      let l = leaves_with program t heights m is in
      let one : l.height ≡ height = some_same l.height height (sym l.has ∙ has) in
      let leaves = subst (λ (h : ℕ). LeavesFrom program t m.from h m) one l.leaves in
      let b = bears items sound m.from height has (step_source program t m height place) x.kind brings.gives in
      let goes = goes_on_at program t heights are m height b.path b.is_path b.arrives has b.same_height leaves in
      let on = moves_on program t m b.path height b.is_path goes b.arrives b.same_height leaves in
      let step : Step = record { pc = m.to; row = m.row } in
      let low : place < t.code.max_locals + height_behind program t (arrives_at b.path) height m.row =
      subst (λ (pc : ℕ). place < t.code.max_locals + height_behind program t pc height m.row) (sym b.arrives) (subst (λ (h : ℕ). place < t.code.max_locals + h) leaves.same_height below) in
      let takes = subst (λ (pc : ℕ). TakesStep t.code pc m.row m.to) (sym b.arrives) leaves.takes in
      let comes = step_comes program t b.path height m.row m.to place b.same_height takes low in
      let source_is = ap (λ (pc : ℕ). source_kind program (shape_of program t b.path) (row_source program (frame_of t height) (effect_at program t pc) (row_at t.code.rows m.row) place)) b.arrives in
      let long : place < length (flat (shape_of program t (step ∷ b.path))) =
      (let e = flat_long program t (step ∷ b.path) in let h = on.same_height in omega arith) in
      record {
        path = step ∷ b.path;
        is_path = on.is_path;
        arrives = sym brings.at_pc;
        same_height = ap (height_at heights) brings.at_pc ∙ has_to ∙ ap (λ h. Some h) (sym on.same_height);
        holds =
            ap (slice_get (flat (shape_of program t (step ∷ b.path)))) brings.at_place
            ∙ slice_get-get_or (flat (shape_of program t (step ∷ b.path))) place Unset long
            ∙ ap (λ k. Some k) (sym comes.same ∙ source_is ∙ b.same_kind);
      }

  -- ---- what holds is found

  pub found_all : (items : List Item) → ((x : Item) → Starts program t x → Contains items x) → ClosedFor program t heights items
      → (path : List Step) → TypingPath program t path → height_at heights (arrives_at path) ≡ Some (height_of program t path)
      → (place : ℕ) (kind : Kind) → slice_get (flat (shape_of program t path)) place ≡ Some kind → Contains items (record { pc = arrives_at path; place = place; kind = kind })
  found_all items starts closed [] is has place kind at =
      starts (record { pc = 0; place = place; kind = kind }) (refl, subst (λ (l : List Kind). slice_get l place ≡ Some kind) (append-nil (shape_of program t []).locals) at)
  found_all items starts closed (step ∷ path) is has place kind at =
      let p = back program t step path is in
      let before = has_its_height program t heights are path p.goes_on in
      let height = height_of program t path in
      let m : Move = record { from = arrives_at path; row = step.row; to = step.pc; height = height_of program t (step ∷ path) } in
      let among = is_move program t heights are step path p in
      let long = slice_get_within (flat (shape_of program t (step ∷ path))) place kind at in
      let below : place < t.code.max_locals + m.height = (let e = flat_long program t (step ∷ path) in omega arith) in
      let low = subst (λ (h : ℕ). place < t.code.max_locals + h) (height_stepped program t path step p.takes) below in
      let comes = step_comes program t path height step.row step.pc place refl p.takes low in
      let kind_is : get_or (flat (shape_of program t (step ∷ path))) place Unset ≡ kind = get_or_from_slice_get (flat (shape_of program t (step ∷ path))) place kind Unset at in
      closed m among height before has place below (record { pc = step.pc; place = place; kind = kind }) (record {
        at_pc = refl;
        at_place = refl;
        gives =
            by_source (step_source program t m height place) kind
            (λ q k here. found_all items starts closed path p.is_path before q k here)
            (comes.same ∙ kind_is) comes.there;
      })
    where
      by_source : (source : Source) (k : Kind) → ((q : ℕ) (x : Kind) → slice_get (flat (shape_of program t path)) q ≡ Some x → Contains items (record { pc = arrives_at path; place = q; kind = x }))
          → source_kind program (shape_of program t path) source ≡ k → IsThere (t.code.max_locals + height_of program t path) source → Gives program items (arrives_at path) source k
      by_source (Fixed known) k held same there = sym same
      by_source (FromPlace q change) k held same there =
          let inside : q < length (flat (shape_of program t path)) = (let e = flat_long program t path in omega arith) in (
            get_or (flat (shape_of program t path)) q Unset,
            held q (get_or (flat (shape_of program t path)) q Unset) (slice_get-get_or (flat (shape_of program t path)) q Unset inside),
            sym same,
          )

  pub are_kinds : (items : List Item) → ((x : Item) → Contains items x → Holds program t heights x)
      → ((x : Item) → Starts program t x → Contains items x) → ClosedFor program t heights items → AreKinds program t heights items
  are_kinds items sound starts closed x = (sound x, back_to)
    where
      back_to : Holds program t heights x → Contains items x
      back_to h =
          let has : height_at heights (arrives_at h.path) ≡ Some (height_of program t h.path) = ap (height_at heights) h.arrives ∙ h.same_height in
          subst (λ (y : Item). Contains items y) (sym (item_is x (arrives_at h.path) x.place x.kind (sym h.arrives) refl refl)) (found_all items starts closed h.path h.is_path has x.place x.kind h.holds)
