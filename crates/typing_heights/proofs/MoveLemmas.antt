-- Where the code goes on from a pc.
use Rattle.std.proofs.Common.{◌≡◌, ◌⊎◌, ◌↔◌, ℕ, zero, suc, ◌<◌, Bool, true, false, ltb, List, [], ◌∷◌, ◌++◌, length, Option, Some, None, Contains, refl, sym, ◌∙◌, ap, subst, inl, inr, arith}
use Rattle.std.specs.Prelude.{ℤ, pos, slice_get}
use Rattle.std.proofs.lemmas.Bool.{ltb-true, ltb-false}
use Rattle.std.proofs.lemmas.List.{get_or_past}
use Rattle.jo_prog.specs.declared.program.Program.{Program}
use Rattle.jo_prog.specs.declared.program.Row.{Row}
use Rattle.jo_prog.specs.InsnTyping.{covers}
use Rattle.jo_prog.specs.TypingPaths.{Typable, ends_at, TakesStep}
use Rattle.typing_heights.specs.declared.moves.Move.{Move}
use Rattle.typing_heights.specs.declared.spots.Onward.{Onward}
use Rattle.typing_heights.specs.Spots.{GoesOnward}
use Rattle.typing_heights.specs.Searches.{height_at, height_behind}
use Rattle.typing_heights.specs.Adds.{Adds, From, FromBelow}
use Rattle.typing_heights.specs.Moves.{LeavesFrom, LeavesAt, IsMove, plain_move, HandlerMove}
use Rattle.typing_heights.proofs.AddsLemmas.{adds_none, adds_alike, adds_more, adds_pushed, adds_all}
use Rattle.typing_heights.proofs.VisitLemmas.{of_pos, to_pos}

-- ---- one row

same_row : (o : Option Row) (a b : Row) → o ≡ Some a → o ≡ Some b → a ≡ b
same_row o a b e f = ap (λ (p : Option Row). elim p [ Some x ↦ x | None ↦ a ]) (sym e ∙ f)

pub no_row : (rows : List Row) (from place : ℕ) (S : Move → Type 0) → slice_get rows place ≡ None → Adds S S (HandlerMove rows from place)
no_row rows from place S none = adds_none S (HandlerMove rows from place) (λ m h. absurd (let f = h.found in cc))

pub not_over : (rows : List Row) (from place : ℕ) (S : Move → Type 0) (row : Row) → slice_get rows place ≡ Some row → covers from row ≡ false → Adds S S (HandlerMove rows from place)
not_over rows from place S row is not_covered = adds_none S (HandlerMove rows from place) never
  where
    never : (m : Move) → HandlerMove rows from place m → ⊥
    never m h = absurd (let e : covers from row ≡ true = subst (λ (r : Row). covers from r ≡ true) (same_row (slice_get rows place) h.row row h.found is) h.covered in cc)

pub handler_added : (rows : List Row) (from place : ℕ) (xs ys : List Move) (row : Row) → slice_get rows place ≡ Some row → covers from row ≡ true
    → ys ≡ xs ++ record { from = from; row = Some place; to = row.handler; height = 1 } ∷ [] → Adds (Contains xs) (Contains ys) (HandlerMove rows from place)
handler_added rows from place xs ys row is covered made =
    adds_alike (Contains xs) (Contains ys) (λ m. m ≡ record { from = from; row = Some place; to = row.handler; height = 1 }) (HandlerMove rows from place)
    (adds_pushed xs ys (record { from = from; row = Some place; to = row.handler; height = 1 }) made) (λ m. (there m, back m))
  where
    there : (m : Move) → m ≡ record { from = from; row = Some place; to = row.handler; height = 1 } → HandlerMove rows from place m
    there m e = record { row = row; found = is; covered = covered; is_move = e }

    back : (m : Move) → HandlerMove rows from place m → m ≡ record { from = from; row = Some place; to = row.handler; height = 1 }
    back m h = subst (λ (r : Row). m ≡ record { from = from; row = Some place; to = r.handler; height = 1 }) (same_row (slice_get rows place) h.row row h.found is) h.is_move

-- ---- one pc

pub stays : (program : Program) (t : Typable) (pc height : ℕ) (S : Move → Type 0) → ends_at program t pc height ≡ true → Adds S S (LeavesFrom program t pc height)
stays program t pc height S ends = adds_none S (LeavesFrom program t pc height) (λ m h. absurd (let l = h.live in cc))

move_is : (m : Move) (from to height : ℕ) (row : Option ℕ) → m.from ≡ from → m.row ≡ row → m.to ≡ to → m.height ≡ height → m ≡ record { from = from; row = row; to = to; height = height }
move_is m from to height row e f g h =
    let s1 : ◌≡◌ {A = Move} m (record { from = from; row = m.row; to = m.to; height = m.height }) = ap (λ x. record { from = x; row = m.row; to = m.to; height = m.height }) e in
    let s2 : ◌≡◌ {A = Move} (record { from = from; row = m.row; to = m.to; height = m.height }) (record { from = from; row = row; to = m.to; height = m.height }) =
    ap (λ x. record { from = from; row = x; to = m.to; height = m.height }) f in
    let s3 : ◌≡◌ {A = Move} (record { from = from; row = row; to = m.to; height = m.height }) (record { from = from; row = row; to = to; height = m.height }) =
    ap (λ x. record { from = from; row = row; to = x; height = m.height }) g in
    let s4 : ◌≡◌ {A = Move} (record { from = from; row = row; to = to; height = m.height }) (record { from = from; row = row; to = to; height = height }) =
    ap (λ x. record { from = from; row = row; to = to; height = x }) h in
    s1 ∙ s2 ∙ s3 ∙ s4

place_below : (rows : List Row) (place : ℕ) (row : Row) → slice_get rows place ≡ Some row → place < length rows
place_below [] place row e = absurd (cc)
place_below (r ∷ rows) zero row e = omega arith
place_below (r ∷ rows) (suc place) row e = let b = place_below rows place row e in omega arith

pub leaves : (program : Program) (t : Typable) (pc height : ℕ) (onward : Onward) (R S T : Move → Type 0) → GoesOnward program t pc height onward
    → Adds R S (From onward.plain (λ to m. m ≡ plain_move pc onward.height to)) → Adds S T (FromBelow (length t.code.rows) (HandlerMove t.code.rows pc)) → Adds R T (LeavesFrom program t pc height)
leaves program t pc height onward R S T goes first second =
    adds_more R S T (From onward.plain (λ to m. m ≡ plain_move pc onward.height to)) (FromBelow (length t.code.rows) (HandlerMove t.code.rows pc)) (LeavesFrom program t pc height) first second (λ m. (there m, back m))
  where
    by_row : (m : Move) (row : Option ℕ) → m.row ≡ row → m.from ≡ pc → TakesStep t.code pc row m.to → m.height ≡ height_behind program t pc height row
        → From onward.plain (λ to m. m ≡ plain_move pc onward.height to) m ⊎ FromBelow (length t.code.rows) (HandlerMove t.code.rows pc) m
    by_row m None is from takes same =
        inl (m.to, of_pos onward.plain m.to (subst (λ (l : List ℤ). Contains l (pos m.to)) (sym goes.plain) takes), move_is m pc m.to onward.height None from is refl (same ∙ sym goes.same_height))
    by_row m (Some place) is from takes same = inr (
      place,
      place_below t.code.rows place takes.row takes.found,
      record {
        row = takes.row;
        found = takes.found;
        covered = takes.covered;
        is_move = move_is m pc takes.row.handler 1 (Some place) from is (sym takes.leads) same;
      },
    )

    there : (m : Move) → LeavesFrom program t pc height m → From onward.plain (λ to m. m ≡ plain_move pc onward.height to) m ⊎ FromBelow (length t.code.rows) (HandlerMove t.code.rows pc) m
    there m h = by_row m m.row refl h.from_it h.takes h.same_height

    back : (m : Move) → From onward.plain (λ to m. m ≡ plain_move pc onward.height to) m ⊎ FromBelow (length t.code.rows) (HandlerMove t.code.rows pc) m → LeavesFrom program t pc height m
    back m (inl (to, among, is)) = subst (LeavesFrom program t pc height) (sym is) (record {
      from_it = refl;
      live = goes.live;
      takes = subst (λ (l : List ℤ). Contains l (pos to)) goes.plain (to_pos onward.plain to among);
      same_height = goes.same_height;
    })
    back m (inr (place, below, h)) = subst (LeavesFrom program t pc height) (sym h.is_move) (record {
      from_it = refl;
      live = goes.live;
      takes = record { row = h.row; found = h.found; covered = h.covered; leads = refl };
      same_height = refl;
    })

-- ---- all pcs

pub has_below : (heights : List (Option ℕ)) (pc h : ℕ) → height_at heights pc ≡ Some h → pc < length heights
has_below heights pc h e = by_test (ltb pc (length heights)) refl
  where
    by_test : (b : Bool) → ltb pc (length heights) ≡ b → pc < length heights
    by_test true below = ltb-true pc (length heights) below
    by_test false past = absurd (let n = get_or_past heights pc None (ltb-false pc (length heights) past) in cc)

leaves_below : (program : Program) (t : Typable) (heights : List (Option ℕ)) (pc : ℕ) (m : Move) (o : Option ℕ) → height_at heights pc ≡ o → LeavesAt program t pc o m → (pc < length heights) × (m.from ≡ pc)
leaves_below program t heights pc m None e h = absurd h
leaves_below program t heights pc m (Some height) e h = (has_below heights pc height e, h.from_it)

pub moves_exact : (program : Program) (t : Typable) (heights : List (Option ℕ)) (end : ℕ) (moves : List Move) → length heights ≡ end
    → Adds (Contains []) (Contains moves) (FromBelow end (λ pc. LeavesAt program t pc (height_at heights pc))) → (m : Move) → Contains moves m ↔ IsMove program t heights m
moves_exact program t heights end moves all adds m =
    let each = adds_all moves (FromBelow end (λ pc. LeavesAt program t pc (height_at heights pc))) adds m in (λ among. there (each.0 among), λ is. each.1 (back is))
  where
    there : FromBelow end (λ pc. LeavesAt program t pc (height_at heights pc)) m → IsMove program t heights m
    there (pc, below, h) = subst (λ (x : ℕ). LeavesAt program t x (height_at heights x) m) (sym (leaves_below program t heights pc m (height_at heights pc) refl h).1) h

    back : IsMove program t heights m → FromBelow end (λ pc. LeavesAt program t pc (height_at heights pc)) m
    back is = (m.from, (let b = (leaves_below program t heights m.from m (height_at heights m.from) refl is).0 in omega arith), is)
