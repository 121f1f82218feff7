-- Which heights arrive at a pc, and which faults typing paths meet by them.
use Rattle.std.proofs.Common.{◌≡◌, ◌⊎◌, ℕ, ◌≤◌, Bool, true, false, not, cond, List, [], ◌∷◌, Option, Some, None, refl, sym, ◌∙◌, ap, subst, inl, inr, arith}
use Rattle.std.specs.Prelude.{◌==◌}
use Rattle.jo_prog.specs.declared.program.Program.{Program}
use Rattle.jo_prog.specs.declared.typed.TypeCode.{TypeCode}
use Rattle.jo_prog.specs.declared.typed.TypeCode.TheVariants.{Underflow, Overflow, HeightDiffers, WrongKind, FallsOff, LocalRange, Memory}
use Rattle.jo_prog.specs.declared.typed.TypeFault.{TypeFault}
use Rattle.jo_prog.specs.TypingPaths.{Typable, Step, arrives_at, height_of, ends_at, underflows, overflows, falls_off, out_of_range, TakesStep, IsFirst, GoesOn, Prolongs, TypingPath, Differs, MeetsAtEnd, number_of}
use Rattle.typing_heights.specs.declared.moves.Move.{Move}
use Rattle.typing_heights.specs.Searches.{height_at, height_behind, AreHeights}
use Rattle.typing_heights.specs.Moves.{LeavesFrom, LeavesAt, IsMove, Arrives, other_height, height_fault, IsHeightFault}
use Rattle.typing_heights.proofs.PathSteps.{begins, onward, back}
use Rattle.typing_heights.proofs.SearchPaths.{height_stepped}

-- a typing path to a pc with this height
pub record Comes (program : Program) (t : Typable) (pc height : ℕ) : Type 0 where
  pub path : List Step
  pub is_path : TypingPath program t path
  pub arrives : arrives_at path ≡ pc
  pub same_height : height_of program t path ≡ height

-- a fault that a typing path meets
pub record Meets (program : Program) (t : Typable) (pc : ℕ) (code : TypeCode) : Type 0 where
  pub path : List Step
  pub is_path : TypingPath program t path
  pub arrives : arrives_at path ≡ pc
  pub meets : MeetsAtEnd program t path code

-- a step that is a move prolongs a first path
pub record MovesOn (program : Program) (t : Typable) (m : Move) (path : List Step) : Type 0 where
  pub is_path : TypingPath program t (record { pc = m.to; row = m.row } ∷ path)
  pub same_height : height_of program t (record { pc = m.to; row = m.row } ∷ path) ≡ m.height

pub moves_on : (program : Program) (t : Typable) (m : Move) (path : List Step) (height : ℕ) → TypingPath program t path → GoesOn program t (TypingPath program t) path → arrives_at path ≡ m.from
    → height_of program t path ≡ height → LeavesFrom program t m.from height m → MovesOn program t m path
moves_on program t m path height is goes at same leaves =
    let takes : TakesStep t.code (arrives_at path) m.row m.to = subst (λ (pc : ℕ). TakesStep t.code pc m.row m.to) (sym at) leaves.takes in
    let step : Step = record { pc = m.to; row = m.row } in
    record {
      is_path = onward program t step path (record { is_path = is; goes_on = goes; takes = takes });
      same_height =
          height_stepped program t path step takes
          ∙ ap (λ pc. height_behind program t pc (height_of program t path) m.row) at
          ∙ ap (λ h. height_behind program t m.from h m.row) same
          ∙ sym leaves.same_height;
    }

-- a path to the pc of a move that has its height goes on
pub goes_on_at : (program : Program) (t : Typable) (heights : List (Option ℕ)) → AreHeights program t heights → (m : Move) (height : ℕ) (path : List Step)
    → TypingPath program t path → arrives_at path ≡ m.from → height_at heights m.from ≡ Some height → height_of program t path ≡ height → LeavesFrom program t m.from height m
    → GoesOn program t (TypingPath program t) path
goes_on_at program t heights are m height path is at has same leaves =
    let f = are.is_first m.from height has in record {
      steady = subst (λ (pc : ℕ). ends_at program t pc (height_of program t path) ≡ false) (sym at) (subst (λ (h : ℕ). ends_at program t m.from h ≡ false) (sym same) leaves.live);
      first = f.0;
      is_first = subst (λ (pc : ℕ). IsFirst (TypingPath program t) pc f.0) (sym at) f.1;
      same_height = f.2 ∙ sym same;
    }

-- where a path goes on, the table has its height
pub has_its_height : (program : Program) (t : Typable) (heights : List (Option ℕ)) → AreHeights program t heights → (path : List Step) → GoesOn program t (TypingPath program t) path
    → height_at heights (arrives_at path) ≡ Some (height_of program t path)
has_its_height program t heights are path goes = are.has_first (arrives_at path) goes.first goes.is_first ∙ ap (λ h. Some h) goes.same_height

-- a step behind a path is a move
pub is_move : (program : Program) (t : Typable) (heights : List (Option ℕ)) → AreHeights program t heights → (step : Step) (path : List Step) → Prolongs program t (TypingPath program t) step path
    → IsMove program t heights (record { from = arrives_at path; row = step.row; to = step.pc; height = height_of program t (step ∷ path) })
is_move program t heights are step path p =
    subst (λ (o : Option ℕ). LeavesAt program t (arrives_at path) o (record { from = arrives_at path; row = step.row; to = step.pc; height = height_of program t (step ∷ path) }))
    (sym (has_its_height program t heights are path p.goes_on))
    (record { from_it = refl; live = p.goes_on.steady; takes = p.takes; same_height = height_stepped program t path step p.takes })

-- a move has a height at its pc
pub record Leaves (program : Program) (t : Typable) (heights : List (Option ℕ)) (m : Move) : Type 0 where
  pub height : ℕ
  pub has : height_at heights m.from ≡ Some height
  pub leaves : LeavesFrom program t m.from height m

pub leaves_with : (program : Program) (t : Typable) (heights : List (Option ℕ)) (m : Move) → IsMove program t heights m → Leaves program t heights m
leaves_with program t heights m is = by_height (height_at heights m.from) refl is
  where
    by_height : (o : Option ℕ) → height_at heights m.from ≡ o → LeavesAt program t m.from o m → Leaves program t heights m
    by_height None e h = absurd h
    by_height (Some height) e h = record { height = height; has = e; leaves = h }

pub arrives_by_path : (program : Program) (t : Typable) (heights : List (Option ℕ)) → AreHeights program t heights → (pc height : ℕ) → Arrives program t heights pc height → Comes program t pc height
arrives_by_path program t heights are pc height (inl h) = record { path = []; is_path = begins program t; arrives = sym h.0; same_height = sym h.1 }
arrives_by_path program t heights are pc height (inr (m, is, to, same)) =
    let l = leaves_with program t heights m is in
    let f = are.is_first m.from l.height l.has in
    let goes = goes_on_at program t heights are m l.height f.0 f.1.is_path f.1.arrives l.has f.2 l.leaves in
    let on = moves_on program t m f.0 l.height f.1.is_path goes f.1.arrives f.2 l.leaves in
    record { path = record { pc = m.to; row = m.row } ∷ f.0; is_path = on.is_path; arrives = to; same_height = on.same_height ∙ same }

pub path_arrives : (program : Program) (t : Typable) (heights : List (Option ℕ)) → AreHeights program t heights → (path : List Step) → TypingPath program t path
    → Arrives program t heights (arrives_at path) (height_of program t path)
path_arrives program t heights are [] is = inl (refl, refl)
path_arrives program t heights are (step ∷ path) is =
    inr (record { from = arrives_at path; row = step.row; to = step.pc; height = height_of program t (step ∷ path) }, is_move program t heights are step path (back program t step path is), refl, refl)

-- ---- which faults are told

-- what is told of an arrival, by cases
told_test : (b : Bool) (code told : TypeCode) (rest : Option TypeCode) → cond b (Some code) rest ≡ Some told → ((b ≡ true) × (code ≡ told)) ⊎ ((b ≡ false) × (rest ≡ Some told))
told_test true code told rest e = inl (refl, cc)
told_test false code told rest e = inr (refl, e)

-- of two tests, one that passes is told, or something before it
pub record ToldBy (told : Option TypeCode) (number : ℕ) : Type 0 where
  pub code : TypeCode
  pub is_told : told ≡ Some code
  pub low : number_of code ≤ number

told_here : (b : Bool) (code : TypeCode) (rest : Option TypeCode) → b ≡ true → ToldBy (cond b (Some code) rest) (number_of code)
told_here b code rest e = record { code = code; is_told = ap (λ (x : Bool). cond x (Some code) rest) e; low = omega arith }

told_later : (b : Bool) (code : TypeCode) (rest : Option TypeCode) (number : ℕ) → number_of code ≤ number → ToldBy rest number → ToldBy (cond b (Some code) rest) number
told_later true code rest number low by = record { code = code; is_told = refl; low = low }
told_later false code rest number low by = by

module _ (program : Program) (t : Typable) (heights : List (Option ℕ)) where
  pub told_underflow : (pc height : ℕ) → underflows program t pc height ≡ true → ToldBy (height_fault program t heights pc height) 1
  told_underflow pc height e = told_here (underflows program t pc height) Underflow _ e

  pub told_overflow : (pc height : ℕ) → overflows program t pc height ≡ true → ToldBy (height_fault program t heights pc height) 2
  told_overflow pc height e =
      told_later (underflows program t pc height) Underflow _ 2 (omega arith) (told_here (overflows program t pc height) Overflow _ e)

  pub told_differs : (pc height : ℕ) → other_height (height_at heights pc) height ≡ true → ToldBy (height_fault program t heights pc height) 3
  told_differs pc height e =
      told_later (underflows program t pc height) Underflow _ 3 (omega arith)
      (told_later (overflows program t pc height) Overflow _ 3 (omega arith) (told_here (other_height (height_at heights pc) height) HeightDiffers _ e))

  pub told_falls : (pc height : ℕ) → falls_off t.code pc ≡ true → ToldBy (height_fault program t heights pc height) 5
  told_falls pc height e =
      told_later (underflows program t pc height) Underflow _ 5 (omega arith)
      (told_later (overflows program t pc height) Overflow _ 5 (omega arith)
      (told_later (other_height (height_at heights pc) height) HeightDiffers _ 5 (omega arith) (told_here (falls_off t.code pc) FallsOff _ e)))

  pub told_range : (pc height : ℕ) → out_of_range program t pc ≡ true → ToldBy (height_fault program t heights pc height) 6
  told_range pc height e =
      told_later (underflows program t pc height) Underflow _ 6 (omega arith)
      (told_later (overflows program t pc height) Overflow _ 6 (omega arith)
      (told_later (other_height (height_at heights pc) height) HeightDiffers _ 6 (omega arith)
      (told_later (falls_off t.code pc) FallsOff _ 6 (omega arith) (told_here (out_of_range program t pc) LocalRange _ e))))

-- ---- what is told is met

meets_code : (program : Program) (t : Typable) (pc : ℕ) (path : List Step) (code told : TypeCode) → TypingPath program t path → arrives_at path ≡ pc → code ≡ told → MeetsAtEnd program t path code
    → Meets program t pc told
meets_code program t pc path code told is at e meets = record { path = path; is_path = is; arrives = at; meets = subst (MeetsAtEnd program t path) e meets }

same_test : (a b : ℕ) → (a == b) ≡ true → a ≡ b
same_test a b e = grind (arith, e)

other_test : (a b : ℕ) → not (a == b) ≡ true → a ≡ b → ⊥
other_test a b e f = grind (arith, e, f)

test_other : (a b : ℕ) → (a ≡ b → ⊥) → not (a == b) ≡ true
test_other a b never = by_test (a == b) refl
  where
    by_test : (c : Bool) → (a == b) ≡ c → not (a == b) ≡ true
    by_test true e = absurd (never (same_test a b e))
    by_test false e = ap not e

module _ (program : Program) (t : Typable) (heights : List (Option ℕ)) (are : AreHeights program t heights) where
  differs_at : (path : List Step) → TypingPath program t path → (o : Option ℕ) → height_at heights (arrives_at path) ≡ o → other_height o (height_of program t path) ≡ true → Differs program t path
  differs_at path is None none e = absurd (let r = are.reached path is in let s = r.1 in cc)
  differs_at path is (Some first) has e =
      let f = are.is_first (arrives_at path) first has in
      record { first = f.0; is_first = f.1; other_height = λ same. other_test first (height_of program t path) e (sym f.2 ∙ same) }

  pub differs_by : (path : List Step) → Differs program t path → other_height (height_at heights (arrives_at path)) (height_of program t path) ≡ true
  differs_by path d =
      subst (λ (o : Option ℕ). other_height o (height_of program t path) ≡ true) (sym (are.has_first (arrives_at path) d.first d.is_first))
      (test_other (height_of program t d.first) (height_of program t path) d.other_height)

  told_met : (path : List Step) → TypingPath program t path → (told : TypeCode) → height_fault program t heights (arrives_at path) (height_of program t path) ≡ Some told → Meets program t (arrives_at path) told
  told_met path is told e = by_first (told_test (underflows program t pc height) Underflow told _ e)
    where
      pc : ℕ
      pc = arrives_at path

      height : ℕ
      height = height_of program t path

      by_fifth : ((out_of_range program t (arrives_at path) ≡ true) × (LocalRange ≡ told)) ⊎ ((out_of_range program t (arrives_at path) ≡ false) × (None ≡ Some told)) → Meets program t (arrives_at path) told
      by_fifth (inl h) = meets_code program t (arrives_at path) path LocalRange told is refl h.1 h.0
      by_fifth (inr h) = absurd (let n = h.1 in cc)

      by_fourth : ((falls_off t.code (arrives_at path) ≡ true) × (FallsOff ≡ told))
          ⊎ ((falls_off t.code (arrives_at path) ≡ false) × (cond (out_of_range program t (arrives_at path)) (Some LocalRange) None ≡ Some told)) → Meets program t (arrives_at path) told
      by_fourth (inl h) = meets_code program t (arrives_at path) path FallsOff told is refl h.1 h.0
      by_fourth (inr h) = by_fifth (told_test (out_of_range program t (arrives_at path)) LocalRange told None h.1)

      by_third : ((other_height (height_at heights (arrives_at path)) (height_of program t path) ≡ true) × (HeightDiffers ≡ told))
          ⊎ ((other_height (height_at heights (arrives_at path)) (height_of program t path) ≡ false) × (cond (falls_off t.code (arrives_at path)) (Some FallsOff) (cond (out_of_range program t (arrives_at path)) (Some LocalRange) None) ≡ Some told))
          → Meets program t (arrives_at path) told
      by_third (inl h) = meets_code program t (arrives_at path) path HeightDiffers told is refl h.1 (differs_at path is (height_at heights (arrives_at path)) refl h.0)
      by_third (inr h) = by_fourth (told_test (falls_off t.code (arrives_at path)) FallsOff told _ h.1)

      by_second : ((overflows program t (arrives_at path) (height_of program t path) ≡ true) × (Overflow ≡ told))
          ⊎ ((overflows program t (arrives_at path) (height_of program t path) ≡ false)
          × (cond (other_height (height_at heights (arrives_at path)) (height_of program t path)) (Some HeightDiffers) (cond (falls_off t.code (arrives_at path)) (Some FallsOff) (cond (out_of_range program t (arrives_at path)) (Some LocalRange) None)) ≡ Some told))
          → Meets program t (arrives_at path) told
      by_second (inl h) = meets_code program t (arrives_at path) path Overflow told is refl h.1 h.0
      by_second (inr h) = by_third (told_test (other_height (height_at heights (arrives_at path)) (height_of program t path)) HeightDiffers told _ h.1)

      by_first : ((underflows program t (arrives_at path) (height_of program t path) ≡ true) × (Underflow ≡ told))
          ⊎ ((underflows program t (arrives_at path) (height_of program t path) ≡ false)
          × (cond (overflows program t (arrives_at path) (height_of program t path)) (Some Overflow) (cond (other_height (height_at heights (arrives_at path)) (height_of program t path)) (Some HeightDiffers) (cond (falls_off t.code (arrives_at path)) (Some FallsOff) (cond (out_of_range program t (arrives_at path)) (Some LocalRange) None))) ≡ Some told))
          → Meets program t (arrives_at path) told
      by_first (inl h) = meets_code program t (arrives_at path) path Underflow told is refl h.1 h.0
      by_first (inr h) = by_second (told_test (overflows program t (arrives_at path) (height_of program t path)) Overflow told _ h.1)

  pub found_met : (f : TypeFault) → IsHeightFault program t heights f → Meets program t f.pc f.code
  found_met f (height, arrives, tells) =
      let c = arrives_by_path program t heights are f.pc height arrives in
      subst (λ (pc : ℕ). Meets program t pc f.code) c.arrives
      (told_met c.path c.is_path f.code
      (subst (λ (pc : ℕ). height_fault program t heights pc (height_of program t c.path) ≡ Some f.code) (sym c.arrives) (subst (λ (h : ℕ). height_fault program t heights f.pc h ≡ Some f.code) (sym c.same_height) tells.told)))

  -- ---- what is met is told, or something with a lower number

  pub record FoundBy (pc number : ℕ) : Type 0 where
    pub fault : TypeFault
    pub is_found : IsHeightFault program t heights fault
    pub at_it : fault.pc ≡ pc
    pub low : number_of fault.code ≤ number

  told_found : (path : List Step) → TypingPath program t path → (number : ℕ) → ToldBy (height_fault program t heights (arrives_at path) (height_of program t path)) number → FoundBy (arrives_at path) number
  told_found path is number by = record {
    fault = record { code = by.code; pc = arrives_at path };
    is_found = (height_of program t path, path_arrives program t heights are path is, record { at_it = refl; told = by.is_told });
    at_it = refl;
    low = by.low;
  }

  -- a fault of heights, and any fault of a path that arrives with another height
  pub met_found : (path : List Step) → TypingPath program t path → (code : TypeCode) → MeetsAtEnd program t path code → (code ≡ WrongKind → ⊥) → FoundBy (arrives_at path) (number_of code)
  met_found path is Underflow meets other = told_found path is 1 (told_underflow program t heights (arrives_at path) (height_of program t path) meets)
  met_found path is Overflow meets other = told_found path is 2 (told_overflow program t heights (arrives_at path) (height_of program t path) meets)
  met_found path is HeightDiffers meets other = told_found path is 3 (told_differs program t heights (arrives_at path) (height_of program t path) (differs_by path meets))
  met_found path is WrongKind meets other = absurd (other refl)
  met_found path is FallsOff meets other = told_found path is 5 (told_falls program t heights (arrives_at path) (height_of program t path) meets)
  met_found path is LocalRange meets other = told_found path is 6 (told_range program t heights (arrives_at path) (height_of program t path) meets)
  met_found path is Memory meets other = absurd meets

  pub other_found : (path : List Step) → TypingPath program t path → other_height (height_at heights (arrives_at path)) (height_of program t path) ≡ true → FoundBy (arrives_at path) 3
  other_found path is e = told_found path is 3 (told_differs program t heights (arrives_at path) (height_of program t path) e)

-- heights alone tell no fault of kinds
pub never_kind : (program : Program) (t : Typable) (heights : List (Option ℕ)) (pc height : ℕ) (told : TypeCode) → height_fault program t heights pc height ≡ Some told → told ≡ WrongKind → ⊥
never_kind program t heights pc height told e is = by_tests (underflows program t pc height) (overflows program t pc height) (other_height (height_at heights pc) height) (falls_off t.code pc) (out_of_range program t pc) (e ∙ ap (λ c. Some c) is)
  where
    by_tests : (a b c d f : Bool) → cond a (Some Underflow) (cond b (Some Overflow) (cond c (Some HeightDiffers) (cond d (Some FallsOff) (cond f (Some LocalRange) None)))) ≡ Some WrongKind → ⊥
    by_tests true b c d f e = absurd (cc)
    by_tests false true c d f e = absurd (cc)
    by_tests false false true d f e = absurd (cc)
    by_tests false false false true f e = absurd (cc)
    by_tests false false false false true e = absurd (cc)
    by_tests false false false false false e = absurd (cc)
