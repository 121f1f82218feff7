-- What a search knows of all typing paths.
use Rattle.std.proofs.Common.{◌≡◌, ℕ, suc, ◌+◌, ◌<◌, ◌≤◌, Bool, true, false, ltb, List, [], ◌∷◌, length, get_or, Option, Some, None, refl, sym, ◌∙◌, ap, subst, inl, inr, arith}
use Rattle.std.specs.Prelude.{is_some}
use Rattle.std.proofs.lemmas.Bool.{ltb-true, ltb-false}
use Rattle.jo_prog.specs.declared.program.Program.{Program}
use Rattle.jo_prog.specs.TypingPaths.{Typable, Step, arrives_at, shape_of, stepped, height_of, effect_at, ends_at, TakesStep, pcs_of, IsFirst, TypingPath}
use Rattle.typing_heights.specs.Searches.{height_behind}
use Rattle.typing_heights.proofs.PathOrder.{same_length, by_length, by_less, IsNotAfter, SameWay, not_before, same_way}
use Rattle.typing_heights.proofs.PathSteps.{heights_after, back}
use Rattle.typing_heights.proofs.SearchState.{Searches}

-- ---- heights go by pcs and by where a handler is taken

-- the height behind a step that the code may take
pub height_stepped : (program : Program) (t : Typable) (path : List Step) (step : Step) → TakesStep t.code (arrives_at path) step.row step.pc
    → height_of program t (step ∷ path) ≡ height_behind program t (arrives_at path) (height_of program t path) step.row
height_stepped program t path step takes = by_row step.row takes
  where
    by_row : (row : Option ℕ) → TakesStep t.code (arrives_at path) row step.pc
        → length (stepped program t (arrives_at path) row (shape_of program t path)).stack ≡ height_behind program t (arrives_at path) (height_of program t path) row
    by_row None takes = heights_after program (effect_at program t (arrives_at path)) (shape_of program t path)
    by_row (Some k) takes = rw takes.found refl

head_same : {A : Type 0} (x y : A) (xs ys : List A) → x ∷ xs ≡ y ∷ ys → x ≡ y
head_same x y xs ys e = ap (λ l. get_or l 0 x) e

rows_height : (program : Program) (t : Typable) (pc height : ℕ) (a b : Option ℕ) → is_some a ≡ is_some b → height_behind program t pc height a ≡ height_behind program t pc height b
rows_height program t pc height None None e = refl
rows_height program t pc height None (Some k) e = absurd (cc)
rows_height program t pc height (Some j) None e = absurd (cc)
rows_height program t pc height (Some j) (Some k) e = refl

arrives_same : (p q : List Step) → pcs_of p ≡ pcs_of q → arrives_at p ≡ arrives_at q
arrives_same p q e = last p ∙ ap (λ l. get_or l 0 0) e ∙ sym (last q)
  where
    last : (r : List Step) → arrives_at r ≡ get_or (pcs_of r) 0 0
    last [] = refl
    last (s ∷ r) = refl

pub same_heights : (program : Program) (t : Typable) (p q : List Step) → TypingPath program t p → TypingPath program t q → SameWay p q → height_of program t p ≡ height_of program t q
same_heights program t [] [] hp hq same = refl
same_heights program t [] (b ∷ q) hp hq same = absurd (let e : 0 ≡ suc (length (pcs_of q)) = ap length same.pcs in omega arith)
same_heights program t (a ∷ p) [] hp hq same = absurd (let e : suc (length (pcs_of p)) ≡ 0 = ap length same.pcs in omega arith)
same_heights program t (a ∷ p) (b ∷ q) hp hq same =
    let hp' = back program t a p hp in
    let hq' = back program t b q hq in
    let rest : SameWay p q = record { pcs = ap tail_of same.pcs; handlers = ap tail_of same.handlers } in
    let heights : height_of program t p ≡ height_of program t q = same_heights program t p q hp'.is_path hq'.is_path rest in
    let ends : arrives_at p ≡ arrives_at q = arrives_same p q rest.pcs in
    let rows : is_some a.row ≡ is_some b.row = ap (λ l. get_or l 0 (is_some a.row)) same.handlers in
    height_stepped program t p a hp'.takes
    ∙ ap (λ pc. height_behind program t pc (height_of program t p) a.row) ends
    ∙ ap (λ h. height_behind program t (arrives_at q) h a.row) heights
    ∙ rows_height program t (arrives_at q) (height_of program t q) a.row b.row rows
    ∙ sym (height_stepped program t q b hq'.takes)
  where
    tail_of : {A : Type 0} → List A → List A
    tail_of [] = []
    tail_of (x ∷ xs) = xs

-- ---- where a path stands to the queue

-- it arrives at a pc of the queue, or at the next pc behind one that isn't done, or is longer
pub data Stands (t : Typable) (queue : List ℕ) (done : ℕ) (way : ℕ → List Step) (r : List Step) : Type 0 where
  known : (k : ℕ) → k < length queue → arrives_at r ≡ get_or queue k 0 → Stands t queue done way r
  next : (k : ℕ) → done ≤ k → k < length queue → (step : Step) (p : List Step) → r ≡ step ∷ p → IsNotAfter (way k) p
      → TakesStep t.code (get_or queue k 0) step.row step.pc → Stands t queue done way r
  far : (k : ℕ) → done ≤ k → k < length queue → length (way k) + 1 < length r → Stands t queue done way r

pub not_after_length : (p q : List Step) → IsNotAfter p q → length p ≤ length q
not_after_length p q (inl (by_length h)) = omega arith
not_after_length p q (inl (by_less e h)) = omega arith
not_after_length p q (inr h) = let e = same_length p q h.pcs in omega arith

-- the way to a pc of the queue is a first path
pub way_first : (program : Program) (t : Typable) (heights : List (Option ℕ)) (queue : List ℕ) (done : ℕ) (s : Searches program t heights queue done) (k pc : ℕ)
    → k < length queue → pc ≡ get_or queue k 0 → IsFirst (TypingPath program t) pc (s.way k)
way_first program t heights queue done s k pc below e = record {
  is_path = s.is_path k below;
  arrives = s.arrives k below ∙ sym e;
  first = λ other path to before. not_before (s.way k) other (s.least k below other path (to ∙ e)) before;
}

-- and each first path to it has its height
pub first_height : (program : Program) (t : Typable) (heights : List (Option ℕ)) (queue : List ℕ) (done : ℕ) (s : Searches program t heights queue done) (k pc : ℕ) (f : List Step)
    → k < length queue → pc ≡ get_or queue k 0 → IsFirst (TypingPath program t) pc f → height_of program t (s.way k) ≡ height_of program t f
first_height program t heights queue done s k pc f below e is =
    same_heights program t (s.way k) f (s.is_path k below) is.is_path
    (same_way (s.way k) f (s.least k below f is.is_path (is.arrives ∙ e)) (λ before. is.first (s.way k) (s.is_path k below) (s.arrives k below ∙ sym e) before))

pub stands : (program : Program) (t : Typable) (heights : List (Option ℕ)) (queue : List ℕ) (done : ℕ) (s : Searches program t heights queue done) (r : List Step)
    → TypingPath program t r → Stands t queue done s.way r
stands program t heights queue done s [] h = known 0 s.begins (ap arrives_at (sym s.first_way) ∙ s.arrives 0 s.begins)
stands program t heights queue done s (step ∷ p) h = onward_from (stands program t heights queue done s p (back program t step p h).is_path)
  where
    onward_known : (k : ℕ) → k < length queue → arrives_at p ≡ get_or queue k 0 → (b : Bool) → ltb k done ≡ b → Stands t queue done s.way (step ∷ p)
    onward_known k below e true is =
        let steps = back program t step p h in
        let same = first_height program t heights queue done s k (arrives_at p) steps.goes_on.first below e steps.goes_on.is_first ∙ steps.goes_on.same_height in
        let live : ends_at program t (get_or queue k 0) (height_of program t (s.way k)) ≡ false = rw (sym e, same) steps.goes_on.steady in
        let takes = subst (λ (pc : ℕ). TakesStep t.code pc step.row step.pc) e steps.takes in
        let found = s.closed k (ltb-true k done is) below live step.row step.pc takes in
        known found.place found.inside (sym found.stands)
    onward_known k below e false is =
        let steps = back program t step p h in
        next k (ltb-false k done is) below step p refl (s.least k below p steps.is_path e)
        (subst (λ (pc : ℕ). TakesStep t.code pc step.row step.pc) e steps.takes)

    onward_from : Stands t queue done s.way p → Stands t queue done s.way (step ∷ p)
    onward_from (known k below e) = onward_known k below e (ltb k done) refl
    onward_from (next k from below step' p' is not_after takes) = far k from below (let e = ap length is in let l = not_after_length (s.way k) p' not_after in omega arith)
    onward_from (far k from below longer) = far k from below (omega arith)
