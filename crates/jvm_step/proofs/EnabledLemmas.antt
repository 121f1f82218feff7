-- The threads that may step, from a place on.
use Rattle.std.proofs.Common.{◌≡◌, ◌∙◌, sym, ap, refl, ℕ, zero, suc, ◌+◌, ◌-◌, ◌<◌, ◌≤◌, Bool, true, false, not, List, [], ◌∷◌, length, drop, get_or, Option, Some, None, slice_get, add-one, arith}
use Rattle.std.specs.Prelude.{if◌then◌else◌}
use Rattle.std.proofs.lemmas.List.{at_drop_more, at_drop_all}
use Rattle.std.proofs.lemmas.Option.{none-some, same_Some}
use Rattle.jo_prog.specs.declared.program.Program.{Program}
use Rattle.jo_prog.specs.declared.labels.Labels.{Labels}
use Rattle.jo_prog.specs.Machine.{Frame, State}
use Rattle.machine.specs.Instructions.{instruction_at}
use Rattle.machine.specs.Runs.{enabled_from, may_step, waits_at}
use Rattle.jvm_frames.specs.declared.threads.Thread.{Thread}
use Rattle.jvm_frames.specs.Frames.{thread_of}
use Rattle.jvm_step.specs.States.{threads_of}

if_true : {A : Type 0} (b : Bool) (x y : A) → b ≡ true → (if b then x else y) ≡ x
if_true b x y is = rw is refl

if_false : {A : Type 0} (b : Bool) (x y : A) → b ≡ false → (if b then x else y) ≡ y
if_false b x y is = rw is refl

behind_first : (n : ℕ) (ns : List ℕ) (k : ℕ) → 0 < k → slice_get (n ∷ ns) k ≡ slice_get ns (k - 1)
behind_first n ns zero some = absurd (omega arith)
behind_first n ns (suc k) some = let e : suc k - 1 ≡ k = omega arith in rw e refl

module _ (program : Program) (labels : Labels) (s : State) (threads : List Thread) where
  abbrev pub enabled_on : ℕ → List ℕ
  enabled_on i = enabled_from program labels s i (threads_of (drop i threads))

  abbrev pub may : Thread → Bool
  may x = may_step program labels s (thread_of x).pending (thread_of x).frames

  one : (i : ℕ) (x : Thread) → i < length threads → x ≡ get_or threads i x → enabled_on i ≡ enabled_from program labels s i (threads_of (x ∷ drop (i + 1) threads))
  one i x inside read =
      let F : List Thread → List ℕ = λ ys. enabled_from program labels s i (threads_of ys) in
      at_drop_more F threads i x inside ∙ ap (λ (y : Thread). F (y ∷ drop (i + 1) threads)) (sym read)

  next_on : (i : ℕ) → enabled_from program labels s (suc i) (threads_of (drop (i + 1) threads)) ≡ enabled_on (i + 1)
  next_on i = rw add-one refl

  pub step_may : (i : ℕ) (x : Thread) → i < length threads → x ≡ get_or threads i x → may x ≡ true → enabled_on i ≡ i ∷ enabled_on (i + 1)
  step_may i x inside read is =
      one i x inside read ∙ if_true (may x) _ _ is ∙ ap (λ (ns : List ℕ). i ∷ ns) (next_on i)

  pub step_may_not : (i : ℕ) (x : Thread) → i < length threads → x ≡ get_or threads i x → may x ≡ false → enabled_on i ≡ enabled_on (i + 1)
  step_may_not i x inside read is = one i x inside read ∙ if_false (may x) _ _ is ∙ next_on i

  -- one more that may step is counted
  pub count_may : (i : ℕ) (x : Thread) (count total : ℕ) → i < length threads → x ≡ get_or threads i x → may x ≡ true → count + length (enabled_on i) ≡ total → count + 1 + length (enabled_on (i + 1)) ≡ total
  count_may i x count total inside read is so_far =
      let more : length (enabled_on i) ≡ suc (length (enabled_on (i + 1))) = ap length (step_may i x inside read is) in
      omega arith

  pub count_not : (i : ℕ) (x : Thread) (count total : ℕ) → i < length threads → x ≡ get_or threads i x → may x ≡ false → count + length (enabled_on i) ≡ total → count + length (enabled_on (i + 1)) ≡ total
  count_not i x count total inside read is so_far =
      let same : length (enabled_on i) ≡ length (enabled_on (i + 1)) = ap length (step_may_not i x inside read is) in
      omega arith

  -- it has the next place
  pub place_first : (i : ℕ) (x : Thread) (left : ℕ) → i < length threads → x ≡ get_or threads i x → may x ≡ true → left ≡ 0 → slice_get (enabled_on i) left ≡ Some i
  place_first i x left inside read is none = ap (slice_get (enabled_on i)) none ∙ ap (λ (ns : List ℕ). slice_get ns 0) (step_may i x inside read is)

  pub place_may : (i : ℕ) (x : Thread) (left : ℕ) → i < length threads → x ≡ get_or threads i x → may x ≡ true → 0 < left → slice_get (enabled_on i) left ≡ slice_get (enabled_on (i + 1)) (left - 1)
  place_may i x left inside read is some = ap (λ (ns : List ℕ). slice_get ns left) (step_may i x inside read is) ∙ behind_first i (enabled_on (i + 1)) left some

  pub place_not : (i : ℕ) (x : Thread) (left : ℕ) → i < length threads → x ≡ get_or threads i x → may x ≡ false → slice_get (enabled_on i) left ≡ slice_get (enabled_on (i + 1)) left
  place_not i x left inside read is = ap (λ (ns : List ℕ). slice_get ns left) (step_may_not i x inside read is)

  pub none_left : (i : ℕ) → length threads ≤ i → enabled_on i ≡ []
  none_left i past = at_drop_all (λ (ys : List Thread). enabled_from program labels s i (threads_of ys)) threads i past

-- the first of some frames is on top
module _ (program : Program) (labels : Labels) (s : State) where
  pub top_waits : (frames : List Frame) (f : Frame) → Some f ≡ slice_get frames 0 → not (waits_at program labels s f (instruction_at program f.method f.pc)) ≡ may_step program labels s None frames
  top_waits [] f top = absurd (none-some f (sym top))
  top_waits (g ∷ below) f top =
      ap (λ (h : Frame). not (waits_at program labels s h (instruction_at program h.method h.pc))) (same_Some f g top)

  pub top_thrown : (frames : List Frame) (f : Frame) (a : ℕ) → Some f ≡ slice_get frames 0 → true ≡ may_step program labels s (Some a) frames
  top_thrown [] f a top = absurd (none-some f (sym top))
  top_thrown (g ∷ below) f a top = refl

  pub no_top : (frames : List Frame) (pending : Option ℕ) → None ≡ slice_get frames 0 → false ≡ may_step program labels s pending frames
  no_top [] pending none = refl
  no_top (g ∷ below) pending none = absurd (none-some g none)
