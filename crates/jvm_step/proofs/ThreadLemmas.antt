-- One thread among others.
use Rattle.std.proofs.Common.{◌≡◌, ◌∙◌, sym, ap, refl, ℕ, zero, suc, ◌<◌, ◌≤◌, List, [], ◌∷◌, length, get_or, Option, Some, option_map, slice_get, slice_set, arith}
use Rattle.std.proofs.lemmas.List.{map-set, length-map}
use Rattle.std.proofs.lemmas.Option.{same_Some, slice_get-map, slice_get_read, slice_get_past}
use Rattle.jo_prog.specs.Machine as machine
use Rattle.jo_prog.specs.Machine.{Frame}
use Rattle.machine.specs.Steps.{object_of}
use Rattle.jvm_frames.specs.declared.threads.Thread.{Thread}
use Rattle.jvm_frames.specs.Frames.{thread_of, thread_with}
use Rattle.jvm_step.specs.States.{threads_of, frames_at, HasTop, framed}

same_set : {A : Type 0} (xs : List A) (t : ℕ) (x : A) → slice_get xs t ≡ Some x → slice_set xs t x ≡ xs
same_set [] t x at = refl
same_set (y ∷ xs) zero x at = ap (λ z. z ∷ xs) (sym (same_Some y x at))
same_set (y ∷ xs) (suc t) x at = ap (λ zs. y ∷ zs) (same_set xs t x at)

module _ (threads : List Thread) (n t : ℕ) (was is : Thread) (same : n ≡ length threads) (within : t < n) (read : was ≡ get_or threads t was) where
  there : slice_get (threads_of threads) t ≡ Some (thread_of was)
  there = slice_get-map thread_of threads t ∙ ap (option_map thread_of) (slice_get_read threads n t was same within read)

  -- the thread that was read is replaced
  pub reframed : (made : List Frame → List Frame) (pending : Option ℕ) → thread_of is ≡ thread_with (thread_of was) (made (thread_of was).frames) pending → (f : Frame) (below : List Frame) → HasTop (threads_of threads) t f below → threads_of (slice_set threads t is) ≡ framed (threads_of threads) t (made (f ∷ below)) pending
  reframed made pending by f below top =
      let frames : (thread_of was).frames ≡ f ∷ below = sym (ap frames_at there) ∙ top in
      map-set thread_of threads t is
      ∙ ap (slice_set (threads_of threads) t) (by ∙ ap (λ (fs : List Frame). thread_with (thread_of was) (made fs) pending) frames)
      ∙ ap (λ (o : Option machine.Thread). slice_set (threads_of threads) t (record { frames = made (f ∷ below); pending = pending; object = object_of o })) (sym there)

  pub as_before : thread_of is ≡ thread_of was → threads_of (slice_set threads t is) ≡ threads_of threads
  as_before by = map-set thread_of threads t is ∙ ap (slice_set (threads_of threads) t) by ∙ same_set (threads_of threads) t (thread_of was) there

-- there is no such thread
pub no_thread : {P : Type 0} (threads : List Thread) (t : ℕ) (f : Frame) (below : List Frame) → length threads ≤ t → HasTop (threads_of threads) t f below → P
no_thread threads t f below past top =
    let count = length-map threads thread_of in
    let none = slice_get_past (threads_of threads) t (omega arith) in
    let empty : ◌≡◌ {A = List Frame} [] (f ∷ below) = sym (ap frames_at none) ∙ top in
    absurd (cc)

-- the frame on top is the first one
pub top_read : (threads : List machine.Thread) (t : ℕ) (f : Frame) (below : List Frame) → HasTop threads t f below → (one : Frame) → Some one ≡ slice_get (frames_at (slice_get threads t)) 0 → one ≡ f
top_read threads t f below top one is = same_Some one f (is ∙ ap (λ (frames : List Frame). slice_get frames 0) top)
