-- Lists whose last item is the top of a stack.
use Rattle.std.proofs.Common.{◌≡◌, ◌∙◌, sym, ap, refl, ℕ, suc, ◌+◌, ◌-◌, ◌<◌, ◌≤◌, Bool, true, false, nat_le, List, [], ◌∷◌, ◌++◌, length, take, drop, get_or, map, reverse, slice_get, slice_set, Result, Ok, Err, OnErr, Option, Some, None, arith}
use Rattle.std.proofs.lemmas.List.{take-append-drop, reverse-append, length-reverse, length-drop, drop_all, map-append, drop-map, take-map, take_more, take_more_set, take_all, length-set, length-map, get_or-set_other}
use Rattle.std.proofs.Math.Seq.{drop-append_seam, take-append_seam}
use Rattle.jo_prog.specs.Values as machine
use Rattle.jo_prog.specs.Machine.{Frame as MachineFrame, popped}
use Rattle.jvm_values.specs.declared.values.Value.{Value}
use Rattle.jvm_values.specs.Values.{value_of, popped_values}
use Rattle.jvm_frames.specs.declared.frames.Frame.{Frame}
use Rattle.jvm_frames.specs.Frames.{frame_of, frames_of, on_top, on_second}

module _ {A : Type 0} where
  -- what is below a place and what is from there on
  parts : (xs : List A) (k : ℕ) → reverse xs ≡ reverse (drop k xs) ++ reverse (take k xs)
  parts xs k = ap reverse (sym (take-append-drop k xs)) ∙ reverse-append (take k xs) (drop k xs)

  height : (xs : List A) (k count : ℕ) → k + count ≡ length xs → length (reverse (drop k xs)) ≡ count
  height xs k count sum =
      let n : length xs - k ≡ count = omega arith in
      length-reverse (drop k xs) ∙ length-drop k xs ∙ n

  kept_below : (xs : List A) (k count : ℕ) → k + count ≡ length xs → reverse (take k xs) ≡ drop count (reverse xs)
  kept_below xs k count sum =
      let front = reverse (drop k xs) in
      let back = reverse (take k xs) in
      sym (ap (drop count) (parts xs k) ∙ ap (λ (n : ℕ). drop n (front ++ back)) (sym (height xs k count sum)) ∙ drop-append_seam front back)

  taken_off : (xs : List A) (k count : ℕ) → k + count ≡ length xs → reverse (drop k xs) ≡ take count (reverse xs)
  taken_off xs k count sum =
      let front = reverse (drop k xs) in
      let back = reverse (take k xs) in
      sym (ap (take count) (parts xs k) ∙ ap (λ (n : ℕ). take n (front ++ back)) (sym (height xs k count sum)) ∙ take-append_seam front back)

  cut : (xs : List A) (count : ℕ) → reverse (take (length xs - count) xs) ≡ drop count (reverse xs)
  cut xs count = by_test (nat_le count (length xs)) refl
    where
      by_test : (b : Bool) → nat_le count (length xs) ≡ b → reverse (take (length xs - count) xs) ≡ drop count (reverse xs)
      by_test true is =
          let within : count ≤ length xs = grind arith in
          kept_below xs (length xs - count) count (omega arith)
      by_test false is =
          let past : length xs < count = grind arith in
          let none : length xs - count ≡ 0 = omega arith in
          let long : length (reverse xs) ≤ count = rw (length-reverse xs) (omega arith) in
          ap (λ (n : ℕ). reverse (take n xs)) none ∙ sym (drop_all count (reverse xs) long)

  -- the last item of a list and those before it
  last_apart : (xs : List A) (n : ℕ) (d : A) → suc n ≡ length xs → reverse xs ≡ get_or xs n d ∷ reverse (take n xs)
  last_apart xs n d last =
      let whole : xs ≡ take n xs ++ get_or xs n d ∷ [] = sym (take_all (n + 1) xs (omega arith)) ∙ take_more xs n d (omega arith) in
      ap reverse whole ∙ reverse-append (take n xs) (get_or xs n d ∷ [])

  last_set : (xs : List A) (n : ℕ) (y : A) → suc n ≡ length xs → reverse (slice_set xs n y) ≡ y ∷ reverse (take n xs)
  last_set xs n y last =
      let fits : length (slice_set xs n y) ≤ n + 1 = rw (length-set xs n y) (omega arith) in
      let whole : slice_set xs n y ≡ take n xs ++ y ∷ [] = sym (take_all (n + 1) (slice_set xs n y) fits) ∙ take_more_set xs n y (omega arith) in
      ap reverse whole ∙ reverse-append (take n xs) (y ∷ [])

-- ---- values

pub values_dropped : (xs : List Value) (count : ℕ) → popped_values (take (length xs - count) xs) ≡ drop count (popped_values xs)
values_dropped xs count = ap (map value_of) (cut xs count) ∙ sym (drop-map value_of count (reverse xs))

pub values_replaced : (xs ys : List Value) (count : ℕ) → popped_values (take (length xs - count) xs ++ ys) ≡ popped_values ys ++ drop count (popped_values xs)
values_replaced xs ys count =
    ap (map value_of) (reverse-append (take (length xs - count) xs) ys) ∙ map-append value_of (reverse ys) (reverse (take (length xs - count) xs))
    ∙ ap (λ (vs : List (machine.Value ℕ)). popped_values ys ++ vs) (values_dropped xs count)

pub values_taken : (xs : List Value) (k count : ℕ) → k + count ≡ length xs → popped_values (drop k xs) ≡ take count (popped_values xs)
values_taken xs k count sum = ap (map value_of) (taken_off xs k count sum) ∙ sym (take-map value_of count (reverse xs))

-- ---- frames

pub top_changed : (xs : List Frame) (n : ℕ) (was is : Frame) (change : MachineFrame → MachineFrame) → suc n ≡ length xs → was ≡ get_or xs n was → frame_of is ≡ change (frame_of was) → frames_of (slice_set xs n is) ≡ on_top change (frames_of xs)
top_changed xs n was is change last read by =
    ap (map frame_of) (last_set xs n is last)
    ∙ ap (λ (f : MachineFrame). f ∷ map frame_of (reverse (take n xs))) (by ∙ ap (λ (f : Frame). change (frame_of f)) read)
    ∙ sym (ap (λ (fs : List Frame). on_top change (map frame_of fs)) (last_apart xs n was last))

-- the frame is as it was
pub top_kept : (xs : List Frame) (n : ℕ) (was is : Frame) → suc n ≡ length xs → was ≡ get_or xs n was → frame_of is ≡ frame_of was → frames_of (slice_set xs n is) ≡ frames_of xs
top_kept xs n was is last read same = top_changed xs n was is (λ f. f) last read same ∙ kept (frames_of xs)
  where
    kept : (fs : List MachineFrame) → on_top (λ f. f) fs ≡ fs
    kept [] = refl
    kept (f ∷ fs) = refl

-- ---- as many values as are popped

pub popped_there : (xs : List Value) (count : ℕ) → count ≤ length xs → Some (popped_values (drop (length xs - count) xs), drop count (popped_values xs)) ≡ popped count (popped_values xs)
popped_there xs count within =
    let long : length (popped_values xs) ≡ length xs = length-map (reverse xs) value_of ∙ length-reverse xs in
    let test : nat_le count (length (popped_values xs)) ≡ true = rw long (grind arith) in
    rw test (ap (λ (vs : List (machine.Value ℕ)). Some (vs, drop count (popped_values xs))) (values_taken xs (length xs - count) count (omega arith)))

pub popped_lacks : (xs : List Value) (count : ℕ) → length xs < count → ◌≡◌ {A = Option (List (machine.Value ℕ) × List (machine.Value ℕ))} None (popped count (popped_values xs))
popped_lacks xs count past =
    let long : length (popped_values xs) ≡ length xs = length-map (reverse xs) value_of ∙ length-reverse xs in
    let test : nat_le count (length (popped_values xs)) ≡ false = rw long (grind arith) in
    rw test refl

-- ---- the frame below the top one

two_apart : {A : Type 0} (xs : List A) (n : ℕ) (d : A) → suc (suc n) ≡ length xs → reverse xs ≡ get_or xs (suc n) d ∷ get_or xs n d ∷ reverse (take n xs)
two_apart xs n d last =
    let more : suc n ≡ n + 1 = omega arith in
    let front : take (suc n) xs ≡ take n xs ++ get_or xs n d ∷ [] = ap (λ (k : ℕ). take k xs) more ∙ take_more xs n d (omega arith) in
    last_apart xs (suc n) d last ∙ ap (λ ys. get_or xs (suc n) d ∷ ys) (ap reverse front ∙ reverse-append (take n xs) (get_or xs n d ∷ []))

two_set : {A : Type 0} (xs : List A) (n : ℕ) (d y : A) → suc (suc n) ≡ length xs → reverse (slice_set xs n y) ≡ get_or xs (suc n) d ∷ y ∷ reverse (take n xs)
two_set xs n d y last =
    let more : suc n ≡ n + 1 = omega arith in
    let whole : suc (suc n) ≡ length (slice_set xs n y) = rw (length-set xs n y) last in
    let front : take (suc n) (slice_set xs n y) ≡ take n xs ++ y ∷ [] = ap (λ (k : ℕ). take k (slice_set xs n y)) more ∙ take_more_set xs n y (omega arith) in
    let top : get_or (slice_set xs n y) (suc n) d ≡ get_or xs (suc n) d = get_or-set_other xs n (suc n) y d (omega arith) in
    last_apart (slice_set xs n y) (suc n) d whole
    ∙ ap (λ x. x ∷ reverse (take (suc n) (slice_set xs n y))) top
    ∙ ap (λ ys. get_or xs (suc n) d ∷ ys) (ap reverse front ∙ reverse-append (take n xs) (y ∷ []))

pub second_at : (xs : List Frame) (n : ℕ) (d : Frame) → suc (suc n) ≡ length xs → Some (frame_of (get_or xs n d)) ≡ slice_get (frames_of xs) 1
second_at xs n d last = sym (ap (λ (ys : List Frame). slice_get (map frame_of ys) 1) (two_apart xs n d last))

pub second_changed : (xs : List Frame) (n : ℕ) (was is : Frame) (change : MachineFrame → MachineFrame) → suc (suc n) ≡ length xs → was ≡ get_or xs n was → frame_of is ≡ change (frame_of was) → frames_of (slice_set xs n is) ≡ on_second change (frames_of xs)
second_changed xs n was is change last read by =
    let top = frame_of (get_or xs (suc n) was) in
    ap (map frame_of) (two_set xs n was is last)
    ∙ ap (λ (f : MachineFrame). top ∷ f ∷ map frame_of (reverse (take n xs))) (by ∙ ap (λ (f : Frame). change (frame_of f)) read)
    ∙ sym (ap (λ (fs : List Frame). on_second change (map frame_of fs)) (two_apart xs n was last))

pub second_kept : (xs : List Frame) (n : ℕ) (was is : Frame) → suc (suc n) ≡ length xs → was ≡ get_or xs n was → frame_of is ≡ frame_of was → frames_of (slice_set xs n is) ≡ frames_of xs
second_kept xs n was is last read same = second_changed xs n was is (λ f. f) last read same ∙ kept (frames_of xs)
  where
    kept : (fs : List MachineFrame) → on_second (λ f. f) fs ≡ fs
    kept [] = refl
    kept (f ∷ []) = refl
    kept (f ∷ g ∷ fs) = refl

-- there is no second frame
pub none_second : (xs : List Frame) (change : MachineFrame → MachineFrame) → length xs < 2 → frames_of xs ≡ on_second change (frames_of xs)
none_second [] change few = refl
none_second (f ∷ []) change few = refl
none_second (f ∷ g ∷ xs) change few = absurd (omega arith)

-- what holds anyway holds where there is an error
pub on_err_anyway : {T E P : Type 0} (r : Result T E) → P → OnErr r P
on_err_anyway (Ok x) p = tt
on_err_anyway (Err e) p = p
