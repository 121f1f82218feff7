-- The first frame.
use Rattle.std.proofs.Common.{◌≡◌, ◌∙◌, sym, ap, refl, ℕ, zero, suc, Bool, true, false, List, [], ◌∷◌, ◌++◌, length, replicate, slice_set, Option, Some, None, option_map, arith}
use Rattle.std.specs.Option.{option_to_list}
use Rattle.std.proofs.lemmas.List.{take-replicate, append-nil}
use Rattle.jo_prog.specs.declared.program.Program.{Program}
use Rattle.jo_prog.specs.declared.program.Code.{Code}
use Rattle.jo_prog.specs.declared.labels.Labels.{Labels}
use Rattle.jo_prog.specs.Program.{method_at}
use Rattle.jo_prog.specs.Values.{Value, ref}
use Rattle.jo_prog.specs.Constants.{string_constants, takes_arguments, arguments_address}
use Rattle.jo_prog.specs.Machine.{Frame, string_object, no_arguments, first_heap, first_locals, first_frame}
use Rattle.machine.specs.Steps.{locals_of, frame_of}

unset : (count : ℕ) → locals_of count [] ≡ replicate count None
unset count = take-replicate count count None (omega arith)

first_set : (count a : ℕ) → locals_of count (ref a ∷ []) ≡ slice_set (replicate count None) 0 (Some (ref a))
first_set zero a = refl
first_set (suc count) a = ap (λ (ls : List (Option (Value ℕ))). Some (ref a) ∷ ls) (take-replicate count (suc count) None (omega arith))

framed_with : (m : ℕ) (locals others : List (Option (Value ℕ))) → locals ≡ others → ◌≡◌ {A = List Frame} (record { method = m; pc = 0; locals = locals; stack = [] } ∷ []) (record { method = m; pc = 0; locals = others; stack = [] } ∷ [])
framed_with m locals others is = ap (λ (ls : List (Option (Value ℕ))). let f : Frame = record { method = m; pc = 0; locals = ls; stack = [] } in f ∷ []) is

module _ (program : Program) (m : ℕ) where
  pub frame_without : (code : Option Code) → takes_arguments (method_at program m) ≡ false → option_to_list (option_map (frame_of m []) code) ≡ first_frame program m code
  frame_without None none = refl
  frame_without (Some code) none = framed_with m _ _ (unset code.max_locals ∙ ap (λ (b : Bool). first_locals b code.max_locals (arguments_address program)) (sym none))

  pub frame_with : (code : Option Code) (a : ℕ) → takes_arguments (method_at program m) ≡ true → a ≡ length (string_constants program) → option_to_list (option_map (frame_of m (ref a ∷ [])) code) ≡ first_frame program m code
  unfolding arguments_address
  frame_with None a takes place = refl
  frame_with (Some code) a takes place =
      framed_with m _ _
      (first_set code.max_locals a
      ∙ ap (λ (b : ℕ). slice_set (replicate code.max_locals None) 0 (Some (ref b))) place
      ∙ ap (λ (b : Bool). first_locals b code.max_locals (arguments_address program)) (sym takes))

-- ---- the heap

module _ (program : Program) (labels : Labels) (n : ℕ) (count : n ≡ length (string_constants program)) where
  pub heap_without : takes_arguments (method_at program labels.entry) ≡ false → replicate n string_object ≡ first_heap program labels
  unfolding first_heap
  heap_without none = rw (none, append-nil) (ap (λ (k : ℕ). replicate k string_object) count)

  pub heap_with : takes_arguments (method_at program labels.entry) ≡ true → replicate n string_object ++ no_arguments ∷ [] ≡ first_heap program labels
  unfolding first_heap
  heap_with takes = rw takes (ap (λ (k : ℕ). replicate k string_object ++ no_arguments ∷ []) count)
