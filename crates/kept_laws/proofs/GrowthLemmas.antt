-- States whose heap has grown, with the same threads.
use Rattle.std.proofs.Common.{◌≡◌, ℕ, suc, zero, List, [], ◌∷◌, ◌++◌, length, Option, Some, refl, sym, subst}
use Rattle.std.specs.Prelude.{slice_get, slice_set}
use Rattle.jo_prog.specs.declared.program.Program.{Program}
use Rattle.jo_prog.specs.Values.{Value, Cell}
use Rattle.jo_prog.specs.Machine.{HeapObject, State}
use Rattle.machine.specs.Heaps.{with_content, on_object, field_written, element_written, with_new}
use Rattle.step_laws.specs.TypedStates.{Pairwise, no_more, one_more}
use Rattle.step_laws.specs.Growth.{GrowsTo}
use Rattle.step_laws.specs.Effects.{TakesValue, in_field, in_element, in_static}
use Rattle.step_laws.proofs.KeptLemmas.{changed_grows}
use Rattle.step_laws.proofs.NewLemmas.{push_kept}

-- ---- lists

pub pushed_there : {X : Type 0} (xs : List X) (y : X) → slice_get (xs ++ y ∷ []) (length xs) ≡ Some y
pushed_there [] y = refl
pushed_there (z ∷ zs) y = pushed_there zs y

pub pairwise_append : {A B : Type 0} (P : A → B → Type 0) (xs : List A) (ys : List B) (more : List A) (others : List B) → Pairwise P xs ys → Pairwise P more others → Pairwise P (xs ++ more) (ys ++ others)
pairwise_append P xs ys more others no_more rest = rest
pairwise_append P xs ys more others (one_more x y xs' ys' h later) rest = one_more x y (xs' ++ more) (ys' ++ others) h (pairwise_append P xs' ys' more others later rest)

pub pairwise_set : {A B : Type 0} (P : A → B → Type 0) (xs : List A) (ys : List B) (k : ℕ) (x : A) (y : B) → P x y → Pairwise P xs ys → Pairwise P (slice_set xs k x) (slice_set ys k y)
pairwise_set P xs ys k x y h no_more = no_more
pairwise_set P xs ys zero x y h (one_more x' y' xs' ys' h' later) = one_more x y xs' ys' h later
pairwise_set P xs ys (suc k) x y h (one_more x' y' xs' ys' h' later) = one_more x' y' (slice_set xs' k x) (slice_set ys' k y) h' (pairwise_set P xs' ys' k x y h later)

-- ---- growth

pub record IsGrown (s new : State) : Type 0 where
  pub threads : new.threads ≡ s.threads
  pub grows : GrowsTo s.heap new.heap

pub not_grown : (s : State) → IsGrown s s
not_grown s = record { threads = refl; grows = record { keeps = λ a o is. record { found = o; is_there = is; same_info = refl; started = λ h. h } } }

pub written_grown : (program : Program) (s : State) (cell : Cell ℕ) (v : Value ℕ) → TakesValue program s cell v → IsGrown s (with_content s cell v)
written_grown program s cell v (in_field a f o c _ is info content) =
    subst (λ (x : Option HeapObject). IsGrown s (on_object s a x (λ p. field_written p f v))) (sym is)
    (record { threads = refl; grows = changed_grows s.heap a o (field_written o f v) is refl (λ h. h) })
written_grown program s cell v (in_element a i o type count _ is info holds) =
    subst (λ (x : Option HeapObject). IsGrown s (on_object s a x (λ p. element_written p i v))) (sym is)
    (record { threads = refl; grows = changed_grows s.heap a o (element_written o i v) is refl (λ h. h) })
written_grown program s cell v (in_static f _ content) =
    record { threads = refl; grows = record { keeps = λ a o is. record { found = o; is_there = is; same_info = refl; started = λ h. h } } }

pub new_grown : (s : State) (o : HeapObject) → IsGrown s (with_new s o)
new_grown s o = record { threads = refl; grows = record { keeps = λ a p is. record { found = p; is_there = push_kept s.heap o a p is; same_info = refl; started = λ h. h } } }
