-- What comes of a call, by the shapes of its values.
use Rattle.std.specs.Prelude.{◌≡◌, refl, ℕ, Bool, List, [], ◌∷◌, Some}
use Rattle.jo_prog.specs.declared.labels.Label.TheVariants.{Source, Sink, Release}
use Rattle.jo_prog.specs.declared.calls.Taken.TheVariants.{Start, Join}
use Rattle.jo_prog.specs.Values.{Value, int, null, ref, Info}
use Rattle.machine.specs.Invocation.{Callee, natively, by_taken, by_receiver}
use Rattle.jvm_calls.specs.Operands.{no_value, one_int, one_object, receiver_of}
use Rattle.jvm_calls.specs.Invokes.{asked, shown, released, starting, joining, received}

pub source_asked : (m level : ℕ) (vs : List (Value ℕ)) → asked m (no_value vs) ≡ natively m (Some (Source level)) vs
source_asked m level [] = refl
source_asked m level (v ∷ vs) = refl

pub sink_shown : (m level : ℕ) (vs : List (Value ℕ)) → shown m (one_int vs) ≡ natively m (Some (Sink level)) vs
sink_shown m level [] = refl
sink_shown m level (int z ∷ []) = refl
sink_shown m level (int z ∷ v ∷ vs) = refl
sink_shown m level (null ∷ vs) = refl
sink_shown m level (ref a ∷ vs) = refl

pub release_released : (m from to : ℕ) (vs : List (Value ℕ)) → released m (one_int vs) ≡ natively m (Some (Release from to)) vs
release_released m from to [] = refl
release_released m from to (int z ∷ []) = refl
release_released m from to (int z ∷ v ∷ vs) = refl
release_released m from to (null ∷ vs) = refl
release_released m from to (ref a ∷ vs) = refl

pub taken_start : (callee : Callee) (info : ℕ → Info) (started : ℕ → Bool) (vs : List (Value ℕ)) → starting callee info started (one_object vs) ≡ by_taken callee info started Start vs
taken_start callee info started [] = refl
taken_start callee info started (int z ∷ vs) = refl
taken_start callee info started (null ∷ vs) = refl
taken_start callee info started (ref a ∷ []) = refl
taken_start callee info started (ref a ∷ v ∷ vs) = refl

pub taken_join : (callee : Callee) (info : ℕ → Info) (started : ℕ → Bool) (vs : List (Value ℕ)) → joining (one_object vs) ≡ by_taken callee info started Join vs
taken_join callee info started [] = refl
taken_join callee info started (int z ∷ vs) = refl
taken_join callee info started (null ∷ vs) = refl
taken_join callee info started (ref a ∷ []) = refl
taken_join callee info started (ref a ∷ v ∷ vs) = refl

pub receiver_received : (callee : Callee) (info : ℕ → Info) (started : ℕ → Bool) (vs : List (Value ℕ)) → received callee info started vs (receiver_of vs) ≡ by_receiver callee info started vs
receiver_received callee info started [] = refl
receiver_received callee info started (int z ∷ vs) = refl
receiver_received callee info started (null ∷ vs) = refl
receiver_received callee info started (ref a ∷ vs) = refl
