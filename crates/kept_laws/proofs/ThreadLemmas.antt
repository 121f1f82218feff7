-- A typed state stays typed where a thread has other frames that are typed.
use Rattle.std.proofs.Common.{◌≡◌, ◌∙◌, ℕ, List, Option, Some, refl, sym, ap, subst, inl, inr}
use Rattle.std.specs.Prelude.{slice_get}
use Rattle.jo_prog.specs.declared.program.Program.{Program}
use Rattle.jo_prog.specs.InsnTyping.{throwable}
use Rattle.jo_prog.specs.Machine.{Frame, Thread, State}
use Rattle.machine.specs.Steps.{object_of, with_frames}
use Rattle.step_laws.specs.TypedStates.{AreFrames, StandsAt, IsTypedThread, IsTypedState}
use Rattle.step_laws.proofs.KeptLemmas.{set_read}

module _ (s : State) (t : ℕ) (thread : Thread) (at : slice_get s.threads t ≡ Some thread) (frames : List Frame) (pending : Option ℕ) where
  abbrev own : Thread
  own = record { frames = frames; pending = pending; object = object_of (slice_get s.threads t) }

  own_object : own.object ≡ thread.object
  own_object = ap object_of at

  -- the same thread object stood there before
  pub before : (u : ℕ) (other : Thread) → slice_get (with_frames s t frames pending).threads u ≡ Some other → (old : Thread) × (slice_get s.threads u ≡ Some old) × (old.object ≡ other.object)
  before u other there = elim (set_read s.threads t u other own there) [
    | inl both ↦ (thread, ap (slice_get s.threads) both.0 ∙ at, sym own_object ∙ sym (ap (λ (x : Thread). x.object) both.1))
    | inr old ↦ (other, old, refl)
  ]

  module _ (program : Program) (state : IsTypedState program s) (held : AreFrames program s.heap pending frames) (thrown : (a : ℕ) → pending ≡ Some a → StandsAt program s.heap a throwable) where
    own_typed : IsTypedThread program s.heap own
    own_typed = record { frames = held; thrown = thrown; started = λ a is. (state.threads t thread at).started a (sym own_object ∙ is) }

    all_set : IsTypedState program (with_frames s t frames pending)
    all_set = record {
      objects = state.objects;
      texts = state.texts;
      count = state.count;
      statics = state.statics;
      cursors = state.cursors;
      threads = λ u other there. elim (set_read s.threads t u other own there) [
        | inl both ↦ subst (IsTypedThread program s.heap) (sym both.1) own_typed
        | inr old ↦ state.threads u other old
      ];
      first_alone = λ u other there none. let old = before u other there in state.first_alone u old.0 old.1 (old.2 ∙ none);
      one_each = λ u w one other a first second is_one is_other.
          let old = before u one first in
          let older = before w other second in
          state.one_each u w old.0 older.0 a old.1 older.1 (old.2 ∙ is_one) (older.2 ∙ is_other);
    }

pub frames_set : (program : Program) (s : State) → IsTypedState program s → (t : ℕ) (thread : Thread) → slice_get s.threads t ≡ Some thread → (frames : List Frame) (pending : Option ℕ)
    → AreFrames program s.heap pending frames → ((a : ℕ) → pending ≡ Some a → StandsAt program s.heap a throwable) → IsTypedState program (with_frames s t frames pending)
frames_set program s state t thread at frames pending held thrown = all_set s t thread at frames pending program state held thrown
