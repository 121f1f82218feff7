-- What the effects of this crate stand for.
use Rattle.std.specs.Prelude.{ℕ, List, [], ◌∷◌, map, Option, Some, None}
use Rattle.jo_prog.specs.declared.program.TypeRef.TheVariants.{Class as OfClass}
use Rattle.jo_prog.specs.Typing.{Int}
use Rattle.jo_prog.specs.Shapes.{Need, Anything, AnInt, AReference, OfEach, Nothing, Origin, Always, OfStack, OfLocal, Same, Reference, Effect}
use Rattle.typing_effects.specs.declared.effects.Need.{Need as NeedHere}
use Rattle.typing_effects.specs.declared.effects.Need.TheVariants.{Anything as AnythingHere, Of as AskOf, OfType, OfTypeAnd, Nothing as NothingHere}
use Rattle.typing_effects.specs.declared.effects.Pushes.{Pushes}
use Rattle.typing_effects.specs.declared.effects.Pushes.TheVariants.{Of as PushOf, One, Local, Copies}
use Rattle.typing_effects.specs.declared.effects.Access.{Access}
use Rattle.typing_effects.specs.declared.effects.Access.TheVariants.{Nothing as NoAccess, Int as IntAccess, Reference as ReferenceAccess}
use Rattle.typing_effects.specs.declared.effects.Effect.{Effect as EffectHere}
use Rattle.typing_effects.specs.Forms.{ask_in, push_in}
use Rattle.typing_effects.specs.Kinds.{kind_in}

abbrev pub need_in : NeedHere → Need
need_in AnythingHere = Anything
need_in (AskOf ask) = ask_in ask
need_in (OfType type) = OfEach (type ∷ [])
need_in (OfTypeAnd type class) = OfEach (type ∷ OfClass class ∷ [])
need_in NothingHere = Nothing

abbrev pub pushes_in : Pushes → List Origin
pushes_in (PushOf push) = push_in push
pushes_in (One kind) = Always (kind_in kind) ∷ []
pushes_in (Local k) = OfLocal k Reference ∷ []
pushes_in (Copies places) = map (λ k. OfStack k Same) places.now

abbrev pub reads_in : Access → Option (ℕ × Need)
reads_in NoAccess = None
reads_in (IntAccess k) = Some (k, AnInt)
reads_in (ReferenceAccess k) = Some (k, AReference)

abbrev pub writes_in : Access → Option (ℕ × Origin)
writes_in NoAccess = None
writes_in (IntAccess k) = Some (k, Always Int)
writes_in (ReferenceAccess k) = Some (k, OfStack 0 Reference)

abbrev pub effect_in : EffectHere → Effect
effect_in effect = record {
  pops = map need_in effect.pops.items;
  pushes = pushes_in effect.pushes;
  reads = reads_in effect.reads;
  writes = writes_in effect.writes;
  wrong = effect.wrong;
}
