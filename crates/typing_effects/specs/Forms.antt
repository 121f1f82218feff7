-- What the forms of this crate stand for.
use Rattle.std.specs.Prelude.{ℕ, List, [], ◌∷◌, Option, Some, None}
use Rattle.jo_prog.specs.Typing.{Kind, Int, Null}
use Rattle.jo_prog.specs.Shapes.{Need, AnInt, AReference, AnArray, ArrayOfReferences, ArrayOf, Origin, Always, OfStack, Element, Effect}
use Rattle.jo_prog.specs.InsnTyping.{element_letters, stack_effect, moves, loads_int, loads_reference, stores_int, stores_reference, steps_int, wrong_effect, first_of, leaving_effect}
use Rattle.typing_effects.specs.declared.forms.Ask.{Ask}
use Rattle.typing_effects.specs.declared.forms.Ask.TheVariants.{AnInt as AskInt, AReference as AskReference, AnArray as AskArray, ArrayOfReferences as AskReferences, ArrayOf as AskElements}
use Rattle.typing_effects.specs.declared.forms.Push.{Push}
use Rattle.typing_effects.specs.declared.forms.Push.TheVariants.{Nothing, Int as PushInt, Null as PushNull, Element as PushElement}
use Rattle.typing_effects.specs.declared.forms.Form.{Form}
use Rattle.typing_effects.specs.declared.forms.Form.TheVariants.{PopNone, PopOne, PopTwo, PopThree, LoadInt, LoadReference, StoreInt, StoreReference, Step, Move, Wrong}

abbrev pub ask_in : Ask → Need
ask_in AskInt = AnInt
ask_in AskReference = AReference
ask_in AskArray = AnArray
ask_in AskReferences = ArrayOfReferences
ask_in (AskElements op) = ArrayOf (element_letters op)

abbrev pub push_in : Push → List Origin
push_in Nothing = []
push_in PushInt = Always Int ∷ []
push_in PushNull = Always Null ∷ []
push_in PushElement = OfStack 1 Element ∷ []

abbrev pub form_in : Form → Effect
form_in (PopNone push) = stack_effect [] (push_in push)
form_in (PopOne a push) = stack_effect (ask_in a ∷ []) (push_in push)
form_in (PopTwo a b push) = stack_effect (ask_in a ∷ ask_in b ∷ []) (push_in push)
form_in (PopThree a b c) = stack_effect (ask_in a ∷ ask_in b ∷ ask_in c ∷ []) []
form_in (LoadInt k) = loads_int k
form_in (LoadReference k) = loads_reference k
form_in (StoreInt k) = stores_int k
form_in (StoreReference k) = stores_reference k
form_in (Step k) = steps_int k
form_in (Move count places) = moves count places.now
form_in Wrong = wrong_effect

-- an instruction without operands that has no such form leaves the method, or isn't of the profile
abbrev pub plain_by : Option Effect → Option Kind → ℕ → Effect
plain_by None kind op = first_of (leaving_effect kind op) wrong_effect
plain_by (Some effect) kind op = effect
