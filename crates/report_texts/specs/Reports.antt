-- Reports as texts (this project's own): which lines stand in one, in which order, and how each is spelled.
use Rattle.std.specs.Prelude.{◌≡◌, ℕ, List, [], ◌∷◌, ◌++◌, codes}
use Rattle.std.specs.List.{AllByRecursion, flat_map}
use Rattle.dep_nodes.specs.declared.kinds.EdgeKind.TheVariants as Edges
use Rattle.dep_nodes.specs.declared.chains.Word.{Word}
use Rattle.dep_nodes.specs.declared.chains.Word.TheVariants.{Edge, Pass}
use Rattle.report_texts.specs.Parts.{IsOneOf}
use Rattle.report_texts.specs.NodeTexts.{IsNameText, IsNodeText}
use Rattle.jo_text.specs.Texts.{StopsAt}
use Rattle.report_texts.specs.declared.reading.ReadFault.{ReadFault}
use Rattle.report_texts.specs.declared.reading.ReadFault.TheVariants.{Text, Memory}
use Rattle.report_texts.specs.declared.lines.ReportKind.{ReportKind}
use Rattle.report_texts.specs.declared.lines.ReportKind.TheVariants.{Chain, Order, Data}
use Rattle.report_texts.specs.declared.lines.ReportLine.{ReportLine}
use Rattle.report_texts.specs.declared.lines.ReportLine.TheVariants as Lines
use Rattle.report_texts.specs.declared.words.Head.{Head}
use Rattle.report_texts.specs.declared.words.Head.TheVariants.{Title, Refused, Observer, Fork, In, After, From, Step, End}
use Rattle.report_texts.specs.declared.words.Awaited.{Awaited}
use Rattle.report_texts.specs.declared.words.Awaited.TheVariants as Awaits

-- ---- how lines are spelled: the word or words that a line begins with, and what follows up to its line feed

abbrev pub spelled_step : Word → List ℕ
spelled_step (Edge Edges.Data) = codes "data "
spelled_step (Edge Edges.Control) = codes "control "
spelled_step (Edge Edges.Out) = codes "out "
spelled_step (Edge Edges.Arg) = codes "arg "
spelled_step (Edge Edges.Call) = codes "call "
spelled_step (Edge Edges.Ret) = codes "ret "
spelled_step (Edge Edges.Heap) = codes "heap "
spelled_step (Edge Edges.Fork) = codes "fork "
spelled_step Pass = codes "pass "

abbrev pub spelled_refusal : ReportKind → List ℕ
spelled_refusal Chain = codes "refused chain\n"
spelled_refusal Order = codes "refused conflict order\n"
spelled_refusal Data = codes "refused conflict data\n"

abbrev pub spelled_head : Head → List ℕ
spelled_head Title = codes "joana report 1\n"
spelled_head (Refused kind) = spelled_refusal kind
spelled_head Observer = codes "observer "
spelled_head Fork = codes "fork "
spelled_head In = codes "in "
spelled_head After = codes "after "
spelled_head From = codes "from "
spelled_head (Step word) = spelled_step word
spelled_head End = codes "end\n"

abbrev pub head_of : ReportLine → Head
head_of Lines.Title = Title
head_of (Lines.Refused kind) = Refused kind
head_of (Lines.Observer level) = Observer
head_of (Lines.Fork node) = Fork
head_of (Lines.In node) = In
head_of (Lines.After node) = After
head_of (Lines.From node) = From
head_of (Lines.Step word node) = Step word
head_of Lines.End = End

abbrev pub ended : List ℕ → List ℕ
ended text = text ++ 10 ∷ []

abbrev pub tail_of : ReportLine → List ℕ
tail_of Lines.Title = []
tail_of (Lines.Refused kind) = []
tail_of (Lines.Observer level) = ended level
tail_of (Lines.Fork node) = ended node
tail_of (Lines.In node) = ended node
tail_of (Lines.After node) = ended node
tail_of (Lines.From node) = ended node
tail_of (Lines.Step word node) = ended node
tail_of Lines.End = []

abbrev pub line_text : ReportLine → List ℕ
line_text line = spelled_head (head_of line) ++ tail_of line

-- a line names a level or a node
abbrev pub IsSpelled : ReportLine → Type 0
IsSpelled Lines.Title = Unit {0}
IsSpelled (Lines.Refused kind) = Unit {0}
IsSpelled (Lines.Observer level) = IsNameText level
IsSpelled (Lines.Fork node) = IsNodeText node
IsSpelled (Lines.In node) = IsNodeText node
IsSpelled (Lines.After node) = IsNodeText node
IsSpelled (Lines.From node) = IsNodeText node
IsSpelled (Lines.Step word node) = IsNodeText node
IsSpelled Lines.End = Unit {0}

-- ---- which lines may come

abbrev pub steps_or : Head → List Head
steps_or last = Step (Edge Edges.Data) ∷ Step (Edge Edges.Control) ∷ Step (Edge Edges.Out) ∷ Step (Edge Edges.Arg) ∷ Step (Edge Edges.Call)
    ∷ Step (Edge Edges.Ret) ∷ Step (Edge Edges.Heap) ∷ Step (Edge Edges.Fork) ∷ Step Pass ∷ last ∷ []

-- how the next line may begin
abbrev pub heads_of : Awaited → List Head
heads_of Awaits.Title = Title ∷ []
heads_of Awaits.Refused = Refused Chain ∷ Refused Order ∷ Refused Data ∷ []
heads_of (Awaits.Observer kind) = Observer ∷ []
heads_of (Awaits.Fork kind) = Fork ∷ []
heads_of (Awaits.In kind) = In ∷ []
heads_of (Awaits.After kind) = After ∷ []
heads_of Awaits.FirstChain = From ∷ []
heads_of Awaits.FirstSteps = steps_or From
heads_of Awaits.LastChain = From ∷ []
heads_of Awaits.LastSteps = steps_or End
heads_of Awaits.End = End ∷ []
heads_of Awaits.Nothing = []

-- A report on a chain has that one behind its observer, and one on a conflict three nodes. Where the conflict is one of
-- data, two chains follow these.
abbrev pub behind_observer : ReportKind → Awaited
behind_observer Chain = Awaits.LastChain
behind_observer Order = Awaits.Fork Order
behind_observer Data = Awaits.Fork Data

abbrev pub behind_nodes : ReportKind → Awaited
behind_nodes Data = Awaits.FirstChain
behind_nodes _ = Awaits.End

abbrev pub behind_refusal : Head → Awaited
behind_refusal (Refused kind) = Awaits.Observer kind
behind_refusal _ = Awaits.Nothing

abbrev pub behind_first_step : Head → Awaited
behind_first_step From = Awaits.LastSteps
behind_first_step _ = Awaits.FirstSteps

abbrev pub behind_last_step : Head → Awaited
behind_last_step End = Awaits.Nothing
behind_last_step _ = Awaits.LastSteps

-- what is awaited behind a line
abbrev pub behind : Awaited → Head → Awaited
behind Awaits.Title head = Awaits.Refused
behind Awaits.Refused head = behind_refusal head
behind (Awaits.Observer kind) head = behind_observer kind
behind (Awaits.Fork kind) head = Awaits.In kind
behind (Awaits.In kind) head = Awaits.After kind
behind (Awaits.After kind) head = behind_nodes kind
behind Awaits.FirstChain head = Awaits.FirstSteps
behind Awaits.FirstSteps head = behind_first_step head
behind Awaits.LastChain head = Awaits.LastSteps
behind Awaits.LastSteps head = behind_last_step head
behind Awaits.End head = Awaits.Nothing
behind Awaits.Nothing head = Awaits.Nothing

-- the lines may stand where this is awaited, and are all that follow
abbrev pub MayCome : Awaited → List ReportLine → Type 0
MayCome awaited [] = awaited ≡ Awaits.Nothing
MayCome awaited (line ∷ lines) = IsOneOf (heads_of awaited) (head_of line) × MayCome (behind awaited (head_of line)) lines

-- the text is that of these lines, which may stand where this is awaited
pub record AreRest (awaited : Awaited) (lines : List ReportLine) (text : List ℕ) : Type 0 where
  pub order : MayCome awaited lines
  pub spelled : AllByRecursion IsSpelled lines
  pub whole : text ≡ flat_map line_text lines

-- the text is a report, and this is what it says
abbrev pub IsReport : List ReportLine → List ℕ → Type 0
IsReport lines text = AreRest Awaits.Title lines text

abbrev pub IsReportText : List ℕ → Type 0
IsReportText text = (lines : List ReportLine) × IsReport lines text

-- What a fault says of the text: where it stops being a report.
abbrev pub IsFault : List ℕ → ReadFault → Type 0
IsFault text (Text place) = StopsAt IsReportText text place
IsFault text Memory = Unit {0}
