-- Whether a report is right about a graph: each of its nodes and steps is there, its chains are valid and begin as they must,
-- and its chain is illegal for the observer that it names (this project's own). Lines are numbered from 1.
use Rattle.std.specs.Prelude.{◌≡◌, ◌≢◌, ◌⊎◌, ℕ, suc, Bool, true, false, ◌==◌, ◌&&◌, List, [], ◌∷◌, Option, Some, None, Result, Ok, Err, slice_get, option_and_then, option_map}
use Rattle.std.specs.List.{list_any}
use Rattle.std.specs.Str.{bytes_eq}
use Rattle.jo_prog.specs.declared.program.Program.{Program}
use Rattle.jo_prog.specs.declared.labels.Labels.{Labels}
use Rattle.dep_nodes.specs.declared.chains.Word.{Word}
use Rattle.dep_nodes.specs.declared.chains.Word.TheVariants.{Edge, Pass}
use Rattle.dep_nodes.specs.declared.graphs.NodeName.{NodeName}
use Rattle.dep_nodes.specs.declared.dependence_graph.GraphNode.{GraphNode}
use Rattle.dep_nodes.specs.Nodes.{CallSite}
use Rattle.dep_nodes.specs.Chains.{adv}
use Rattle.dep_nodes.specs.GrowingGraphs.{HasEdge}
use Rattle.dep_nodes.specs.NumberedChains.{name_at, IsNumberedPass}
use Rattle.report_texts.specs.declared.lines.ReportKind.TheVariants.{Chain}
use Rattle.report_texts.specs.declared.lines.ReportLine.{ReportLine}
use Rattle.report_texts.specs.declared.lines.ReportLine.TheVariants.{Refused, Observer, Fork, In, After, From, Step}
use Rattle.chain_report.specs.NodeTexts.{node_of}
use Rattle.chain_report.specs.Ends.{are_ends}
use Rattle.chain_report.specs.Report.{level_name}
use Rattle.chain_report.specs.declared.verdicts.VerifyFault.{VerifyFault}
use Rattle.chain_report.specs.declared.verdicts.VerifyFault.TheVariants.{NotAnEdge, NotAChain, NotIllegal, Memory}

-- `find` gives the number of the node that a text names, where the graph has one.

-- ---- what a report says of the graph is there

abbrev pub line_node : (List ℕ → Option ℕ) → ReportLine → Option ℕ
line_node find (Fork text) = find text
line_node find (In text) = find text
line_node find (After text) = find text
line_node find (From text) = find text
line_node find (Step word text) = find text
line_node find _ = None

-- the edge is there, or for `pass` a matched path through a call
abbrev pub StepIsThere : List GraphNode → ℕ → Word → ℕ → Type 0
StepIsThere nodes from (Edge kind) to = HasEdge nodes from kind to
StepIsThere nodes from Pass to = IsNumberedPass nodes from to

-- both nodes are there, and the step between them
abbrev pub LeadsTo : List GraphNode → Option ℕ → Word → Option ℕ → Type 0
LeadsTo nodes None word to = ⊥
LeadsTo nodes (Some from) word to = leads to
  where
    leads : Option ℕ → Type 0
    leads None = ⊥
    leads (Some n) = StepIsThere nodes from word n

-- the node of a line, and the step to it from the node of the line before, are in the graph
abbrev pub IsThere : List GraphNode → (List ℕ → Option ℕ) → Option ℕ → ReportLine → Type 0
IsThere nodes find before (Step word text) = LeadsTo nodes before word (find text)
IsThere nodes find before (Fork text) = find text ≢ None
IsThere nodes find before (In text) = find text ≢ None
IsThere nodes find before (After text) = find text ≢ None
IsThere nodes find before (From text) = find text ≢ None
IsThere nodes find before _ = Unit {0}

-- the number of the first line that isn't there; none where all are
abbrev pub IsFirstMissing : List GraphNode → (List ℕ → Option ℕ) → Option ℕ → ℕ → List ReportLine → Option ℕ → Type 0
IsFirstMissing nodes find before number [] missing = missing ≡ None
IsFirstMissing nodes find before number (line ∷ lines) missing =
    (IsThere nodes find before line × IsFirstMissing nodes find (line_node find line) (suc number) lines missing)
    ⊎ ((IsThere nodes find before line → ⊥) × (missing ≡ Some number))

-- ---- its chains are valid

-- the node of the line before, the calls that are open there, and where the next two chains must begin, if anywhere
pub record Progress : Type 0 where
  pub at : Option ℕ
  pub calls : List CallSite
  pub first : Option ℕ
  pub second : Option ℕ

abbrev pub beginning : Progress
beginning = record { at = None; calls = []; first = None; second = None }

-- the calls that are open behind a step, where it may stand in a valid chain there
abbrev pub calls_behind : List GraphNode → List CallSite → ℕ → Word → ℕ → Option (List CallSite)
calls_behind nodes calls from (Edge kind) to = adv calls (name_at nodes from) kind (name_at nodes to)
calls_behind nodes calls from Pass to = Some calls

abbrev pub stepped : List GraphNode → Progress → Word → Option ℕ → Option Progress
stepped nodes p word to = step_from p.at to
  where
    step_from : Option ℕ → Option ℕ → Option Progress
    step_from (Some from) (Some n) = option_map (λ calls. record p { at = Some n; calls = calls }) (calls_behind nodes p.calls from word n)
    step_from (Some from) None = None
    step_from None n = None

-- a chain may begin at that node
abbrev pub may_begin : Option ℕ → Option ℕ → Bool
may_begin None from = true
may_begin (Some must) None = false
may_begin (Some must) (Some from) = must == from

abbrev pub begun : Bool → Progress → Option ℕ → Option Progress
begun false p from = None
begun true p from = Some (record { at = from; calls = []; first = p.second; second = None })

-- behind a line; none where the steps of its chain so far are no prefix of a valid chain, or a chain begins where it must not
abbrev pub progress_behind : List GraphNode → (List ℕ → Option ℕ) → Progress → ReportLine → Option Progress
progress_behind nodes find p (In text) = Some (record p { first = find text })
progress_behind nodes find p (After text) = Some (record p { second = find text })
progress_behind nodes find p (From text) = begun (may_begin p.first (find text)) p (find text)
progress_behind nodes find p (Step word text) = stepped nodes p word (find text)
progress_behind nodes find p _ = Some p

-- the number of the first such line
abbrev pub first_unchained : List GraphNode → (List ℕ → Option ℕ) → Progress → ℕ → List ReportLine → Option ℕ
first_unchained nodes find p number [] = None
first_unchained nodes find p number (line ∷ lines) = go_on (progress_behind nodes find p line) (λ q. first_unchained nodes find q (suc number) lines)
  where
    go_on : Option Progress → (Progress → Option ℕ) → Option ℕ
    go_on None more = Some number
    go_on (Some q) more = more q

-- ---- its chain is illegal

-- the report is on a chain
abbrev pub is_on_chain : List ReportLine → Bool
is_on_chain [] = false
is_on_chain (Refused Chain ∷ lines) = true
is_on_chain (Refused _ ∷ lines) = false
is_on_chain (_ ∷ lines) = is_on_chain lines

-- the observer's name
abbrev pub observer_in : List ReportLine → Option (List ℕ)
observer_in [] = None
observer_in (Observer name ∷ lines) = Some name
observer_in (_ ∷ lines) = observer_in lines

-- where the first chain begins
abbrev pub start_in : (List ℕ → Option ℕ) → List ReportLine → Option ℕ
start_in find [] = None
start_in find (From text ∷ lines) = find text
start_in find (_ ∷ lines) = start_in find lines

-- the node at which the last chain ends, where that so far ends there
abbrev pub node_behind : (List ℕ → Option ℕ) → Option ℕ → ReportLine → Option ℕ
node_behind find before (From text) = find text
node_behind find before (Step word text) = find text
node_behind find before _ = before

abbrev pub end_in : (List ℕ → Option ℕ) → Option ℕ → List ReportLine → Option ℕ
end_in find before [] = before
end_in find before (line ∷ lines) = end_in find (node_behind find before line) lines

abbrev pub name_numbered : List GraphNode → Option ℕ → Option NodeName
name_numbered nodes number = option_map (λ (node : GraphNode). node.name) (option_and_then (slice_get nodes) number)

-- the observer has that name, and a chain between these nodes is illegal for it
abbrev pub is_illegal_at : Labels → List GraphNode → List ℕ → Option ℕ → Option ℕ → ℕ → Bool
is_illegal_at labels nodes name start end l = bytes_eq (level_name labels l) name && are_ends labels l (name_numbered nodes start) (name_numbered nodes end)

-- an observer of that name, for whom a chain between these nodes is illegal
abbrev pub is_illegal_for : Labels → List GraphNode → Option (List ℕ) → Option ℕ → Option ℕ → Bool
is_illegal_for labels nodes None start end = false
is_illegal_for labels nodes (Some name) start end = list_any (is_illegal_at labels nodes name start end) labels.observers

-- the report is on a chain that is illegal for the observer that it names
abbrev pub is_illegal : Labels → List GraphNode → (List ℕ → Option ℕ) → List ReportLine → Bool
is_illegal labels nodes find lines = is_on_chain lines && is_illegal_for labels nodes (observer_in lines) (start_in find lines) (end_in find None lines)

-- ---- the verdict

-- The first fault that applies. A report on a conflict is on no chain, so where its nodes, steps and chains are right it isn't
-- illegal; a graph without a fork has no conflict.
abbrev pub IsVerdictBy : {A : Type 0} → Labels → List GraphNode → (List ℕ → Option ℕ) → List ReportLine → Result A VerifyFault → Type 0
IsVerdictBy labels nodes find lines (Ok right) =
    IsFirstMissing nodes find None 1 lines None × (first_unchained nodes find beginning 1 lines ≡ None) × (is_illegal labels nodes find lines ≡ true)
IsVerdictBy labels nodes find lines (Err (NotAnEdge line)) = IsFirstMissing nodes find None 1 lines (Some line)
IsVerdictBy labels nodes find lines (Err (NotAChain line)) =
    IsFirstMissing nodes find None 1 lines None × (first_unchained nodes find beginning 1 lines ≡ Some line)
IsVerdictBy labels nodes find lines (Err NotIllegal) =
    IsFirstMissing nodes find None 1 lines None × (first_unchained nodes find beginning 1 lines ≡ None) × (is_illegal labels nodes find lines ≡ false)
IsVerdictBy labels nodes find lines (Err Memory) = Unit {0}

-- the same, where texts name the nodes by their spellings
abbrev pub IsVerdict : {A : Type 0} → Program → Labels → List GraphNode → List ReportLine → Result A VerifyFault → Type 0
IsVerdict program labels nodes lines answer = IsVerdictBy labels nodes (node_of program nodes) lines answer
