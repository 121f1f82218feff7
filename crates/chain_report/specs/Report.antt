-- The texts of reports: on an illegal chain and on a conflict (this project's own).
use Rattle.std.specs.Prelude.{ℕ, ◌<◌, Bool, true, false, List, [], ◌∷◌, ◌++◌, map, Option, Some, None, codes, slice_get, All}
use Rattle.std.specs.List.{flat_map}
use Rattle.jo_prog.specs.declared.program.Program.{Program}
use Rattle.jo_prog.specs.declared.labels.Labels.{Labels}
use Rattle.dep_nodes.specs.declared.kinds.EdgeKind.{EdgeKind}
use Rattle.dep_nodes.specs.declared.kinds.EdgeKind.TheVariants.{Data, Control, Out, Arg, Call, Ret, Heap, Fork}
use Rattle.dep_nodes.specs.declared.chains.Word.{Word}
use Rattle.dep_nodes.specs.declared.chains.Word.TheVariants.{Edge, Pass}
use Rattle.dep_nodes.specs.declared.chains.Step.{Step}
use Rattle.dep_nodes.specs.declared.chains.Chain.{Chain}
use Rattle.dep_nodes.specs.declared.dependence_graph.GraphNode.{GraphNode}
use Rattle.dep_nodes.specs.Nodes.{Node}
use Rattle.dep_nodes.specs.Chains.{Link}
use Rattle.dep_nodes.specs.Graphs.{link_to}
use Rattle.dep_nodes.specs.NumberedChains.{name_at}
use Rattle.thread_regions.specs.declared.conflicting.Conflict.{Conflict}
use Rattle.chain_report.specs.declared.reports.Report.{Report}
use Rattle.chain_report.specs.declared.reports.Body.{Body}
use Rattle.chain_report.specs.declared.reports.Body.TheVariants.{Chain as ChainBody, Conflict as ConflictBody}
use Rattle.chain_report.specs.Nodes.{spelled_node}
use Rattle.jo_text.specs.Escapes.{escaped}

abbrev pub spelled_edge : EdgeKind → List ℕ
spelled_edge Data = codes "data"
spelled_edge Control = codes "control"
spelled_edge Out = codes "out"
spelled_edge Arg = codes "arg"
spelled_edge Call = codes "call"
spelled_edge Ret = codes "ret"
spelled_edge Heap = codes "heap"
spelled_edge Fork = codes "fork"

abbrev pub spelled_word : Word → List ℕ
spelled_word (Edge kind) = spelled_edge kind
spelled_word Pass = codes "pass"

-- a line ends with a line feed
abbrev pub line : List ℕ → List ℕ
line text = text ++ 10 ∷ []

abbrev pub name_or_empty : Option (List ℕ) → List ℕ
name_or_empty None = []
name_or_empty (Some name) = name

-- the name of a level
abbrev pub level_name : Labels → ℕ → List ℕ
level_name labels level = escaped (name_or_empty (slice_get labels.levels level))

-- how a line ends that names a node
abbrev pub node_end : Program → Node → List ℕ
node_end program n = 32 ∷ spelled_node program n ++ 10 ∷ []

-- a word and a node
abbrev pub node_line : Program → List ℕ → Node → List ℕ
node_line program word n = word ++ node_end program n

abbrev pub step_line : Program → Link → List ℕ
step_line program link = node_line program (spelled_word link.word) link.to

-- ---- the parts of a report

-- what is refused, and for which observer
abbrev pub heading : List ℕ → Labels → ℕ → List ℕ
heading refused labels observer =
    line (codes "joana report 1") ++ line (codes "refused " ++ refused) ++ line (codes "observer " ++ level_name labels observer)

-- where a chain begins, and a line for each step
abbrev pub chain_lines : Program → Node → List Link → List ℕ
chain_lines program from links = node_line program (codes "from") from ++ flat_map (step_line program) links

-- the fork, the node that may run in what it starts, and the one that may run behind it
abbrev pub pair_lines : Program → Node → Node → Node → List ℕ
pair_lines program fork inside after = node_line program (codes "fork") fork ++ node_line program (codes "in") inside ++ node_line program (codes "after") after

-- ---- reports

-- a report on an illegal chain
abbrev pub chain_text : Program → Labels → ℕ → Node → List Link → List ℕ
chain_text program labels observer from links =
    heading (codes "chain") labels observer ++ chain_lines program from links ++ line (codes "end")

-- the line of a step, where there is one
abbrev pub step_text : Program → Option Link → List ℕ
step_text program None = []
step_text program (Some link) = step_line program link

-- ---- reports on a graph that grows, whose nodes have numbers

-- the link of a step, to the node with that number
abbrev pub named_link : List GraphNode → Step → Link
named_link nodes step = link_to step.word (name_at nodes step.to)

abbrev pub named_links : List GraphNode → List Step → List Link
named_links nodes steps = map (named_link nodes) steps

abbrev pub numbered_lines : Program → List GraphNode → Chain → List ℕ
numbered_lines program nodes chain = chain_lines program (name_at nodes chain.start) (named_links nodes chain.steps)

-- what a report says is refused
abbrev pub conflict_words : Bool → List ℕ
conflict_words true = codes "conflict order"
conflict_words false = codes "conflict data"

abbrev pub refused_words : Body → List ℕ
refused_words (ChainBody chain) = codes "chain"
refused_words (ConflictBody found first second) = conflict_words found.order

-- an order conflict has no chains; a data conflict has one from each of its nodes
abbrev pub conflict_chains : Bool → Program → List GraphNode → Chain → Chain → List ℕ
conflict_chains true program nodes first second = []
conflict_chains false program nodes first second = numbered_lines program nodes first ++ numbered_lines program nodes second

abbrev pub conflict_pair : Program → List GraphNode → Conflict → List ℕ
conflict_pair program nodes found = pair_lines program (name_at nodes found.fork) (name_at nodes found.inside) (name_at nodes found.after)

abbrev pub body_lines : Program → List GraphNode → Body → List ℕ
body_lines program nodes (ChainBody chain) = numbered_lines program nodes chain
body_lines program nodes (ConflictBody found first second) = conflict_pair program nodes found ++ conflict_chains found.order program nodes first second

-- the one text of a report
abbrev pub report_text : Program → Labels → List GraphNode → Report → List ℕ
report_text program labels nodes report =
    heading (refused_words report.body) labels report.observer ++ body_lines program nodes report.body ++ line (codes "end")

-- ---- whose nodes are in the graph

pub record IsChainInside (count : ℕ) (chain : Chain) : Type 0 where
  pub start : chain.start < count
  pub steps : All (λ step. step.to < count) chain.steps

pub record IsPairInside (count : ℕ) (found : Conflict) : Type 0 where
  pub fork : found.fork < count
  pub inside : found.inside < count
  pub after : found.after < count

-- an order conflict is printed without its chains
abbrev pub AreChainsInside : Bool → ℕ → Chain → Chain → Type 0
AreChainsInside true count first second = Unit {0}
AreChainsInside false count first second = IsChainInside count first × IsChainInside count second

abbrev pub IsBodyInside : ℕ → Body → Type 0
IsBodyInside count (ChainBody chain) = IsChainInside count chain
IsBodyInside count (ConflictBody found first second) = IsPairInside count found × AreChainsInside found.order count first second
