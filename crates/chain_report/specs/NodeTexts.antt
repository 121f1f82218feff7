-- The nodes of a graph by their spellings, and a table of them (this project's own).
use Rattle.std.specs.Prelude.{◌≡◌, ℕ, Bool, true, false, ◌&&◌, List, Option, Vec}
use Rattle.std.specs.declared.alloc.Global.{Global}
use Rattle.std.specs.List.{position_from}
use Rattle.std.specs.Map.{lookup}
use Rattle.std.specs.Str.{bytes_eq}
use Rattle.jo_prog.specs.declared.program.Program.{Program}
use Rattle.dep_nodes.specs.declared.kinds.NodeKind.{NodeKind}
use Rattle.dep_nodes.specs.declared.kinds.NodeKind.TheVariants.{Exit}
use Rattle.dep_nodes.specs.declared.graphs.NodeName.{NodeName}
use Rattle.dep_nodes.specs.declared.dependence_graph.GraphNode.{GraphNode}
use Rattle.dep_nodes.specs.Nodes.{node_named}
use Rattle.chain_report.specs.Nodes.{spelled_node}
use Rattle.chain_report.specs.declared.node_texts.NodeTexts.{NodeTexts}

-- an Exit has no spelling
abbrev pub has_spelling : NodeKind → Bool
has_spelling Exit = false
has_spelling _ = true

-- the name has a spelling, and the text is it
abbrev pub is_spelling : Program → NodeName → List ℕ → Bool
is_spelling program name text = has_spelling name.kind && bytes_eq (spelled_node program (node_named name)) text

-- The number of the node with that spelling, where the nodes have numbers from a first one on. Where several nodes have
-- one spelling, the first of them has it.
abbrev pub first_spelled : Program → ℕ → List GraphNode → List ℕ → Option ℕ
first_spelled program first nodes text = position_from (λ (node : GraphNode). is_spelling program node.name text) first nodes

abbrev pub node_of : Program → List GraphNode → List ℕ → Option ℕ
node_of program nodes text = first_spelled program 0 nodes text

-- ---- the table

abbrev pub number_at : List (Vec ℕ Global × ℕ) → List ℕ → Option ℕ
number_at entries text = lookup (λ (key : Vec ℕ Global). bytes_eq text key.items) entries

abbrev pub number_by : NodeTexts → List ℕ → Option ℕ
number_by texts text = number_at texts.numbers.entries text

-- the table has the first node with each spelling
abbrev pub AreTextsFrom : Program → ℕ → List GraphNode → NodeTexts → Type 0
AreTextsFrom program first nodes texts = (text : List ℕ) → number_by texts text ≡ first_spelled program first nodes text

abbrev pub AreTextsOf : Program → List GraphNode → NodeTexts → Type 0
AreTextsOf program nodes texts = AreTextsFrom program 0 nodes texts
