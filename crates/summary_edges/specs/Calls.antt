-- The nodes of one call (this project's own).
use Rattle.std.specs.Prelude.{◌≡◌, ℕ, ◌+◌, ◌*◌, ◌%◌, Bool, false, ◌==◌, ◌&&◌, List, [], Option, Some, None, length, sum, option_map, slice_index_or}
use Rattle.std.specs.List.{filter, range_with_len}
use Rattle.dep_nodes.specs.declared.dependence_graph.GraphNode.{GraphNode}
use Rattle.dep_nodes.specs.Nodes.{Node, CallSite, call_site}
use Rattle.dep_nodes.specs.Chains.{same_site, goes_in, comes_out}
use Rattle.dep_nodes.specs.NumberedChains.{name_at}

-- whether both calls are there and one
abbrev pub one_site : Option CallSite → Option CallSite → Bool
one_site None b = false
one_site (Some a) None = false
one_site (Some a) (Some b) = same_site a b

-- whether both nodes belong to one call
abbrev pub one_call : Node → Node → Bool
one_call a b = one_site (call_site a) (call_site b)

-- whether values go at the first node into the call that comes out at the second
abbrev pub passes_over : Node → Node → Bool
passes_over a b = goes_in a.kind && (comes_out b.kind && one_call a b)

-- ---- a table of the nodes by their calls

-- the row of a call, in a table with so many rows
abbrev pub row_of_call : ℕ → CallSite → ℕ
row_of_call count call = (31 * call.caller.method + 7 * sum call.caller.context + call.pc) % count

-- the row of a node that belongs to a call
abbrev pub row_of_node : ℕ → Node → Option ℕ
row_of_node count node = option_map (row_of_call count) (call_site node)

abbrev pub is_row : ℕ → Option ℕ → Bool
is_row row None = false
is_row row (Some r) = r == row

-- whether the number is in this row
abbrev pub lands_in : List GraphNode → ℕ → ℕ → Bool
lands_in nodes row n = is_row row (row_of_node (length nodes) (name_at nodes n))

-- the numbers below the end that are in this row
abbrev pub row_below : List GraphNode → ℕ → ℕ → List ℕ
row_below nodes end row = filter (lands_in nodes row) (range_with_len 0 end)

-- each row of the table has its numbers below the end
pub record IsTableBelow (nodes : List GraphNode) (end : ℕ) (rows : List (List ℕ)) : Type 0 where
  pub same_length : length rows ≡ length nodes
  pub each : (row : ℕ) → slice_index_or rows row [] ≡ row_below nodes end row

-- the table of all nodes of the graph
abbrev pub IsCallTable : List GraphNode → List (List ℕ) → Type 0
IsCallTable nodes rows = IsTableBelow nodes (length nodes) rows
