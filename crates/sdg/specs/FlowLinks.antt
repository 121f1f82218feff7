-- The flow edges of one instance (this project's own form).
use Rattle.std.specs.Prelude.{◌≡◌, ℕ, List, Some}
use Rattle.dep_nodes.specs.declared.kinds.NodeKind.{NodeKind}
use Rattle.dependence.specs.declared.facts.InstKey.{InstKey}
use Rattle.dependence.specs.declared.flows.FlowRow.{FlowRow}
use Rattle.dependence.specs.FlowData.{EdgeIn}
use Rattle.dependence.specs.GraphsAsData.{kind_at}
use Rattle.sdg.specs.declared.instance_nodes.InstanceNode.{InstanceNode}
use Rattle.sdg.specs.Links.{by_flow, Link, link}
use Rattle.sdg.specs.NamedGraphs.{Spot, spot}
use Rattle.sdg.specs.TargetLinks.{node_at}

-- between the nodes of an instance that have these numbers in its flow graph
pub record FlowStepLink (flow : List FlowRow) (i a b : ℕ) (l : Link InstanceNode) : Type 0 where
  pub from : NodeKind
  pub to : NodeKind
  pub is_from : kind_at flow a ≡ Some from
  pub is_to : kind_at flow b ≡ Some to
  pub is : l ≡ link (node_at i from) by_flow (node_at i to)

-- from the node with that number to a successor
abbrev pub FlowFrom : List FlowRow → ℕ → ℕ → Link InstanceNode → Type 0
FlowFrom flow i a l = (b : ℕ) × EdgeIn flow a b × FlowStepLink flow i a b l

-- between nodes of one instance, as a relation of their kinds says
pub record Within (i : InstKey (List ℕ)) (E : NodeKind → NodeKind → Type 0) (L : Link Spot) : Type 0 where
  pub from : NodeKind
  pub to : NodeKind
  pub edge : E from to
  pub is : L ≡ link (spot i from) by_flow (spot i to)
