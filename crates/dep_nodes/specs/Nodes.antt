-- The nodes of a dependence graph: a method, a list of sites, and a kind (this project's own).
use Rattle.std.specs.Prelude.{ℕ, zero, suc, List, [], ◌∷◌, Option, Some, None, option_map}
use Rattle.dep_nodes.specs.declared.kinds.NodeKind.{NodeKind}
use Rattle.dep_nodes.specs.declared.kinds.NodeKind.TheVariants.{Entry, Exit, Instr, Call, RetVal, RetKind, Throw, Catch, Poll, XPoll, Arg, Param, Kind, Value, Thrown}
use Rattle.jo_ids.specs.declared.SiteList.{SiteList}
use Rattle.dep_nodes.specs.declared.graphs.NodeName.{NodeName}

-- a method in a context, which is a list of sites
pub record Instance : Type 0 where
  pub method : ℕ
  pub context : List ℕ

pub record Node : Type 0 where
  pub inst : Instance
  pub kind : NodeKind

abbrev pub node : Instance → NodeKind → Node
node i kind = record { inst = i; kind = kind }

-- the sites of a context, in order
abbrev pub sites_of : SiteList → List ℕ
sites_of sites = sites_up_to sites.len
  where
    sites_up_to : ℕ → List ℕ
    sites_up_to zero = []
    sites_up_to (suc zero) = sites.first ∷ []
    sites_up_to (suc (suc n)) = sites.first ∷ sites.second ∷ []

-- the node that a name stands for
abbrev pub node_named : NodeName → Node
node_named name = node (record { method = name.method; context = sites_of name.sites }) name.kind

-- the pc of a node that has one
abbrev pub pc_of : NodeKind → Option ℕ
pc_of Entry = None
pc_of Exit = None
pc_of (Instr pc) = Some pc
pc_of (Call pc) = Some pc
pc_of (RetVal pc) = Some pc
pc_of (RetKind pc) = Some pc
pc_of (Throw pc) = Some pc
pc_of (Catch row) = None
pc_of (Poll pc target) = Some pc
pc_of (XPoll pc row) = Some pc
pc_of (Arg pc i) = Some pc
pc_of (Param i) = None
pc_of Kind = None
pc_of Value = None
pc_of Thrown = None

-- a call: the caller's instance, and the pc
pub record CallSite : Type 0 where
  pub caller : Instance
  pub pc : ℕ

-- the call that a node with a pc belongs to
abbrev pub call_site : Node → Option CallSite
call_site n = option_map (λ pc. record { caller = n.inst; pc = pc }) (pc_of n.kind)
