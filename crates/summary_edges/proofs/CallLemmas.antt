-- What it says that two nodes belong to one call.
use Rattle.std.proofs.Common.{◌≡◌, ℕ, ◌<◌, Bool, true, false, ◌&&◌, List, Option, Some, None, length, IsSomeAnd, slice_get, sym, ◌∙◌, ap, refl}
use Rattle.std.proofs.lemmas.Option.{slice_get_within}
use Rattle.dep_nodes.specs.declared.kinds.EdgeKind.{EdgeKind}
use Rattle.dep_nodes.specs.declared.dependence_graph.GraphNode.{GraphNode}
use Rattle.dep_nodes.specs.Nodes.{Node, CallSite}
use Rattle.dep_nodes.specs.Chains.{same_site, goes_in, comes_out}
use Rattle.dep_nodes.specs.GrowingGraphs.{HasEdge}
use Rattle.dep_nodes.proofs.Sites.{sites_equal, site_itself}
use Rattle.summary_edges.specs.Calls.{one_site, one_call, passes_over}

-- ---- one call

-- both calls, and that they are one
pub record AreOne (o p : Option CallSite) : Type 0 where
  pub first : CallSite
  pub second : CallSite
  pub is_first : o ≡ Some first
  pub is_second : p ≡ Some second
  pub same : same_site first second ≡ true

pub one_parts : (o p : Option CallSite) → one_site o p ≡ true → AreOne o p
one_parts None p e = absurd (cc)
one_parts (Some a) None e = absurd (cc)
one_parts (Some a) (Some b) e = record { first = a; second = b; is_first = refl; is_second = refl; same = e }

pub one_from_sites : (o p : Option CallSite) (a b : CallSite) → o ≡ Some a → p ≡ Some b → same_site a b ≡ true → one_site o p ≡ true
one_from_sites o p a b e f same = ap (λ x. one_site x p) e ∙ ap (λ x. one_site (Some a) x) f ∙ same

pub one_equal : (o p : Option CallSite) → one_site o p ≡ true → o ≡ p
one_equal o p e = let are = one_parts o p e in are.is_first ∙ ap (λ s. Some s) (sites_equal are.first are.second are.same) ∙ sym are.is_second

pub one_from_equal : (o p : Option CallSite) (a : CallSite) → o ≡ Some a → o ≡ p → one_site o p ≡ true
one_from_equal o p a e same = one_from_sites o p a a e (sym same ∙ e) (site_itself a)

-- ---- where a call goes in and where it comes out

pub record AllTrue (a b c : Bool) : Type 0 where
  pub first : a ≡ true
  pub second : b ≡ true
  pub third : c ≡ true

all_parts : (a b c : Bool) → (a && (b && c)) ≡ true → AllTrue a b c
all_parts true true true e = record { first = refl; second = refl; third = refl }
all_parts true true false e = absurd (cc)
all_parts true false c e = absurd (cc)
all_parts false b c e = absurd (cc)

all_true : (a b c : Bool) → a ≡ true → b ≡ true → c ≡ true → (a && (b && c)) ≡ true
all_true a b c e f g = rw (e, f, g) refl

-- values go in at the first node, and the same call comes out at the second
pub record Passed (a b : Node) : Type 0 where
  pub begin : goes_in a.kind ≡ true
  pub end : comes_out b.kind ≡ true
  pub one : one_call a b ≡ true

pub passed_parts : (a b : Node) → passes_over a b ≡ true → Passed a b
passed_parts a b e = let all = all_parts (goes_in a.kind) (comes_out b.kind) (one_call a b) e in record { begin = all.first; end = all.second; one = all.third }

pub passed_from : (a b : Node) → goes_in a.kind ≡ true → comes_out b.kind ≡ true → one_call a b ≡ true → passes_over a b ≡ true
passed_from a b begin end one = all_true (goes_in a.kind) (comes_out b.kind) (one_call a b) begin end one

-- ---- edges end at nodes

some_within : (nodes : List GraphNode) (to : ℕ) (P : GraphNode → Type 0) (o : Option GraphNode) → slice_get nodes to ≡ o → IsSomeAnd o P → to < length nodes
some_within nodes to P None e some = absurd some
some_within nodes to P (Some n) e some = slice_get_within nodes to n e

pub ends_inside : (nodes : List GraphNode) (from : ℕ) (kind : EdgeKind) (to : ℕ) → HasEdge nodes from kind to → to < length nodes
ends_inside nodes from kind to edge = some_within nodes to _ (slice_get nodes to) refl edge
