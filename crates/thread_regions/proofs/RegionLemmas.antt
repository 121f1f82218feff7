-- The regions of all forks, one after another.
use Rattle.std.proofs.Common.{◌≡◌, ◌⊎◌, inl, inr, ℕ, zero, suc, ◌+◌, ◌*◌, ◌<◌, List, [], ◌∷◌, ◌++◌, length, get_or, take, map, Option, Some, None, slice_get, option_map, refl, sym, ◌∙◌, ap, subst, arith}
use Rattle.std.proofs.lemmas.List.{take_more, take_all, map-append}
use Rattle.std.proofs.lemmas.Option.{slice_get_within}
use Rattle.dep_nodes.specs.declared.dependence_graph.GraphNode.{GraphNode}
use Rattle.dep_nodes.specs.declared.kinds.NodeKind.TheVariants.{Call as CallNode}
use Rattle.dep_nodes.specs.Nodes.{Node as NamedNode, node_named}
use Rattle.dep_nodes.specs.Regions.{IsFork, AreForks, HasTooManyForks, node_at}
use Rattle.thread_regions.specs.declared.tables.ForkRegions.{ForkRegions}
use Rattle.thread_regions.specs.Searches.{IsSearchGraph}
use Rattle.thread_regions.specs.Regions.{AreRegionsOf, AreRegions, IsRegionFrom}
use Rattle.thread_regions.proofs.FirstLemmas.{by_option, some_same}
use Rattle.thread_regions.proofs.ListLemmas.{not_longer}
use Rattle.thread_regions.proofs.ReachLemmas.{child_row, after_row}

pub fork_inside : (nodes : List GraphNode) (fork : ℕ) → IsFork nodes fork → fork < length nodes
fork_inside nodes fork is = by_option (slice_get nodes fork) (fork < length nodes)
    (λ none.
    let missing : None ≡ node_at nodes fork = sym (ap (λ (o : Option GraphNode). option_map (λ (x : GraphNode). node_named x.name) o) none) in
    let both : None ≡ Some (CallNode is.pc) = ap (option_map (λ (n : NamedNode). n.kind)) missing ∙ is.is_call in
    absurd (cc))
    (λ one some. slice_get_within nodes fork one some)

pub listed_inside : (nodes : List GraphNode) (forks : List ℕ) (i fork : ℕ) → AreForks nodes forks → i < length forks → fork ≡ get_or forks i fork → fork < length nodes
listed_inside nodes forks i fork are below is = fork_inside nodes fork ((are.each fork).0 (i, below, sym is))

pub regions_of_fork : (nodes : List GraphNode) (search : List (List ℕ)) (len fork : ℕ) (r : ForkRegions) → IsSearchGraph nodes search → len ≡ length nodes → r.fork ≡ fork
    → IsRegionFrom search (5 * fork + 3) len r.child → IsRegionFrom search (5 * fork + 4) len r.after → AreRegionsOf nodes r
regions_of_fork nodes search len fork r graph e of child after =
    let in_child : IsRegionFrom search (5 * r.fork + 3) (length nodes) r.child = subst (λ f. IsRegionFrom search (5 * f + 3) (length nodes) r.child) (sym of) (subst (λ n. IsRegionFrom search (5 * fork + 3) n r.child) e child) in
    let in_after : IsRegionFrom search (5 * r.fork + 4) (length nodes) r.after = subst (λ f. IsRegionFrom search (5 * f + 4) (length nodes) r.after) (sym of) (subst (λ n. IsRegionFrom search (5 * fork + 4) n r.after) e after) in
    record {
      child_length = in_child.same_length;
      after_length = in_after.same_length;
      child_is = child_row nodes search graph r.fork r.child in_child;
      after_is = after_row nodes search graph r.fork r.after in_after;
    }

pub record RegionsSoFar (nodes : List GraphNode) (forks : List ℕ) (all : List ForkRegions) (i : ℕ) : Type 0 where
  pub mapped : map (λ (r : ForkRegions). r.fork) all ≡ take i forks
  pub each : (k : ℕ) (r : ForkRegions) → slice_get all k ≡ Some r → AreRegionsOf nodes r

pub so_far_none : (nodes : List GraphNode) (forks : List ℕ) → RegionsSoFar nodes forks [] 0
so_far_none nodes forks = record { mapped = refl; each = λ k r is. absurd (omega (arith, slice_get_within {A = ForkRegions} [] k r is)) }

pushed_cases : (all : List ForkRegions) (last : ForkRegions) (k : ℕ) (r : ForkRegions) → slice_get (all ++ last ∷ []) k ≡ Some r → (slice_get all k ≡ Some r) ⊎ (r ≡ last)
pushed_cases [] last zero r is = inr (sym (some_same is))
pushed_cases [] last (suc k) r is = absurd (cc)
pushed_cases (x ∷ all) last zero r is = inl is
pushed_cases (x ∷ all) last (suc k) r is = pushed_cases all last k r is

pub so_far_more : (nodes : List GraphNode) (forks : List ℕ) (all : List ForkRegions) (i fork : ℕ) (r : ForkRegions) → i < length forks → fork ≡ get_or forks i fork → r.fork ≡ fork
    → AreRegionsOf nodes r → RegionsSoFar nodes forks all i → RegionsSoFar nodes forks (all ++ r ∷ []) (i + 1)
so_far_more nodes forks all i fork r below is of are so_far = record { mapped = mapped; each = each }
  where
    mapped : map (λ (r : ForkRegions). r.fork) (all ++ r ∷ []) ≡ take (i + 1) forks
    mapped =
        map-append (λ (r : ForkRegions). r.fork) all (r ∷ []) ∙ (ap (λ xs. xs ++ r.fork ∷ []) so_far.mapped ∙ (ap (λ f. take i forks ++ f ∷ []) (of ∙ is) ∙ sym (take_more forks i fork below)))

    each : (k : ℕ) (s : ForkRegions) → slice_get (all ++ r ∷ []) k ≡ Some s → AreRegionsOf nodes s
    each k s at = elim (pushed_cases all r k s at) [ inl before ↦ so_far.each k s before | inr last ↦ subst (AreRegionsOf nodes) (sym last) are ]

pub so_far_all : (nodes : List GraphNode) (forks : List ℕ) (all : List ForkRegions) (i : ℕ) → AreForks nodes forks → length forks < i + 1 → RegionsSoFar nodes forks all i → AreRegions nodes all
so_far_all nodes forks all i are ended so_far = record {
  forks_are = subst (AreForks nodes) (sym (so_far.mapped ∙ take_all i forks (omega (arith, ended)))) are;
  each = so_far.each;
}

pub not_too_many : (nodes : List GraphNode) (forks : List ℕ) → AreForks nodes forks → length forks < 257 → HasTooManyForks nodes → ⊥
not_too_many nodes forks are few many =
    let other = many.0 in
    let others = many.1 in
    not_longer other forks others.rising are.rising (λ n. (λ among. (are.each n).1 ((others.each n).0 among), λ among. (others.each n).1 ((are.each n).0 among))) (omega (arith, few, many.2))
