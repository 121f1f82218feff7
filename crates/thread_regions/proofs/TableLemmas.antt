-- What the regions in order say of two nodes.
use Rattle.std.proofs.Common.{◌≡◌, ◌↔◌, inl, inr, ℕ, ◌+◌, ◌<◌, Bool, true, false, ◌&&◌, List, length, get_or, map, Contains, Option, Some, None, slice_get, option_map, refl, sym, ◌∙◌, ap, subst, arith}
use Rattle.std.proofs.lemmas.Bool.{and_parts, cases_eq, cases_lt}
use Rattle.std.proofs.lemmas.Option.{slice_get_within, slice_get-map, slice_get-get_or, get_or_from_slice_get}
use Rattle.jo_ids.specs.Rows.{has_number}
use Rattle.dep_nodes.specs.declared.dependence_graph.GraphNode.{GraphNode}
use Rattle.dep_nodes.specs.Regions.{IsFork, ParallelAt}
use Rattle.thread_regions.specs.declared.tables.ForkRegions.{ForkRegions}
use Rattle.thread_regions.specs.Regions.{AreRegions, IsLeastFork}
use Rattle.thread_regions.proofs.FirstLemmas.{some_same}

pub contains_at : {A : Type 0} (xs : List A) (k : ℕ) (x : A) → slice_get xs k ≡ Some x → Contains xs x
contains_at xs k x is = (k, slice_get_within xs k x is, get_or_from_slice_get xs k x x is)

pub at_contained : {A : Type 0} (xs : List A) (x : A) (among : Contains xs x) → slice_get xs among.0 ≡ Some x
at_contained xs x among = slice_get-get_or xs among.0 x among.1 ∙ ap Some among.2

-- where regions stand
pub record StandsAt (regions : List ForkRegions) (fork : ℕ) : Type 0 where
  pub k : ℕ
  pub r : ForkRegions
  pub is_r : slice_get regions k ≡ Some r
  pub of_fork : r.fork ≡ fork

mapped_in : (o : Option ForkRegions) (fork : ℕ) → option_map (λ (r : ForkRegions). r.fork) o ≡ Some fork → (r : ForkRegions) × (o ≡ Some r) × (r.fork ≡ fork)
mapped_in None fork h = absurd (cc)
mapped_in (Some r) fork h = (r, refl, some_same h)

module _ (nodes : List GraphNode) (regions : List ForkRegions) (are : AreRegions nodes regions) where
  mapped : (k : ℕ) (r : ForkRegions) → slice_get regions k ≡ Some r → slice_get (map (λ (r : ForkRegions). r.fork) regions) k ≡ Some r.fork
  mapped k r is = slice_get-map (λ (r : ForkRegions). r.fork) regions k ∙ ap (option_map (λ (r : ForkRegions). r.fork)) is

  pub is_fork_at : (k : ℕ) (r : ForkRegions) → slice_get regions k ≡ Some r → IsFork nodes r.fork
  is_fork_at k r is = (are.forks_are.each r.fork).0 (contains_at (map (λ (r : ForkRegions). r.fork) regions) k r.fork (mapped k r is))

  pub stands_at : (fork : ℕ) → IsFork nodes fork → StandsAt regions fork
  stands_at fork is =
      let among = (are.forks_are.each fork).1 is in
      let at = at_contained (map (λ (r : ForkRegions). r.fork) regions) fork among in
      let found = mapped_in (slice_get regions among.0) fork (sym (slice_get-map (λ (r : ForkRegions). r.fork) regions among.0) ∙ at) in
      record { k = among.0; r = found.0; is_r = found.1; of_fork = found.2 }

  fork_at : (k : ℕ) (r : ForkRegions) → slice_get regions k ≡ Some r → get_or (map (λ (r : ForkRegions). r.fork) regions) k 0 ≡ r.fork
  fork_at k r is = get_or_from_slice_get (map (λ (r : ForkRegions). r.fork) regions) k r.fork 0 (mapped k r is)

  pub rises : (i j : ℕ) (r s : ForkRegions) → slice_get regions i ≡ Some r → slice_get regions j ≡ Some s → i < j → r.fork < s.fork
  rises i j r s at_i at_j h =
      let less = are.forks_are.rising i j h (slice_get_within (map (λ (r : ForkRegions). r.fork) regions) j s.fork (mapped j s at_j)) in
      omega (arith, less, fork_at i r at_i, fork_at j s at_j)

  module _ (a b : ℕ) where
    pub is_parallel : (k : ℕ) (r : ForkRegions) → slice_get regions k ≡ Some r → has_number r.child a ≡ true → has_number r.after b ≡ true → ParallelAt nodes r.fork a b
    is_parallel k r is child after = record { is_fork = is_fork_at k r is; in_child = ((are.each k r is).child_is a).0 child; in_after = ((are.each k r is).after_is b).0 after }

    pub has_parallel : (k : ℕ) (r : ForkRegions) → slice_get regions k ≡ Some r → ParallelAt nodes r.fork a b → (has_number r.child a ≡ true) × (has_number r.after b ≡ true)
    has_parallel k r is p = (((are.each k r is).child_is a).1 p.in_child, ((are.each k r is).after_is b).1 p.in_after)

    abbrev NoneBelow : ℕ → Type 0
    NoneBelow i = (k : ℕ) (r : ForkRegions) → k < i → slice_get regions k ≡ Some r → has_number r.child a ≡ true → has_number r.after b ≡ true → ⊥

    none_with : (i fork : ℕ) → NoneBelow i → ParallelAt nodes fork a b → ((k : ℕ) (r : ForkRegions) → slice_get regions k ≡ Some r → r.fork ≡ fork → k < i) → ⊥
    none_with i fork none p below =
        let at = stands_at fork p.is_fork in
        let has = has_parallel at.k at.r at.is_r (subst (λ f. ParallelAt nodes f a b) (sym at.of_fork) p) in
        none at.k at.r (below at.k at.r at.is_r at.of_fork) at.is_r has.0 has.1

    pub least_fork : (i : ℕ) (r : ForkRegions) → slice_get regions i ≡ Some r → has_number r.child a ≡ true → has_number r.after b ≡ true → NoneBelow i → IsLeastFork nodes a b (Some r.fork)
    least_fork i r is child after none = (is_parallel i r is child after, λ fork less p. none_with i fork none p (earlier fork less))
      where
        earlier : (fork : ℕ) → fork < r.fork → (k : ℕ) (s : ForkRegions) → slice_get regions k ≡ Some s → s.fork ≡ fork → k < i
        earlier fork less k s at of = elim (cases_lt k i) [
          | inl before ↦ before
          | inr not_before ↦ elim (cases_lt i k) [
            | inl later ↦ absurd (omega (arith, rises i k r s is at later, less, of))
            | inr not_later ↦
                let same : k ≡ i = omega (arith, not_before, not_later) in
                let one : r ≡ s = some_same (sym is ∙ (ap (slice_get regions) (sym same) ∙ at)) in
                absurd (omega (arith, ap (λ (x : ForkRegions). x.fork) one, less, of))
          ]
        ]

    pub no_fork : (i : ℕ) → length regions < i + 1 → NoneBelow i → IsLeastFork nodes a b None
    no_fork i all none = λ fork p. none_with i fork none p (λ k r is of. omega (arith, slice_get_within regions k r is, all))

    pub parallel_told : (i : ℕ) (r : ForkRegions) (fork : ℕ) (told : Bool) → slice_get regions i ≡ Some r → r.fork ≡ fork → told ≡ (has_number r.child a && has_number r.after b)
        → (told ≡ true) ↔ ParallelAt nodes fork a b
    parallel_told i r fork told is of says = (there, back)
      where
        there : told ≡ true → ParallelAt nodes fork a b
        there so =
            let parts = and_parts (has_number r.child a) (has_number r.after b) (sym says ∙ so) in
            subst (λ f. ParallelAt nodes f a b) of (is_parallel i r is parts.0 parts.1)

        both_of : {x y : Bool} → x ≡ true → y ≡ true → (x && y) ≡ true
        both_of e f = rw (e, f) refl

        back : ParallelAt nodes fork a b → told ≡ true
        back p = let has = has_parallel i r is (subst (λ f. ParallelAt nodes f a b) (sym of) p) in says ∙ both_of has.0 has.1

    pub no_such_fork : (i fork : ℕ) → length regions < i + 1 → ((k : ℕ) (r : ForkRegions) → k < i → slice_get regions k ≡ Some r → r.fork ≡ fork → ⊥) → (false ≡ true) ↔ ParallelAt nodes fork a b
    no_such_fork i fork all none = (λ e. absurd (cc), λ p. let at = stands_at fork p.is_fork in absurd (none at.k at.r (omega (arith, slice_get_within regions at.k at.r at.is_r, all)) at.is_r at.of_fork))

-- ---- one fork after another

module _ (regions : List ForkRegions) (i : ℕ) (item : ForkRegions) (is : slice_get regions i ≡ Some item) where
  pub below_and_here : (P : ForkRegions → Type 0) → ((k : ℕ) (r : ForkRegions) → k < i → slice_get regions k ≡ Some r → P r) → P item → (k : ℕ) (r : ForkRegions) → k < i + 1 → slice_get regions k ≡ Some r → P r
  below_and_here P before here k r less at = elim (cases_eq k i) [
    | inl same ↦ let one : item ≡ r = some_same (sym is ∙ (ap (slice_get regions) (sym same) ∙ at)) in subst P one here
    | inr other ↦ before k r (omega (arith, less, other)) at
  ]
