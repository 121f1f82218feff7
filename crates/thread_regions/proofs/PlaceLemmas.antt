-- Places are equal exactly where the instances are, or the instances and the pcs.
use Rattle.std.proofs.Common.{◌≡◌, ℕ, zero, suc, ◌≤◌, Bool, true, false, ◌&&◌, List, [], ◌∷◌, length, map, Option, Some, None, slice_get, option_map, nat_eq, refl, sym, ◌∙◌, ap, subst, arith}
use Rattle.std.proofs.lemmas.Bool.{eqb-true, eq-eqb}
use Rattle.std.proofs.lemmas.Option.{slice_get-map}
use Rattle.std.specs.Option.{option_eq}
use Rattle.jo_ids.specs.declared.SiteList.{SiteList}
use Rattle.dep_nodes.specs.declared.graphs.NodeName.{NodeName}
use Rattle.dep_nodes.specs.declared.dependence_graph.GraphNode.{GraphNode}
use Rattle.dep_nodes.specs.Nodes.{Instance, node_named, sites_of, pc_of}
use Rattle.thread_regions.specs.declared.places.Group.{Group}
use Rattle.thread_regions.specs.declared.places.Group.TheVariants.{Instances, Calls}
use Rattle.thread_regions.specs.declared.places.Place.{Place}
use Rattle.thread_regions.specs.Places.{place_of, same_place, AreFirsts}
use Rattle.thread_regions.proofs.FirstLemmas.{AreKnown, some_same, firsts_within, firsts_same}

-- ---- the test

both : (a b : Bool) → (a && b) ≡ true → (a ≡ true) × (b ≡ true)
both true b h = (refl, h)
both false b h = absurd (cc)

both_true : (a b : Bool) → a ≡ true → b ≡ true → (a && b) ≡ true
both_true a b e f = rw e f

same_options : (a b : Option ℕ) → option_eq nat_eq a b ≡ true → a ≡ b
same_options None None h = refl
same_options None (Some y) h = absurd (cc)
same_options (Some x) None h = absurd (cc)
same_options (Some x) (Some y) h = ap Some (eqb-true x y h)

options_same : (a : Option ℕ) → option_eq nat_eq a a ≡ true
options_same None = refl
options_same (Some x) = eq-eqb x x refl

place_is : (m n : ℕ) (a b c d e f : Option ℕ) → m ≡ n → a ≡ b → c ≡ d → e ≡ f
    → ◌≡◌ {A = Place} (record { method = m; first = a; second = c; pc = e }) (record { method = n; first = b; second = d; pc = f })
place_is m n a b c d e f p q r s = cc

pub place_equal : (p q : Place) → same_place p q ≡ true → p ≡ q
place_equal p q h =
    let one = both (nat_eq p.method q.method) (option_eq nat_eq p.first q.first && (option_eq nat_eq p.second q.second && option_eq nat_eq p.pc q.pc)) h in
    let two = both (option_eq nat_eq p.first q.first) (option_eq nat_eq p.second q.second && option_eq nat_eq p.pc q.pc) one.1 in
    let three = both (option_eq nat_eq p.second q.second) (option_eq nat_eq p.pc q.pc) two.1 in
    place_is p.method q.method p.first q.first p.second q.second p.pc q.pc (eqb-true p.method q.method one.0) (same_options p.first q.first two.0)
    (same_options p.second q.second three.0) (same_options p.pc q.pc three.1)

pub place_reflexive : (p : Place) → same_place p p ≡ true
place_reflexive p =
    both_true (nat_eq p.method p.method) (option_eq nat_eq p.first p.first && (option_eq nat_eq p.second p.second && option_eq nat_eq p.pc p.pc)) (eq-eqb p.method p.method refl)
    (both_true (option_eq nat_eq p.first p.first) (option_eq nat_eq p.second p.second && option_eq nat_eq p.pc p.pc) (options_same p.first)
    (both_true (option_eq nat_eq p.second p.second) (option_eq nat_eq p.pc p.pc) (options_same p.second) (options_same p.pc)))

-- ---- what equal places say

few_sites : (len first second : ℕ) → length (sites_of (record { len = len; first = first; second = second })) ≤ 2
few_sites zero first second = omega arith
few_sites (suc zero) first second = omega arith
few_sites (suc (suc n)) first second = omega arith

at_most_two : (sites : SiteList) → length (sites_of sites) ≤ 2
at_most_two sites = few_sites sites.len sites.first sites.second

same_lists : (xs ys : List ℕ) → length xs ≤ 2 → length ys ≤ 2 → slice_get xs 0 ≡ slice_get ys 0 → slice_get xs 1 ≡ slice_get ys 1 → xs ≡ ys
same_lists [] [] p q e f = refl
same_lists [] (y ∷ ys) p q e f = absurd (cc)
same_lists (x ∷ xs) [] p q e f = absurd (cc)
same_lists (x ∷ []) (y ∷ []) p q e f = ap (λ z. z ∷ []) (some_same e)
same_lists (x ∷ []) (y ∷ b ∷ ys) p q e f = absurd (cc)
same_lists (x ∷ a ∷ xs) (y ∷ []) p q e f = absurd (cc)
same_lists (x ∷ a ∷ []) (y ∷ b ∷ []) p q e f = let one : x ≡ y = some_same e in let two : a ≡ b = some_same f in cc
same_lists (x ∷ a ∷ c ∷ xs) (y ∷ b ∷ ys) p q e f = absurd (omega (arith, p))
same_lists (x ∷ a ∷ []) (y ∷ b ∷ d ∷ ys) p q e f = absurd (omega (arith, q))

instance_is : (m n : ℕ) (xs ys : List ℕ) → m ≡ n → xs ≡ ys → ◌≡◌ {A = Instance} (record { method = m; context = xs }) (record { method = n; context = ys })
instance_is m n xs ys e f = cc

module _ (a b : NodeName) where
  sites_from : slice_get (sites_of a.sites) 0 ≡ slice_get (sites_of b.sites) 0 → slice_get (sites_of a.sites) 1 ≡ slice_get (sites_of b.sites) 1 → sites_of a.sites ≡ sites_of b.sites
  sites_from = same_lists (sites_of a.sites) (sites_of b.sites) (at_most_two a.sites) (at_most_two b.sites)

  pub instance_from_place : place_of Instances a ≡ place_of Instances b → (node_named a).inst ≡ (node_named b).inst
  instance_from_place e =
      instance_is a.method b.method (sites_of a.sites) (sites_of b.sites) (ap (λ (p : Place). p.method) e)
      (sites_from (ap (λ (p : Place). p.first) e) (ap (λ (p : Place). p.second) e))

  pub place_from_instance : (node_named a).inst ≡ (node_named b).inst → place_of Instances a ≡ place_of Instances b
  place_from_instance e =
      let sites : sites_of a.sites ≡ sites_of b.sites = ap (λ (i : Instance). i.context) e in
      place_is a.method b.method (slice_get (sites_of a.sites) 0) (slice_get (sites_of b.sites) 0) (slice_get (sites_of a.sites) 1) (slice_get (sites_of b.sites) 1) None None
      (ap (λ (i : Instance). i.method) e) (ap (λ xs. slice_get xs 0) sites) (ap (λ xs. slice_get xs 1) sites) refl

  pub instance_from_call : place_of Calls a ≡ place_of Calls b → (node_named a).inst ≡ (node_named b).inst
  instance_from_call e =
      instance_is a.method b.method (sites_of a.sites) (sites_of b.sites) (ap (λ (p : Place). p.method) e)
      (sites_from (ap (λ (p : Place). p.first) e) (ap (λ (p : Place). p.second) e))

  pub pc_from_call : place_of Calls a ≡ place_of Calls b → pc_of a.kind ≡ pc_of b.kind
  pc_from_call e = ap (λ (p : Place). p.pc) e

  pub call_from : (node_named a).inst ≡ (node_named b).inst → pc_of a.kind ≡ pc_of b.kind → place_of Calls a ≡ place_of Calls b
  call_from e f =
      let sites : sites_of a.sites ≡ sites_of b.sites = ap (λ (i : Instance). i.context) e in
      place_is a.method b.method (slice_get (sites_of a.sites) 0) (slice_get (sites_of b.sites) 0) (slice_get (sites_of a.sites) 1) (slice_get (sites_of b.sites) 1) (pc_of a.kind) (pc_of b.kind)
      (ap (λ (i : Instance). i.method) e) (ap (λ xs. slice_get xs 0) sites) (ap (λ xs. slice_get xs 1) sites) f

-- ---- places of the nodes of a graph

named_place : (group : Group) (o : Option GraphNode) (name : NodeName) → option_map (λ (x : GraphNode). x.name) o ≡ Some name → option_map (λ (x : GraphNode). place_of group x.name) o ≡ Some (place_of group name)
named_place group None name h = absurd (cc)
named_place group (Some one) name h = ap (λ (x : NodeName). Some (place_of group x)) (some_same h)

pub place_listed : (group : Group) (nodes : List GraphNode) (n : ℕ) (name : NodeName) (place : Place) → option_map (λ (x : GraphNode). x.name) (slice_get nodes n) ≡ Some name → place ≡ place_of group name
    → slice_get (map (λ (x : GraphNode). place_of group x.name) nodes) n ≡ Some place
place_listed group nodes n name place named is = slice_get-map (λ (x : GraphNode). place_of group x.name) nodes n ∙ (named_place group (slice_get nodes n) name named ∙ ap Some (sym is))

pub are_firsts : (places : List Place) (known : Place → Option ℕ) (firsts : List ℕ) (i : ℕ) → i ≡ length places → AreKnown places known firsts i → AreFirsts places firsts
are_firsts places known firsts i all so_far =
    let whole : AreKnown places known firsts (length places) = subst (AreKnown places known firsts) all so_far in
    record { same_length = whole.counted; within = firsts_within places known firsts whole; same = firsts_same places known firsts whole }
