-- Steps that add to a graph, one after the other.
use Rattle.std.specs.Prelude.{◌↔◌}
use Rattle.std.proofs.Common.{◌≡◌, ◌⊎◌, inl, inr, ℕ, ◌+◌, ◌<◌, ◌≤◌, Contains, List, [], ◌∷◌, ◌++◌, map, length, get_or, take, drop, Result, Ok, Err, refl, ap, sym, ◌∙◌, subst, arith}
use Rattle.std.proofs.lemmas.Bool.{cases_eq}
use Rattle.std.proofs.lemmas.List.{take_more, take_all, length-map, take-append-drop}
use Rattle.std.proofs.lemmas.List.Elements.{Contains-append_left, Contains-push, Contains-push_cases}
use Rattle.dep_nodes.specs.declared.dependence_graph.GraphNode.{GraphNode}
use Rattle.dep_nodes.specs.declared.dependence_graph.GraphFault.{GraphFault}
use Rattle.dep_nodes.specs.declared.dependence_graph.GraphFault.TheVariants.{Limit, Memory}
use Rattle.heap_deps.specs.Adds.{From, FromBelow}
use Rattle.heap_deps.specs.Items.{Item, HasItem, frame, Grows, GrowsPartly, IsFull, GrowsOrStops}

-- ---- one step, and one step after another

pub grows_none : (old : List GraphNode) (P : Item → Type 0) → ((x : Item) → P x → ⊥) → Grows old old P
grows_none old P none = record { frames = refl; items = λ x. (λ has. inl has, back x); once = λ once. once }
  where
    back : (x : Item) → HasItem old x ⊎ P x → HasItem old x
    back x (inl has) = has
    back x (inr p) = absurd (none x p)

pub grows_alike : (old new : List GraphNode) (P Q : Item → Type 0) → Grows old new P → ((x : Item) → P x ↔ Q x) → Grows old new Q
grows_alike old new P Q grows alike = record { frames = grows.frames; items = λ x. (λ has. there x ((grows.items x).0 has), back x); once = grows.once }
  where
    there : (x : Item) → HasItem old x ⊎ P x → HasItem old x ⊎ Q x
    there x (inl has) = inl has
    there x (inr p) = inr ((alike x).0 p)

    back : (x : Item) → HasItem old x ⊎ Q x → HasItem new x
    back x (inl has) = (grows.items x).1 (inl has)
    back x (inr q) = (grows.items x).1 (inr ((alike x).1 q))

pub grows_more : (old mid new : List GraphNode) (P Q R : Item → Type 0) → Grows old mid P → Grows mid new Q → ((x : Item) → R x ↔ (P x ⊎ Q x)) → Grows old new R
grows_more old mid new P Q R first second sum = record {
  frames = second.frames ∙ first.frames;
  items = λ x. (λ has. there x ((second.items x).0 has), back x);
  once = λ once. second.once (first.once once);
}
  where
    early : (x : Item) → HasItem old x ⊎ P x → HasItem old x ⊎ R x
    early x (inl has) = inl has
    early x (inr p) = inr ((sum x).1 (inl p))

    there : (x : Item) → HasItem mid x ⊎ Q x → HasItem old x ⊎ R x
    there x (inl has) = early x ((first.items x).0 has)
    there x (inr q) = inr ((sum x).1 (inr q))

    late : (x : Item) → P x ⊎ Q x → HasItem new x
    late x (inl p) = (second.items x).1 (inl ((first.items x).1 (inr p)))
    late x (inr q) = (second.items x).1 (inr q)

    back : (x : Item) → HasItem old x ⊎ R x → HasItem new x
    back x (inl has) = (second.items x).1 (inl ((first.items x).1 (inl has)))
    back x (inr r) = late x ((sum x).0 r)

pub grows_partly : (old new : List GraphNode) (P Q : Item → Type 0) → Grows old new P → ((x : Item) → P x → Q x) → GrowsPartly old new Q
grows_partly old new P Q grows to = record { frames = grows.frames; keeps = λ x has. (grows.items x).1 (inl has); only = λ x has. there x ((grows.items x).0 has); once = grows.once }
  where
    there : (x : Item) → HasItem old x ⊎ P x → HasItem old x ⊎ Q x
    there x (inl has) = inl has
    there x (inr p) = inr (to x p)

pub partly_more : (old mid new : List GraphNode) (P Q R : Item → Type 0) → Grows old mid P → GrowsPartly mid new Q → ((x : Item) → P x → R x) → ((x : Item) → Q x → R x) → GrowsPartly old new R
partly_more old mid new P Q R first second from_first from_second = record {
  frames = second.frames ∙ first.frames;
  keeps = λ x has. second.keeps x ((first.items x).1 (inl has));
  only = λ x has. there x (second.only x has);
  once = λ once. second.once (first.once once);
}
  where
    early : (x : Item) → HasItem old x ⊎ P x → HasItem old x ⊎ R x
    early x (inl has) = inl has
    early x (inr p) = inr (from_first x p)

    there : (x : Item) → HasItem mid x ⊎ Q x → HasItem old x ⊎ R x
    there x (inl has) = early x ((first.items x).0 has)
    there x (inr q) = inr (from_second x q)

pub partly_weaker : (old new : List GraphNode) (P Q : Item → Type 0) → GrowsPartly old new P → ((x : Item) → P x → Q x) → GrowsPartly old new Q
partly_weaker old new P Q partly to = record { frames = partly.frames; keeps = partly.keeps; only = λ x has. there x (partly.only x has); once = partly.once }
  where
    there : (x : Item) → HasItem old x ⊎ P x → HasItem old x ⊎ Q x
    there x (inl has) = inl has
    there x (inr p) = inr (to x p)

pub full_weaker : (new : List GraphNode) (P Q : Item → Type 0) → IsFull new P → ((x : Item) → P x → Q x) → IsFull new Q
full_weaker new P Q full to = record { most = full.most; item = full.item; belongs = to full.item full.belongs; missing = full.missing }

-- ---- a step that may be refused

-- the last of two steps
pub then_grows : (r : Result (Unit {0}) GraphFault) (old mid new : List GraphNode) (P Q R : Item → Type 0) → Grows old mid P → GrowsOrStops r mid new Q → ((x : Item) → R x ↔ (P x ⊎ Q x)) → GrowsOrStops r old new R
then_grows (Ok a) old mid new P Q R first second sum = grows_more old mid new P Q R first second sum
then_grows (Err (Limit kind)) old mid new P Q R first second sum =
    (second.0, (partly_more old mid new P Q R first second.1.0 (λ x p. (sum x).1 (inl p)) (λ x q. (sum x).1 (inr q)), full_weaker new Q R second.1.1 (λ x q. (sum x).1 (inr q))))
then_grows (Err Memory) old mid new P Q R first second sum = partly_more old mid new P Q R first second (λ x p. (sum x).1 (inl p)) (λ x q. (sum x).1 (inr q))

-- a step after which others would come
pub then_stops : (e : GraphFault) (old mid new : List GraphNode) (P Q R : Item → Type 0) → Grows old mid P → GrowsOrStops (Err e) mid new Q → ((x : Item) → P x → R x) → ((x : Item) → Q x → R x) → GrowsOrStops (Err e) old new R
then_stops (Limit kind) old mid new P Q R first second from_first from_second =
    (second.0, (partly_more old mid new P Q R first second.1.0 from_first from_second, full_weaker new Q R second.1.1 from_second))
then_stops Memory old mid new P Q R first second from_first from_second = partly_more old mid new P Q R first second from_first from_second

pub or_stops_alike : (r : Result (Unit {0}) GraphFault) (old new : List GraphNode) (P Q : Item → Type 0) → GrowsOrStops r old new P → ((x : Item) → P x ↔ Q x) → GrowsOrStops r old new Q
or_stops_alike (Ok a) old new P Q grows alike = grows_alike old new P Q grows alike
or_stops_alike (Err (Limit kind)) old new P Q stops alike = (stops.0, (partly_weaker old new P Q stops.1.0 (λ x. (alike x).0), full_weaker new P Q stops.1.1 (λ x. (alike x).0)))
or_stops_alike (Err Memory) old new P Q partly alike = partly_weaker old new P Q partly (λ x. (alike x).0)

pub first_stops : (e : GraphFault) (old new : List GraphNode) (P R : Item → Type 0) → GrowsOrStops (Err e) old new P → ((x : Item) → P x → R x) → GrowsOrStops (Err e) old new R
first_stops (Limit kind) old new P R stops to = (stops.0, (partly_weaker old new P R stops.1.0 to, full_weaker new P R stops.1.1 to))
first_stops Memory old new P R partly to = partly_weaker old new P R partly to

-- where memory is wanting between steps
pub memory_stops : (old new : List GraphNode) (P R : Item → Type 0) → Grows old new P → ((x : Item) → P x → R x) → GrowsOrStops (Err Memory) old new R
memory_stops old new P R grows to = grows_partly old new P R grows to

pub same_count : (old new : List GraphNode) → map frame new ≡ map frame old → length new ≡ length old
same_count old new frames = sym (length-map new frame) ∙ ap length frames ∙ length-map old frame

-- ---- what items make

from_none : {A : Type 0} (makes : A → Item → Type 0) (x : Item) → From [] makes x → ⊥
from_none makes x (a, (k, below, is), made) = omega (arith, below)

from_more : {A : Type 0} (items : List A) (a : A) (makes : A → Item → Type 0) (x : Item) → From (items ++ a ∷ []) makes x ↔ (From items makes x ⊎ makes a x)
from_more {A} items a makes x = (there, back)
  where
    there : From (items ++ a ∷ []) makes x → From items makes x ⊎ makes a x
    there (b, among, made) = elim (Contains-push_cases items a b among) [
      | inl before ↦ inl (b, before, made)
      | inr last ↦ inr (subst (λ c. makes c x) (sym last) made)
    ]

    back : From items makes x ⊎ makes a x → From (items ++ a ∷ []) makes x
    back (inl (b, among, made)) = (b, Contains-append_left items (a ∷ []) b among, made)
    back (inr made) = (a, Contains-push items a, made)

module _ {A : Type 0} (xs : List A) (makes : A → Item → Type 0) where
  pub over_none : (old : List GraphNode) → Grows old old (From (take 0 xs) makes)
  over_none old = grows_none old (From [] makes) (from_none makes)

  pub over_item : (old mid new : List GraphNode) (i : ℕ) (x : A) → i < length xs → x ≡ get_or xs i x → Grows old mid (From (take i xs) makes) → Grows mid new (makes x) → Grows old new (From (take (i + 1) xs) makes)
  over_item old mid new i x below is first second =
      subst (λ items. Grows old new (From items makes)) (sym (take_more xs i x below))
      (grows_more old mid new (From (take i xs) makes) (makes (get_or xs i x)) (From (take i xs ++ get_or xs i x ∷ []) makes) first (subst (λ a. Grows mid new (makes a)) is second) (from_more (take i xs) (get_or xs i x) makes))

  pub over_all : (old new : List GraphNode) (i : ℕ) → length xs ≤ i → Grows old new (From (take i xs) makes) → Grows old new (From xs makes)
  over_all old new i past grows = subst (λ items. Grows old new (From items makes)) (take_all i xs past) grows

  among_first : (i : ℕ) (x : Item) → From (take i xs) makes x → From xs makes x
  among_first i x (a, among, made) = (a, subst (λ ys. Contains ys a) (take-append-drop i xs) (Contains-append_left (take i xs) (drop i xs) a among), made)

  pub over_stops : (e : GraphFault) (old mid new : List GraphNode) (i : ℕ) (x : A) → i < length xs → x ≡ get_or xs i x → Grows old mid (From (take i xs) makes) → GrowsOrStops (Err e) mid new (makes x) → GrowsOrStops (Err e) old new (From xs makes)
  over_stops e old mid new i x below is first second =
      then_stops e old mid new (From (take i xs) makes) (makes x) (From xs makes) first second (among_first i) (λ y made. (x, (i, below, sym is), made))

-- ---- what numbers make

below_more : (n : ℕ) (makes : ℕ → Item → Type 0) (x : Item) → FromBelow (n + 1) makes x ↔ (FromBelow n makes x ⊎ makes n x)
below_more n makes x = (there, back)
  where
    there : FromBelow (n + 1) makes x → FromBelow n makes x ⊎ makes n x
    there (k, below, made) = elim (cases_eq k n) [
      | inl same ↦ inr (subst (λ m. makes m x) same made)
      | inr other ↦ inl (k, omega (arith, below, other), made)
    ]

    back : FromBelow n makes x ⊎ makes n x → FromBelow (n + 1) makes x
    back (inl (k, below, made)) = (k, omega (arith, below), made)
    back (inr made) = (n, omega arith, made)

pub below_none : (old : List GraphNode) (makes : ℕ → Item → Type 0) → Grows old old (FromBelow 0 makes)
below_none old makes = grows_none old (FromBelow 0 makes) none
  where
    none : (x : Item) → FromBelow 0 makes x → ⊥
    none x (n, below, made) = omega (arith, below)

pub below_step : (old mid new : List GraphNode) (n : ℕ) (makes : ℕ → Item → Type 0) → Grows old mid (FromBelow n makes) → Grows mid new (makes n) → Grows old new (FromBelow (n + 1) makes)
below_step old mid new n makes first second = grows_more old mid new (FromBelow n makes) (makes n) (FromBelow (n + 1) makes) first second (below_more n makes)

pub below_stops : (e : GraphFault) (old mid new : List GraphNode) (n end : ℕ) (makes : ℕ → Item → Type 0) → n < end → Grows old mid (FromBelow n makes) → GrowsOrStops (Err e) mid new (makes n) → GrowsOrStops (Err e) old new (FromBelow end makes)
below_stops e old mid new n end makes below first second =
    then_stops e old mid new (FromBelow n makes) (makes n) (FromBelow end makes) first second earlier (λ y made. (n, below, made))
  where
    earlier : (x : Item) → FromBelow n makes x → FromBelow end makes x
    earlier x (k, under, made) = (k, omega (arith, under, below), made)
