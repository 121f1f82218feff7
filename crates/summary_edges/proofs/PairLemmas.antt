-- The pairs that end at a node, read off a closed graph and the table of calls.
use Rattle.std.proofs.Common.{◌≡◌, ◌⊎◌, ℕ, ◌+◌, ◌<◌, Bool, true, false, cond, ◌&&◌, List, [], ◌∷◌, Option, Some, None, length, get_or, Contains, slice_get, option_map, sym, ◌∙◌, ap, refl, subst, inl, inr, arith, eq-eqb}
use Rattle.std.specs.List.{filter, range_with_len}
use Rattle.std.specs.List.Sorted.{IsStrictlyIncreasing}
use Rattle.std.proofs.lemmas.Bool.{cases_lt}
use Rattle.std.proofs.lemmas.List.Elements.{Contains-append_left, Contains-append_right, Contains-append_cases, Contains-push, Contains-push_cases, Contains-get_or}
use Rattle.std.proofs.lemmas.List.FromFn.{length-range_with_len, get_or-range_with_len}
use Rattle.std.proofs.lemmas.List.Kept.{IsStrictlyIncreasing-filter}
use Rattle.std.proofs.lemmas.Option.{none-some, slice_get_past}
use Rattle.jo_ids.specs.Rows.{has_number}
use Rattle.jo_graph.specs.Graphs.{IsReach}
use Rattle.dep_nodes.specs.declared.kinds.NodeKind.{NodeKind}
use Rattle.dep_nodes.specs.declared.kinds.NodeKind.TheVariants.{Entry, Exit, Instr, Call, RetVal, RetKind, Throw, Catch, Poll, XPoll, Arg, Param, Kind, Value, Thrown}
use Rattle.dep_nodes.specs.declared.graphs.NodeName.{NodeName}
use Rattle.dep_nodes.specs.declared.dependence_graph.GraphNode.{GraphNode}
use Rattle.dep_nodes.specs.Nodes.{Node, CallSite, call_site, pc_of, node_named}
use Rattle.dep_nodes.specs.Chains.{goes_in, comes_out}
use Rattle.dep_nodes.specs.NumberedChains.{name_at, name_or_none, IsNumberedPass}
use Rattle.summary_edges.specs.Calls.{one_call, is_row, lands_in, row_of_call, row_of_node, IsCallTable}
use Rattle.summary_edges.specs.Levels.{AreClosed}
use Rattle.summary_edges.specs.Pairs.{pairs_with, IsPairRow}
use Rattle.summary_edges.proofs.CallLemmas.{one_equal, one_from_equal}
use Rattle.summary_edges.proofs.ClosedPaths.{closed_is_matched}
use Rattle.summary_edges.proofs.TableLemmas.{name_is}

no_both : true ≡ false → ⊥
no_both e = cc

-- ---- what a filter keeps

module _ {A : Type 0} where
  here : (x : A) (xs : List A) → Contains (x ∷ xs) x
  here x xs = Contains-append_left (x ∷ []) xs x (Contains-push [] x)

  single : (y x : A) → Contains (y ∷ []) x → y ≡ x
  single y x among = elim (Contains-push_cases [] y x among) [
    | inl none ↦ absurd (omega (arith, none.1))
    | inr e ↦ e
  ]

  cons_cases : (y : A) (xs : List A) (x : A) → Contains (y ∷ xs) x → (y ≡ x) ⊎ Contains xs x
  cons_cases y xs x among = elim (Contains-append_cases (y ∷ []) xs x among) [
    | inl one ↦ inl (single y x one)
    | inr rest ↦ inr rest
  ]

  cond_there : (b : Bool) (y : A) (ys : List A) (x : A) → ((y ≡ x) × (b ≡ true)) ⊎ Contains ys x → Contains (cond b (y ∷ ys) ys) x
  cond_there true y ys x (inl both) = subst (λ z. Contains (y ∷ ys) z) both.0 (here y ys)
  cond_there true y ys x (inr among) = Contains-append_right (y ∷ []) ys x among
  cond_there false y ys x (inl both) = absurd (no_both (sym both.1))
  cond_there false y ys x (inr among) = among

  cond_back : (b : Bool) (y : A) (ys : List A) (x : A) → Contains (cond b (y ∷ ys) ys) x → ((y ≡ x) × (b ≡ true)) ⊎ Contains ys x
  cond_back true y ys x among = elim (cons_cases y ys x among) [
    | inl e ↦ inl (e, refl)
    | inr rest ↦ inr rest
  ]
  cond_back false y ys x among = inr among

  module _ (p : A → Bool) where
    pub filter_there : (xs : List A) (x : A) → p x ≡ true → Contains xs x → Contains (filter p xs) x
    filter_there [] x passes among = absurd (omega (arith, among.1))
    filter_there (y ∷ xs) x passes among = elim (cons_cases y xs x among) [
      | inl e ↦ cond_there (p y) y (filter p xs) x (inl (e, ap p e ∙ passes))
      | inr rest ↦ cond_there (p y) y (filter p xs) x (inr (filter_there xs x passes rest))
    ]

    pub filter_back : (xs : List A) (x : A) → Contains (filter p xs) x → Contains xs x × (p x ≡ true)
    filter_back [] x among = absurd (omega (arith, among.1))
    filter_back (y ∷ xs) x among = elim (cond_back (p y) y (filter p xs) x among) [
      | inl both ↦ (subst (λ z. Contains (y ∷ xs) z) both.0 (here y xs), sym (ap p both.0) ∙ both.1)
      | inr rest ↦ let kept = filter_back xs x rest in (Contains-append_right (y ∷ []) xs x kept.0, kept.1)
    ]

-- ---- numbers in order

numbers_rise : (n : ℕ) → IsStrictlyIncreasing (range_with_len 0 n)
numbers_rise n k below =
    let inside : k + 1 < n = omega (arith, below, length-range_with_len 0 n) in
    let first : get_or (range_with_len 0 n) k 0 ≡ 0 + k = get_or-range_with_len 0 n k 0 (omega (arith, inside)) in
    let second : get_or (range_with_len 0 n) (k + 1) 0 ≡ 0 + (k + 1) = get_or-range_with_len 0 n (k + 1) 0 inside in
    omega (arith, first, second)

pub number_there : (n k : ℕ) → k < n → Contains (range_with_len 0 n) k
number_there n k below =
    let found : Contains (range_with_len 0 n) (get_or (range_with_len 0 n) k 0) = Contains-get_or (range_with_len 0 n) k 0 (omega (arith, length-range_with_len 0 n)) in
    let is : get_or (range_with_len 0 n) k 0 ≡ k = get_or-range_with_len 0 n k 0 below ∙ omega arith in
    subst (λ m. Contains (range_with_len 0 n) m) is found

-- ---- nodes at which values go in

pub begin_inside : (nodes : List GraphNode) (n : ℕ) → goes_in (name_at nodes n).kind ≡ true → n < length nodes
begin_inside nodes n begins = elim (cases_lt n (length nodes)) [
  | inl below ↦ below
  | inr past ↦ absurd (no_both (sym begins ∙ ap (λ (o : Option GraphNode). goes_in (name_or_none o).kind) (slice_get_past nodes n past)))
]

begin_pc : (kind : NodeKind) → goes_in kind ≡ true → (pc : ℕ) × (pc_of kind ≡ Some pc)
begin_pc (Arg pc i) e = (pc, refl)
begin_pc (Call pc) e = (pc, refl)
begin_pc Entry e = absurd (cc)
begin_pc Exit e = absurd (cc)
begin_pc (Instr pc) e = absurd (cc)
begin_pc (RetVal pc) e = absurd (cc)
begin_pc (RetKind pc) e = absurd (cc)
begin_pc (Throw pc) e = absurd (cc)
begin_pc (Catch row) e = absurd (cc)
begin_pc (Poll pc target) e = absurd (cc)
begin_pc (XPoll pc row) e = absurd (cc)
begin_pc (Param i) e = absurd (cc)
begin_pc Kind e = absurd (cc)
begin_pc Value e = absurd (cc)
begin_pc Thrown e = absurd (cc)

site_with : Node → ℕ → CallSite
site_with n pc = record { caller = n.inst; pc = pc }

begin_site : (n : Node) → goes_in n.kind ≡ true → (call : CallSite) × (call_site n ≡ Some call)
unfolding site_with
begin_site n begins = let at = begin_pc n.kind begins in (site_with n at.0, ap (λ (o : Option ℕ). option_map (λ pc. site_with n pc) o) at.1)

-- ---- rows of pairs

-- no pair ends there
pub no_pairs : (nodes : List GraphNode) (to : ℕ) → ((from : ℕ) → IsNumberedPass nodes from to → ⊥) → IsPairRow nodes to []
no_pairs nodes to none = record {
  pairs = λ from. (λ among. absurd (omega (arith, among.1)), λ pass. absurd (none from pass));
  once = λ k below. absurd (omega (arith, below));
}

pub no_outcome : (nodes : List GraphNode) (to : ℕ) → comes_out (name_at nodes to).kind ≡ false → IsPairRow nodes to []
no_outcome nodes to ends = no_pairs nodes to (λ from pass. no_both (sym pass.end ∙ ends))

no_site : (count : ℕ) (o : Option CallSite) → option_map (row_of_call count) o ≡ None → o ≡ None
no_site count None e = refl
no_site count (Some call) e = absurd (none-some (row_of_call count call) (sym e))

pub no_call : (nodes : List GraphNode) (to count : ℕ) → row_of_node count (name_at nodes to) ≡ None → IsPairRow nodes to []
no_call nodes to count none = no_pairs nodes to (λ from pass.
    let begins = begin_site (name_at nodes from) pass.begin in
    none-some begins.0 (sym (no_site count (call_site (name_at nodes to)) none) ∙ sym pass.same_call ∙ begins.1))

pub row_itself : (row : ℕ) (o : Option ℕ) → o ≡ Some row → is_row row o ≡ true
row_itself row o e = ap (is_row row) e ∙ eq-eqb row row refl

module _ (nodes : List GraphNode) (levels calls : List (List ℕ)) (to row : ℕ) (found : List Bool) (closed : AreClosed nodes levels) (table : IsCallTable nodes calls) (there : row_of_node (length nodes) (name_at nodes to) ≡ Some row)
    (ends : comes_out (name_at nodes to).kind ≡ true) (reach : IsReach levels to found) where
  among_calls : (from : ℕ) → IsNumberedPass nodes from to → Contains (get_or calls row []) from
  among_calls from pass =
      let inside = begin_inside nodes from pass.begin in
      let lands : lands_in nodes row from ≡ true = row_itself row (row_of_node (length nodes) (name_at nodes from)) (ap (option_map (row_of_call (length nodes))) pass.same_call ∙ there) in
      subst (λ xs. Contains xs from) (sym (table.each row)) (filter_there (lands_in nodes row) (range_with_len 0 (length nodes)) from lands (number_there (length nodes) from inside))

  all_true : (a b c : Bool) → a ≡ true → b ≡ true → c ≡ true → (a && (b && c)) ≡ true
  all_true a b c e f g = rw (e, f, g) refl

  pub row_of_pairs : IsPairRow nodes to (filter (pairs_with nodes found to) (get_or calls row []))
  row_of_pairs = record { pairs = λ from. (pass from, kept from); once = once }
    where
      parts : (a b c : Bool) → (a && (b && c)) ≡ true → (a ≡ true) × (b ≡ true) × (c ≡ true)
      parts true true true e = (refl, refl, refl)
      parts true true false e = absurd (no_both (sym e))
      parts true false c e = absurd (no_both (sym e))
      parts false b c e = absurd (no_both (sym e))

      pass : (from : ℕ) → Contains (filter (pairs_with nodes found to) (get_or calls row [])) from → IsNumberedPass nodes from to
      pass from among =
          let kept = filter_back (pairs_with nodes found to) (get_or calls row []) from among in
          let are = parts (goes_in (name_at nodes from).kind) (one_call (name_at nodes from) (name_at nodes to)) (has_number found from) kept.1 in
          record {
            begin = are.0;
            end = ends;
            same_call = one_equal (call_site (name_at nodes from)) (call_site (name_at nodes to)) are.1;
            path = (closed_is_matched nodes levels closed from to (begin_inside nodes from are.0)).1 ((reach.each from).0 are.2);
          }

      kept : (from : ℕ) → IsNumberedPass nodes from to → Contains (filter (pairs_with nodes found to) (get_or calls row [])) from
      kept from is =
          let begins = begin_site (name_at nodes from) is.begin in
          let one = one_from_equal (call_site (name_at nodes from)) (call_site (name_at nodes to)) begins.0 begins.1 is.same_call in
          let has = (reach.each from).1 ((closed_is_matched nodes levels closed from to (begin_inside nodes from is.begin)).0 is.path) in
          filter_there (pairs_with nodes found to) (get_or calls row []) from (all_true (goes_in (name_at nodes from).kind) (one_call (name_at nodes from) (name_at nodes to)) (has_number found from) is.begin one has) (among_calls from is)

      once : IsStrictlyIncreasing (filter (pairs_with nodes found to) (get_or calls row []))
      once =
          IsStrictlyIncreasing-filter (pairs_with nodes found to) (get_or calls row [])
          (subst IsStrictlyIncreasing (sym (table.each row)) (IsStrictlyIncreasing-filter (lands_in nodes row) (range_with_len 0 (length nodes)) (numbers_rise (length nodes))))

-- the row that was read off
pub pairs_read : (nodes : List GraphNode) (levels calls : List (List ℕ)) (to count row k : ℕ) (name : NodeName) (found : List Bool) (xs : List ℕ) → AreClosed nodes levels → IsCallTable nodes calls → count ≡ length nodes → option_map (λ n. n.name) (slice_get nodes to) ≡ Some name → true ≡ comes_out name.kind
    → Some row ≡ row_of_node count (node_named name) → k ≡ to → IsReach levels k found → xs ≡ get_or calls row [] → (r : List ℕ) → r ≡ filter (pairs_with nodes found to) xs → IsPairRow nodes to r
pairs_read nodes levels calls to count row k name found xs closed table same name_there ends row_is k_is reach xs_are r r_is =
    let named = name_is nodes to name name_there in
    let there : row_of_node (length nodes) (name_at nodes to) ≡ Some row = ap (λ m. row_of_node m (name_at nodes to)) (sym same) ∙ ap (row_of_node count) named ∙ sym row_is in
    let out : comes_out (name_at nodes to).kind ≡ true = ap (λ (n : Node). comes_out n.kind) named ∙ sym ends in
    let is : r ≡ filter (pairs_with nodes found to) (get_or calls row []) = r_is ∙ ap (filter (pairs_with nodes found to)) xs_are in
    subst (IsPairRow nodes to) (sym is) (row_of_pairs nodes levels calls to row found closed table there out (subst (λ m. IsReach levels m found) k_is reach))
