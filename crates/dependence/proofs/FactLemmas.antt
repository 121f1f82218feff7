-- A rule uses finitely many facts, so what follows from derivable facts is derivable.
use Rattle.std.proofs.Common.{◌≡◌, ◌⊎◌, inl, inr, ℕ, ◌<◌, List, [], ◌∷◌, ◌++◌, length, Contains, subst, refl}
use Rattle.std.proofs.lemmas.List.Elements.{Contains-append_left, Contains-append_right, Contains-append_cases}
use Rattle.jo_ids.specs.Path.{Path, stays, goes}
use Rattle.jo_ids.specs.declared.ObjKey.{ObjKey}
use Rattle.jo_prog.specs.declared.program.Program.{Program}
use Rattle.jo_prog.specs.declared.sites.Cause.{Cause}
use Rattle.jo_prog.proofs.WalkLemmas.{here, behind, head_or_behind, none_there}
use Rattle.contexts.specs.Policies.{ContextPolicy}
use Rattle.dep_nodes.specs.declared.kinds.NodeKind.{NodeKind}
use Rattle.dep_nodes.specs.declared.kinds.NodeKind.TheVariants.{Instr, Call, RetVal, Throw, Catch, Poll, XPoll, Arg, Param, Value, Thrown}
use Rattle.dependence.specs.declared.flow.Place.{Place}
use Rattle.dependence.specs.declared.facts.InstKey.{InstKey}
use Rattle.dependence.specs.declared.facts.Fact.{Fact}
use Rattle.dependence.specs.declared.facts.Fact.TheVariants.{Reached, Holds, CellHolds, Target, Fork, Throws, Stalls}
use Rattle.dependence.specs.declared.facts.FactCell.TheVariants.{Field as FieldOf, Elements, Static}
use Rattle.dependence.specs.FlowGraph.{PlaceHolds, Raises, null_base, zero_divisor, negative_length, bad_index, failing_cast, wrong_element, second_start, missing_interface}
use Rattle.dependence.specs.FactRules
use Rattle.dependence.specs.FactRules.{args_object, string_object}

abbrev pub AFact : Type 0
AFact = Fact (List ℕ)

-- what is said of facts needs finitely many of them
record Finite (P : AFact → Type 0) (X : (AFact → Type 0) → Type 0) : Type 1 where
  used : List AFact
  from : (f : AFact) → Contains used f → P f
  gives : (Q : AFact → Type 0) → ((f : AFact) → Contains used f → Q f) → X Q

module _ (P : AFact → Type 0) where
  one : (f : AFact) → P f → Finite P (λ Q. Q f)
  one f h = record { used = f ∷ []; from = λ g c. by_case g (head_or_behind f [] g c); gives = λ Q has. has f (here f []) }
    where
      by_case : (g : AFact) → (f ≡ g) ⊎ Contains [] g → P g
      by_case g (inl e) = subst P e h
      by_case g (inr c) = absurd (none_there g c)

  always : (X : (AFact → Type 0) → Type 0) → ((Q : AFact → Type 0) → X Q) → Finite P X
  always X h = record { used = []; from = λ g c. absurd (none_there g c); gives = λ Q has. h Q }

  mapped : (X Y : (AFact → Type 0) → Type 0) → Finite P X → ((Q : AFact → Type 0) → X Q → Y Q) → Finite P Y
  mapped X Y x f = record { used = x.used; from = x.from; gives = λ Q has. f Q (x.gives Q has) }

  both : (X Y : (AFact → Type 0) → Type 0) → Finite P X → Finite P Y → Finite P (λ Q. X Q × Y Q)
  both X Y x y = record {
    used = x.used ++ y.used;
    from = λ f c. by_case f (Contains-append_cases x.used y.used f c);
    gives = λ Q has. (x.gives Q (λ f c. has f (Contains-append_left x.used y.used f c)), y.gives Q (λ f c. has f (Contains-append_right x.used y.used f c)));
  }
    where
      by_case : (f : AFact) → Contains x.used f ⊎ Contains y.used f → P f
      by_case f (inl c) = x.from f c
      by_case f (inr c) = y.from f c

-- ---- what rules ask

module _ (program : Program) (P : AFact → Type 0) (i : InstKey (List ℕ)) where
  runs : (n : NodeKind) → FactRules.RunsAt program P i n → Finite P (λ Q. FactRules.RunsAt program Q i n)
  runs n h = mapped P (λ Q. Q (Reached i)) (λ Q. FactRules.RunsAt program Q i n) (one P (Reached i) h.reached) (λ Q r. record { reached = r; there = h.there })

  module _ (H : ℕ → ℕ → Type 0) (pc : ℕ) where
    at_place : (v : Place) (o : ObjKey (List ℕ)) → PlaceHolds program P H i pc v o → Finite P (λ Q. PlaceHolds program Q H i pc v o)
    at_place v o h = mapped P (λ Q. Q _) (λ Q. PlaceHolds program Q H i pc v o) (one P _ h.holds) (λ Q r. record { d = h.d; arrives = h.arrives; holds = r })

    at_base : (o : ObjKey (List ℕ)) → FactRules.BaseHolds program P H i pc o → Finite P (λ Q. FactRules.BaseHolds program Q H i pc o)
    at_base o h = mapped P (λ Q. PlaceHolds program Q H i pc h.place o) (λ Q. FactRules.BaseHolds program Q H i pc o) (at_place h.place o h.holds) (λ Q r. record { place = h.place; is_base = h.is_base; holds = r })

    at_top : (o : ObjKey (List ℕ)) → FactRules.TopHolds program P H i pc o → Finite P (λ Q. FactRules.TopHolds program Q H i pc o)
    at_top o h = mapped P (λ Q. PlaceHolds program Q H i pc h.place o) (λ Q. FactRules.TopHolds program Q H i pc o) (at_place h.place o h.holds) (λ Q r. record { place = h.place; is_top = h.is_top; holds = r })

    moved : (o : ObjKey (List ℕ)) → FactRules.MovedHolds program P H i pc o → Finite P (λ Q. FactRules.MovedHolds program Q H i pc o)
    moved o h = mapped P (λ Q. PlaceHolds program Q H i pc h.place o) (λ Q. FactRules.MovedHolds program Q H i pc o) (at_place h.place o h.holds) (λ Q r. record { place = h.place; is_read = h.is_read; holds = r })

    argument : (k : ℕ) (o : ObjKey (List ℕ)) → FactRules.ArgumentHolds program P H i pc k o → Finite P (λ Q. FactRules.ArgumentHolds program Q H i pc k o)
    argument k o h = mapped P (λ Q. PlaceHolds program Q H i pc h.place o) (λ Q. FactRules.ArgumentHolds program Q H i pc k o) (at_place h.place o h.holds) (λ Q r. record { place = h.place; is_argument = h.is_argument; holds = r })

    raised : (cause : Cause) → Raises program P H i pc cause → Finite P (λ Q. Raises program Q H i pc cause)
    raised cause (null_base v d stands base arrives may) = always P (λ Q. Raises program Q H i pc cause) (λ Q. null_base v d stands base arrives may)
    raised cause (zero_divisor v d stands top arrives unlike) = always P (λ Q. Raises program Q H i pc cause) (λ Q. zero_divisor v d stands top arrives unlike)
    raised cause (negative_length v d stands top arrives unlike) = always P (λ Q. Raises program Q H i pc cause) (λ Q. negative_length v d stands top arrives unlike)
    raised cause (bad_index stands) = always P (λ Q. Raises program Q H i pc cause) (λ Q. bad_index stands)
    raised cause (failing_cast v o type stands top holds names fails) =
        mapped P (λ Q. PlaceHolds program Q H i pc v o) (λ Q. Raises program Q H i pc cause) (at_place v o holds) (λ Q r. failing_cast v o type stands top r names fails)
    raised cause (wrong_element v w array value stands at_array holds_array at_value holds_value none) =
        mapped P (λ Q. PlaceHolds program Q H i pc v array × PlaceHolds program Q H i pc w value) (λ Q. Raises program Q H i pc cause)
        (both P (λ Q. PlaceHolds program Q H i pc v array) (λ Q. PlaceHolds program Q H i pc w value) (at_place v array holds_array) (at_place w value holds_value))
        (λ Q r. wrong_element v w array value stands at_array r.0 at_value r.1 none)
    raised cause (second_start v o call stands base holds starts) =
        mapped P (λ Q. PlaceHolds program Q H i pc v o) (λ Q. Raises program Q H i pc cause) (at_place v o holds) (λ Q r. second_start v o call stands base r starts)
    raised cause (missing_interface v o call stands base holds fails) =
        mapped P (λ Q. PlaceHolds program Q H i pc v o) (λ Q. Raises program Q H i pc cause) (at_place v o holds) (λ Q r. missing_interface v o call stands base r fails)

module _ (P : AFact → Type 0) where
  target : (i j : InstKey (List ℕ)) (pc : ℕ) → FactRules.IsTarget P i pc j → Finite P (λ Q. FactRules.IsTarget Q i pc j)
  target i j pc (inl h) = mapped P (λ Q. Q (Target i pc j)) (λ Q. FactRules.IsTarget Q i pc j) (one P (Target i pc j) h) (λ Q r. inl r)
  target i j pc (inr h) = mapped P (λ Q. Q (Fork i pc j)) (λ Q. FactRules.IsTarget Q i pc j) (one P (Fork i pc j) h) (λ Q r. inr r)

  in_thread : (i j : InstKey (List ℕ)) → FactRules.CallsInThread P i j → Finite P (λ Q. FactRules.CallsInThread Q i j)
  in_thread i j (pc, h) = mapped P (λ Q. Q (Target i pc j)) (λ Q. FactRules.CallsInThread Q i j) (one P (Target i pc j) h) (λ Q r. (pc, r))

  calls_on_path : (i j : InstKey (List ℕ)) → Path (FactRules.CallsInThread P) i j → Finite P (λ Q. Path (FactRules.CallsInThread Q) i j)
  calls_on_path i j (stays _) = always P (λ Q. Path (FactRules.CallsInThread Q) i i) (λ Q. stays i)
  calls_on_path i j (goes _ k _ step rest) =
      mapped P (λ Q. FactRules.CallsInThread Q i k × Path (FactRules.CallsInThread Q) k j) (λ Q. Path (FactRules.CallsInThread Q) i j)
      (both P (λ Q. FactRules.CallsInThread Q i k) (λ Q. Path (FactRules.CallsInThread Q) k j) (in_thread i k step) (calls_on_path k j rest))
      (λ Q r. goes i k j r.0 r.1)

-- ---- the rules

module _ (program : Program) (policy : ContextPolicy) (H : ℕ → ℕ → ℕ → Type 0) (entry : ℕ) where
  abbrev Rule : AFact → (AFact → Type 0) → Type 0
  Rule fact Q = FactRules.ByRule program policy H entry Q fact

  finite : (P : AFact → Type 0) (fact : AFact) → FactRules.ByRule program policy H entry P fact → Finite P (Rule fact)
  finite P _ (FactRules.enters i h0) = always P (Rule (Reached i)) (λ Q. FactRules.enters i h0)
  finite P _ (FactRules.is_given i count h0 h1 h2) = always P (Rule (Holds i (Param 0) args_object)) (λ Q. FactRules.is_given i count h0 h1 h2)
  finite P _ (FactRules.begins_with f h0) = always P (Rule (CellHolds (Static f) string_object)) (λ Q. FactRules.begins_with f h0)
  finite P _ (FactRules.makes i pc site o h0 h1 h2 h3) = mapped P (λ Q. FactRules.RunsAt program Q i (Instr pc)) (Rule (Holds i (Instr pc) o)) (runs program P i (Instr pc) h0) (λ Q r. FactRules.makes i pc site o r h1 h2 h3)
  finite P _ (FactRules.loads_text i pc h0 h1) = mapped P (λ Q. FactRules.RunsAt program Q i (Instr pc)) (Rule (Holds i (Instr pc) string_object)) (runs program P i (Instr pc) h0) (λ Q r. FactRules.loads_text i pc r h1)
  finite P _ (FactRules.moves i pc o h0 h1 h2) = mapped P (λ Q. (FactRules.RunsAt program Q i (Instr pc)) × (FactRules.MovedHolds program Q (H i.method) i pc o)) (Rule (Holds i (Instr pc) o)) (both P (λ Q. FactRules.RunsAt program Q i (Instr pc)) (λ Q. FactRules.MovedHolds program Q (H i.method) i pc o) (runs program P i (Instr pc) h0) (moved program P i (H i.method) pc o h2)) (λ Q r. FactRules.moves i pc o r.0 h1 r.1)
  finite P _ (FactRules.passes i pc k o h0 h1) = mapped P (λ Q. (FactRules.RunsAt program Q i (Call pc)) × (FactRules.ArgumentHolds program Q (H i.method) i pc k o)) (Rule (Holds i (Arg pc k) o)) (both P (λ Q. FactRules.RunsAt program Q i (Call pc)) (λ Q. FactRules.ArgumentHolds program Q (H i.method) i pc k o) (runs program P i (Call pc) h0) (argument program P i (H i.method) pc k o h1)) (λ Q r. FactRules.passes i pc k o r.0 r.1)
  finite P _ (FactRules.loads_field i pc f base o h0 h1 h2 h3 h4) = mapped P (λ Q. (FactRules.RunsAt program Q i (Instr pc)) × ((FactRules.BaseHolds program Q (H i.method) i pc base) × (Q (CellHolds (FieldOf f base) o)))) (Rule (Holds i (Instr pc) o)) (both P (λ Q. FactRules.RunsAt program Q i (Instr pc)) (λ Q. (FactRules.BaseHolds program Q (H i.method) i pc base) × (Q (CellHolds (FieldOf f base) o))) (runs program P i (Instr pc) h0) (both P (λ Q. FactRules.BaseHolds program Q (H i.method) i pc base) (λ Q. Q (CellHolds (FieldOf f base) o)) (at_base program P i (H i.method) pc base h3) (one P (CellHolds (FieldOf f base) o) h4))) (λ Q r. FactRules.loads_field i pc f base o r.0 h1 h2 r.1.0 r.1.1)
  finite P _ (FactRules.loads_element i pc base o h0 h1 h2 h3) = mapped P (λ Q. (FactRules.RunsAt program Q i (Instr pc)) × ((FactRules.BaseHolds program Q (H i.method) i pc base) × (Q (CellHolds (Elements base) o)))) (Rule (Holds i (Instr pc) o)) (both P (λ Q. FactRules.RunsAt program Q i (Instr pc)) (λ Q. (FactRules.BaseHolds program Q (H i.method) i pc base) × (Q (CellHolds (Elements base) o))) (runs program P i (Instr pc) h0) (both P (λ Q. FactRules.BaseHolds program Q (H i.method) i pc base) (λ Q. Q (CellHolds (Elements base) o)) (at_base program P i (H i.method) pc base h2) (one P (CellHolds (Elements base) o) h3))) (λ Q r. FactRules.loads_element i pc base o r.0 h1 r.1.0 r.1.1)
  finite P _ (FactRules.loads_static i pc f o h0 h1 h2 h3) = mapped P (λ Q. (FactRules.RunsAt program Q i (Instr pc)) × (Q (CellHolds (Static f) o))) (Rule (Holds i (Instr pc) o)) (both P (λ Q. FactRules.RunsAt program Q i (Instr pc)) (λ Q. Q (CellHolds (Static f) o)) (runs program P i (Instr pc) h0) (one P (CellHolds (Static f) o) h3)) (λ Q r. FactRules.loads_static i pc f o r.0 h1 h2 r.1)
  finite P _ (FactRules.stores_field i pc f base o h0 h1 h2 h3 h4) = mapped P (λ Q. (FactRules.RunsAt program Q i (Instr pc)) × ((FactRules.BaseHolds program Q (H i.method) i pc base) × (FactRules.TopHolds program Q (H i.method) i pc o))) (Rule (CellHolds (FieldOf f base) o)) (both P (λ Q. FactRules.RunsAt program Q i (Instr pc)) (λ Q. (FactRules.BaseHolds program Q (H i.method) i pc base) × (FactRules.TopHolds program Q (H i.method) i pc o)) (runs program P i (Instr pc) h0) (both P (λ Q. FactRules.BaseHolds program Q (H i.method) i pc base) (λ Q. FactRules.TopHolds program Q (H i.method) i pc o) (at_base program P i (H i.method) pc base h3) (at_top program P i (H i.method) pc o h4))) (λ Q r. FactRules.stores_field i pc f base o r.0 h1 h2 r.1.0 r.1.1)
  finite P _ (FactRules.stores_element i pc base o h0 h1 h2 h3) = mapped P (λ Q. (FactRules.RunsAt program Q i (Instr pc)) × ((FactRules.BaseHolds program Q (H i.method) i pc base) × (FactRules.TopHolds program Q (H i.method) i pc o))) (Rule (CellHolds (Elements base) o)) (both P (λ Q. FactRules.RunsAt program Q i (Instr pc)) (λ Q. (FactRules.BaseHolds program Q (H i.method) i pc base) × (FactRules.TopHolds program Q (H i.method) i pc o)) (runs program P i (Instr pc) h0) (both P (λ Q. FactRules.BaseHolds program Q (H i.method) i pc base) (λ Q. FactRules.TopHolds program Q (H i.method) i pc o) (at_base program P i (H i.method) pc base h2) (at_top program P i (H i.method) pc o h3))) (λ Q r. FactRules.stores_element i pc base o r.0 h1 r.1.0 r.1.1)
  finite P _ (FactRules.stores_static i pc f o h0 h1 h2 h3) = mapped P (λ Q. (FactRules.RunsAt program Q i (Instr pc)) × (FactRules.TopHolds program Q (H i.method) i pc o)) (Rule (CellHolds (Static f) o)) (both P (λ Q. FactRules.RunsAt program Q i (Instr pc)) (λ Q. FactRules.TopHolds program Q (H i.method) i pc o) (runs program P i (Instr pc) h0) (at_top program P i (H i.method) pc o h3)) (λ Q r. FactRules.stores_static i pc f o r.0 h1 h2 r.1)
  finite P _ (FactRules.raises i pc site cause o h0 h1 h2 h3) = mapped P (λ Q. (FactRules.RunsAt program Q i (Throw pc)) × (Raises program Q (H i.method) i pc cause)) (Rule (Holds i (Throw pc) o)) (both P (λ Q. FactRules.RunsAt program Q i (Throw pc)) (λ Q. Raises program Q (H i.method) i pc cause) (runs program P i (Throw pc) h0) (raised program P i (H i.method) pc cause h1)) (λ Q r. FactRules.raises i pc site cause o r.0 r.1 h2 h3)
  finite P _ (FactRules.throws i pc o h0 h1 h2) = mapped P (λ Q. (FactRules.RunsAt program Q i (Throw pc)) × (FactRules.TopHolds program Q (H i.method) i pc o)) (Rule (Holds i (Throw pc) o)) (both P (λ Q. FactRules.RunsAt program Q i (Throw pc)) (λ Q. FactRules.TopHolds program Q (H i.method) i pc o) (runs program P i (Throw pc) h0) (at_top program P i (H i.method) pc o h2)) (λ Q r. FactRules.throws i pc o r.0 h1 r.1)
  finite P _ (FactRules.calls_static i j pc h0 h1) = mapped P (λ Q. FactRules.RunsAt program Q i (Call pc)) (Rule (Target i pc j)) (runs program P i (Call pc) h0) (λ Q r. FactRules.calls_static i j pc r h1)
  finite P _ (FactRules.calls_on i j pc o h0 h1 h2) = mapped P (λ Q. (FactRules.RunsAt program Q i (Call pc)) × (Q (Holds i (Arg pc 0) o))) (Rule (Target i pc j)) (both P (λ Q. FactRules.RunsAt program Q i (Call pc)) (λ Q. Q (Holds i (Arg pc 0) o)) (runs program P i (Call pc) h0) (one P (Holds i (Arg pc 0) o) h1)) (λ Q r. FactRules.calls_on i j pc o r.0 r.1 h2)
  finite P _ (FactRules.starts i j pc o h0 h1 h2) = mapped P (λ Q. (FactRules.RunsAt program Q i (Call pc)) × (Q (Holds i (Arg pc 0) o))) (Rule (Fork i pc j)) (both P (λ Q. FactRules.RunsAt program Q i (Call pc)) (λ Q. Q (Holds i (Arg pc 0) o)) (runs program P i (Call pc) h0) (one P (Holds i (Arg pc 0) o) h1)) (λ Q r. FactRules.starts i j pc o r.0 r.1 h2)
  finite P _ (FactRules.is_called i j pc h0 h1) = mapped P (λ Q. (Q (Reached i)) × (FactRules.IsTarget Q i pc j)) (Rule (Reached j)) (both P (λ Q. Q (Reached i)) (λ Q. FactRules.IsTarget Q i pc j) (one P (Reached i) h0) (target P i j pc h1)) (λ Q r. FactRules.is_called i j pc r.0 r.1)
  finite P _ (FactRules.is_given_receiver i j pc k o fork h0 h1 h2 h3 h4) = mapped P (λ Q. (Q (Reached i)) × ((FactRules.IsTarget Q i pc j) × (Q (Holds i (Arg pc k) o)))) (Rule (Holds j (Param k) o)) (both P (λ Q. Q (Reached i)) (λ Q. (FactRules.IsTarget Q i pc j) × (Q (Holds i (Arg pc k) o))) (one P (Reached i) h0) (both P (λ Q. FactRules.IsTarget Q i pc j) (λ Q. Q (Holds i (Arg pc k) o)) (target P i j pc h1) (one P (Holds i (Arg pc k) o) h3))) (λ Q r. FactRules.is_given_receiver i j pc k o fork r.0 r.1.0 h2 r.1.1 h4)
  finite P _ (FactRules.is_given_argument i j pc k o h0 h1 h2 h3) = mapped P (λ Q. (Q (Reached i)) × ((FactRules.IsTarget Q i pc j) × (Q (Holds i (Arg pc k) o)))) (Rule (Holds j (Param k) o)) (both P (λ Q. Q (Reached i)) (λ Q. (FactRules.IsTarget Q i pc j) × (Q (Holds i (Arg pc k) o))) (one P (Reached i) h0) (both P (λ Q. FactRules.IsTarget Q i pc j) (λ Q. Q (Holds i (Arg pc k) o)) (target P i j pc h1) (one P (Holds i (Arg pc k) o) h3))) (λ Q r. FactRules.is_given_argument i j pc k o r.0 r.1.0 h2 r.1.1)
  finite P _ (FactRules.returns i pc o h0 h1 h2) = mapped P (λ Q. (FactRules.RunsAt program Q i (Instr pc)) × (FactRules.TopHolds program Q (H i.method) i pc o)) (Rule (Holds i Value o)) (both P (λ Q. FactRules.RunsAt program Q i (Instr pc)) (λ Q. FactRules.TopHolds program Q (H i.method) i pc o) (runs program P i (Instr pc) h0) (at_top program P i (H i.method) pc o h2)) (λ Q r. FactRules.returns i pc o r.0 h1 r.1)
  finite P _ (FactRules.comes_back i j pc o h0 h1 h2) = mapped P (λ Q. (Q (Reached i)) × ((Q (Target i pc j)) × (Q (Holds j Value o)))) (Rule (Holds i (RetVal pc) o)) (both P (λ Q. Q (Reached i)) (λ Q. (Q (Target i pc j)) × (Q (Holds j Value o))) (one P (Reached i) h0) (both P (λ Q. Q (Target i pc j)) (λ Q. Q (Holds j Value o)) (one P (Target i pc j) h1) (one P (Holds j Value o) h2))) (λ Q r. FactRules.comes_back i j pc o r.0 r.1.0 r.1.1)
  finite P _ (FactRules.is_caught i pc k o h0 h1 h2) = mapped P (λ Q. (Q (Reached i)) × (Q (Holds i (Throw pc) o))) (Rule (Holds i (Catch k) o)) (both P (λ Q. Q (Reached i)) (λ Q. Q (Holds i (Throw pc) o)) (one P (Reached i) h0) (one P (Holds i (Throw pc) o) h1)) (λ Q r. FactRules.is_caught i pc k o r.0 r.1 h2)
  finite P _ (FactRules.leaves i pc o h0 h1 h2) = mapped P (λ Q. (Q (Reached i)) × (Q (Holds i (Throw pc) o))) (Rule (Holds i Thrown o)) (both P (λ Q. Q (Reached i)) (λ Q. Q (Holds i (Throw pc) o)) (one P (Reached i) h0) (one P (Holds i (Throw pc) o) h1)) (λ Q r. FactRules.leaves i pc o r.0 r.1 h2)
  finite P _ (FactRules.ends_so i pc o h0 h1 h2) = mapped P (λ Q. (Q (Reached i)) × (Q (Holds i (Throw pc) o))) (Rule (Throws i)) (both P (λ Q. Q (Reached i)) (λ Q. Q (Holds i (Throw pc) o)) (one P (Reached i) h0) (one P (Holds i (Throw pc) o) h1)) (λ Q r. FactRules.ends_so i pc o r.0 r.1 h2)
  finite P _ (FactRules.comes_out i j pc o h0 h1 h2) = mapped P (λ Q. (Q (Reached i)) × ((Q (Target i pc j)) × (Q (Holds j Thrown o)))) (Rule (Holds i (Throw pc) o)) (both P (λ Q. Q (Reached i)) (λ Q. (Q (Target i pc j)) × (Q (Holds j Thrown o))) (one P (Reached i) h0) (both P (λ Q. Q (Target i pc j)) (λ Q. Q (Holds j Thrown o)) (one P (Target i pc j) h1) (one P (Holds j Thrown o) h2))) (λ Q r. FactRules.comes_out i j pc o r.0 r.1.0 r.1.1)
  finite P _ (FactRules.loops i pc target h0) = mapped P (λ Q. FactRules.RunsAt program Q i (Poll pc target)) (Rule (Stalls i)) (runs program P i (Poll pc target) h0) (λ Q r. FactRules.loops i pc target r)
  finite P _ (FactRules.loops_caught i pc k h0) = mapped P (λ Q. FactRules.RunsAt program Q i (XPoll pc k)) (Rule (Stalls i)) (runs program P i (XPoll pc k) h0) (λ Q r. FactRules.loops_caught i pc k r)
  finite P _ (FactRules.waits i j pc h0 h1 h2) = mapped P (λ Q. (Q (Reached i)) × ((Q (Target i pc j)) × (Q (Stalls j)))) (Rule (Stalls i)) (both P (λ Q. Q (Reached i)) (λ Q. (Q (Target i pc j)) × (Q (Stalls j))) (one P (Reached i) h0) (both P (λ Q. Q (Target i pc j)) (λ Q. Q (Stalls j)) (one P (Target i pc j) h1) (one P (Stalls j) h2))) (λ Q r. FactRules.waits i j pc r.0 r.1.0 r.1.1)
  finite P _ (FactRules.recurs i j h0 h1 h2) = mapped P (λ Q. (Q (Reached i)) × ((FactRules.CallsInThread Q i j) × (Path (FactRules.CallsInThread Q) j i))) (Rule (Stalls i)) (both P (λ Q. Q (Reached i)) (λ Q. (FactRules.CallsInThread Q i j) × (Path (FactRules.CallsInThread Q) j i)) (one P (Reached i) h0) (both P (λ Q. FactRules.CallsInThread Q i j) (λ Q. Path (FactRules.CallsInThread Q) j i) (in_thread P i j h1) (calls_on_path P j i h2))) (λ Q r. FactRules.recurs i j r.0 r.1.0 r.1.1)

  -- with more facts no less follows
  pub rule_more : (P Q : AFact → Type 0) (fact : AFact) → ((f : AFact) → P f → Q f) → FactRules.ByRule program policy H entry P fact → FactRules.ByRule program policy H entry Q fact
  rule_more P Q fact more h = let used = finite P fact h in used.gives Q (λ f c. more f (used.from f c))

  -- ---- derivations

  abbrev IsDerived : List AFact → Type 0
  IsDerived facts = FactRules.IsDerivation program policy H entry facts

  abbrev CanDerive : AFact → Type 0
  CanDerive fact = FactRules.Derivable program policy H entry fact

  join : (xs ys : List AFact) → IsDerived xs → IsDerived ys → IsDerived (xs ++ ys)
  join [] ys _ d = d
  join (x ∷ xs) ys (FactRules.more _ _ rule rest) d =
      FactRules.more x (xs ++ ys) (rule_more (Contains xs) (Contains (xs ++ ys)) x (λ f c. Contains-append_left xs ys f c) rule) (join xs ys rest d)

  -- one derivation for all facts of a list
  record Together (facts : List AFact) : Type 0 where
    all : List AFact
    derived : IsDerived all
    has : (f : AFact) → Contains facts f → Contains all f

  together : (facts : List AFact) → ((f : AFact) → Contains facts f → CanDerive f) → Together facts
  together [] can = record { all = []; derived = FactRules.nothing; has = λ f c. c }
  together (x ∷ xs) can =
      let first = can x (here x xs) in
      let rest = together xs (λ f c. can f (behind x xs f c)) in
      record {
        all = first.facts ++ rest.all;
        derived = join first.facts rest.all first.derivation rest.derived;
        has = λ f c. in_both x xs f first.facts rest.all first.there rest.has (head_or_behind x xs f c);
      }
    where
      in_both : (x : AFact) (xs : List AFact) (f : AFact) (front back : List AFact) → Contains front x → ((g : AFact) → Contains xs g → Contains back g) → (x ≡ f) ⊎ Contains xs f → Contains (front ++ back) f
      in_both x xs f front back at has (inl e) = subst (λ g. Contains (front ++ back) g) e (Contains-append_left front back x at)
      in_both x xs f front back at has (inr c) = Contains-append_right front back f (has f c)

  -- what follows from derivable facts is derivable
  pub closed : (fact : AFact) → FactRules.ByRule program policy H entry CanDerive fact → CanDerive fact
  closed fact rule =
      let used = finite CanDerive fact rule in
      let all = together used.used used.from in
      record { facts = fact ∷ all.all; derivation = FactRules.more fact all.all (used.gives (Contains all.all) all.has) all.derived; there = here fact all.all }

  -- what holds of each fact that follows from facts of which it holds, holds of each derivable fact
  module _ (Q : AFact → Type 0) (keeps : (f : AFact) → FactRules.ByRule program policy H entry Q f → Q f) where
    among : (facts : List AFact) → IsDerived facts → (f : AFact) → Contains facts f → Q f
    among [] d f c = absurd (none_there f c)
    among (x ∷ xs) (FactRules.more _ _ rule rest) f c = elim (head_or_behind x xs f c) [
      | inl e ↦ subst Q e (keeps x (rule_more (Contains xs) Q x (λ g at. among xs rest g at) rule))
      | inr at ↦ among xs rest f at
    ]

    pub least : (fact : AFact) → CanDerive fact → Q fact
    least fact h = among h.facts h.derivation fact h.there

  -- a derivable fact follows from derivable facts
  last_follows : (fact : AFact) (facts : List AFact) → IsDerived facts → Contains facts fact → FactRules.ByRule program policy H entry CanDerive fact
  last_follows fact [] d c = absurd (none_there fact c)
  last_follows fact (x ∷ xs) (FactRules.more _ _ rule rest) c = elim (head_or_behind x xs fact c) [
    | inl e ↦
        subst (λ f. FactRules.ByRule program policy H entry CanDerive f) e
        (rule_more (Contains xs) CanDerive x (λ f at. record { facts = xs; derivation = rest; there = at }) rule)
    | inr at ↦ last_follows fact xs rest at
  ]

  pub follows : (fact : AFact) → CanDerive fact → FactRules.ByRule program policy H entry CanDerive fact
  follows fact h = last_follows fact h.facts h.derivation h.there
