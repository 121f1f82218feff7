-- What becomes of exceptions, node by node.
use Rattle.std.proofs.Common.{◌≡◌, ◌↔◌, inl, inr, ℕ, List, length, Option, Some, None, refl, ap, sym, ◌∙◌, subst}
use Rattle.std.proofs.lemmas.Bool.{cases_order}
use Rattle.std.proofs.lemmas.Option.{same_Some}
use Rattle.jo_ids.specs.declared.ObjKey.{ObjKey}
use Rattle.jo_prog.specs.declared.program.Program.{Program}
use Rattle.contexts.specs.Policies.{ContextPolicy}
use Rattle.dep_nodes.specs.declared.kinds.NodeKind.{NodeKind}
use Rattle.dep_nodes.specs.declared.kinds.NodeKind.TheVariants.{Entry, Exit, Instr, Call, RetVal, RetKind, Throw, Catch, Poll, XPoll, Arg, Param, Kind, Value, Thrown}
use Rattle.dependence.specs.declared.flows.FlowRow.{FlowRow}
use Rattle.dependence.specs.declared.facts.InstKey.{InstKey}
use Rattle.dependence.specs.declared.facts.Fact.{Fact}
use Rattle.dependence.specs.declared.facts.Fact.TheVariants.{Holds}
use Rattle.dependence.specs.WideGraph.{IsWideNode}
use Rattle.dependence.specs.GraphsAsData.{kind_at, IsWideGraph}
use Rattle.method_views.specs.InstanceRules
use Rattle.method_views.specs.InstanceRules.{ByCatch}
use Rattle.fact_rules.specs.Adds.{FromBelow}
use Rattle.fact_rules.proofs.NamedLemmas.{kind_within}
use Rattle.fact_rules.specs.CatchRules.{IsCaughtBy, GoesTo, ThrownGives, ThrowGives, CatchGives}

-- what a node of the wide graph gives
abbrev pub CatchGivesAt : Program → (Fact (List ℕ) → Type 0) → InstKey (List ℕ) → List FlowRow → ℕ → Fact (List ℕ) → Type 0
CatchGivesAt program facts i wide n g = (kind : NodeKind) × (kind_at wide n ≡ Some kind) × CatchGives program facts i kind g

pub catch_at : (program : Program) (facts : Fact (List ℕ) → Type 0) (i : InstKey (List ℕ)) (wide : List FlowRow) (n : ℕ) (kind : NodeKind) → kind_at wide n ≡ Some kind
    → (g : Fact (List ℕ)) → CatchGives program facts i kind g ↔ CatchGivesAt program facts i wide n g
catch_at program facts i wide n kind at g = (λ gives. (kind, at, gives), back)
  where
    back : CatchGivesAt program facts i wide n g → CatchGives program facts i kind g
    back (other, found, gives) = subst (λ k. CatchGives program facts i k g) (same_Some other kind (sym found ∙ at)) gives

module _ (program : Program) where
  -- one row catches an object, or none does
  pub same_row : (m pc : ℕ) (o : ObjKey (List ℕ)) (a b : Option ℕ) → IsCaughtBy program m pc a o → IsCaughtBy program m pc b o → a ≡ b
  same_row m pc o None None p q = refl
  same_row m pc o (Some k) None p q = absurd (q k p.catches)
  same_row m pc o None (Some l) p q = absurd (p l q.catches)
  same_row m pc o (Some k) (Some l) p q = elim (cases_order k l) [
    | inl same ↦ ap Some same
    | inr other ↦ elim other [
      | inl less ↦ absurd (q.first k less p.catches)
      | inr more ↦ absurd (p.first l more q.catches)
    ]
  ]

  pub thrown_gives : (i : InstKey (List ℕ)) (pc : ℕ) (o : ObjKey (List ℕ)) (row : Option ℕ) → IsCaughtBy program i.method pc row o → (g : Fact (List ℕ)) → GoesTo i row o g ↔ ThrownGives program i pc o g
  thrown_gives i pc o row caught g = (λ goes. (row, caught, goes), back)
    where
      back : ThrownGives program i pc o g → GoesTo i row o g
      back (other, by, goes) = subst (λ r. GoesTo i r o g) (same_row i.method pc o other row by caught) goes

  module _ (policy : ContextPolicy) (facts : Fact (List ℕ) → Type 0) (H : ℕ → ℕ → Type 0) (i : InstKey (List ℕ)) where
    goes_by_rule : (pc : ℕ) (o : ObjKey (List ℕ)) (row : Option ℕ) (g : Fact (List ℕ)) → facts (Holds i (Throw pc) o) → IsCaughtBy program i.method pc row o → GoesTo i row o g
        → ByCatch program policy facts H i g
    goes_by_rule pc o (Some k) g has caught is = subst (ByCatch program policy facts H i) (sym is) (InstanceRules.is_caught pc k o has caught)
    goes_by_rule pc o None g has caught (inl is) = subst (ByCatch program policy facts H i) (sym is) (InstanceRules.leaves pc o has caught)
    goes_by_rule pc o None g has caught (inr is) = subst (ByCatch program policy facts H i) (sym is) (InstanceRules.ends_so pc o has caught)

    throw_by_rule : (pc : ℕ) (g : Fact (List ℕ)) → ThrowGives program facts i pc g → ByCatch program policy facts H i g
    throw_by_rule pc g (o, has, (row, caught, goes)) = goes_by_rule pc o row g has caught goes

    rule_by_throw : (g : Fact (List ℕ)) → ByCatch program policy facts H i g → (pc : ℕ) × (o : ObjKey (List ℕ)) × facts (Holds i (Throw pc) o) × ThrownGives program i pc o g
    rule_by_throw _ (InstanceRules.is_caught pc k o has caught) = (pc, o, has, (Some k, caught, refl))
    rule_by_throw _ (InstanceRules.leaves pc o has passes) = (pc, o, has, (None, passes, inl refl))
    rule_by_throw _ (InstanceRules.ends_so pc o has passes) = (pc, o, has, (None, passes, inr refl))

    kind_by_rule : (kind : NodeKind) (g : Fact (List ℕ)) → CatchGives program facts i kind g → ByCatch program policy facts H i g
    kind_by_rule (Throw pc) g gives = throw_by_rule pc g gives
    kind_by_rule Entry g none = absurd none
    kind_by_rule Exit g none = absurd none
    kind_by_rule (Instr pc) g none = absurd none
    kind_by_rule (Call pc) g none = absurd none
    kind_by_rule (RetVal pc) g none = absurd none
    kind_by_rule (RetKind pc) g none = absurd none
    kind_by_rule (Catch k) g none = absurd none
    kind_by_rule (Poll pc target) g none = absurd none
    kind_by_rule (XPoll pc k) g none = absurd none
    kind_by_rule (Arg pc k) g none = absurd none
    kind_by_rule (Param k) g none = absurd none
    kind_by_rule Kind g none = absurd none
    kind_by_rule Value g none = absurd none
    kind_by_rule Thrown g none = absurd none

    -- all nodes give what the rules give, where each Throw that holds an object is one of them
    pub catches_by_nodes : (wide : List FlowRow) → IsWideGraph program i.method H wide → ((pc : ℕ) (o : ObjKey (List ℕ)) → facts (Holds i (Throw pc) o) → IsWideNode program i.method (Throw pc))
        → (g : Fact (List ℕ)) → FromBelow (length wide) (CatchGivesAt program facts i wide) g ↔ ByCatch program policy facts H i g
    catches_by_nodes wide graph throws g = (there, back)
      where
        there : FromBelow (length wide) (CatchGivesAt program facts i wide) g → ByCatch program policy facts H i g
        there (n, below, (kind, at, gives)) = kind_by_rule kind g gives

        back : ByCatch program policy facts H i g → FromBelow (length wide) (CatchGivesAt program facts i wide) g
        back by =
            let (pc, o, has, gives) = rule_by_throw g by in
            let (n, at) = graph.graph.each_node (Throw pc) (throws pc o has) in
            (n, kind_within wide n (Throw pc) at, (Throw pc, at, (o, has, gives)))
