-- What goes between a call and its targets.
use Rattle.std.proofs.Common.{◌≡◌, ◌↔◌, ◌⊎◌, ℕ, List, Contains, Option, Some, None, Result, sym, ◌∙◌, subst}
use Rattle.std.proofs.lemmas.Option.{same_Some}
use Rattle.dep_nodes.specs.declared.kinds.NodeKind.TheVariants.{Exit, RetKind, Kind}
use Rattle.dep_nodes.specs.declared.kinds.EdgeKind.TheVariants.{Ret}
use Rattle.dep_nodes.specs.declared.dependence_graph.GraphFault.{GraphFault}
use Rattle.dependence.specs.declared.facts.Target.{Target}
use Rattle.fact_sets.specs.declared.numbered.NumberedFact.{NumberedFact}
use Rattle.sdg.specs.declared.instance_nodes.InstanceNode.{InstanceNode}
use Rattle.sdg.specs.Growing.{Growing}
use Rattle.sdg.specs.Links.{by_word, by_flow, Link, link, Stands, InTable}
use Rattle.sdg.specs.Growth.{From, AddsLinks, LinksAdded}
use Rattle.sdg.specs.TargetLinks.{node_at, CallLink, TargetLink, IsTargetAt, LinkAt, call_pc}
use Rattle.sdg.proofs.GrowthLemmas.{adds_none, added_after}

pub return_added : {A : Type 0} (result : Result A GraphFault) (s t u : Growing) (i pc j : ℕ) (node ends out : InstanceNode) → node ≡ node_at i (RetKind pc) → ends ≡ node_at j Kind → out ≡ node_at j Exit
    → AddsLinks s t (λ l. l ≡ link ends (by_word Ret) node) → LinksAdded result t u (λ l. l ≡ link out by_flow node) → LinksAdded result s u (CallLink i (RetKind pc) j)
return_added result s t u i pc j node ends out is_node is_ends is_out first second =
    let R : InstanceNode → InstanceNode → InstanceNode → Link InstanceNode → Type 0 = λ n a b l. (l ≡ link a (by_word Ret) n) ⊎ (l ≡ link b by_flow n) in
    let all : LinksAdded result s u (R node ends out) =
    added_after result s t u (λ l. l ≡ link ends (by_word Ret) node) (λ l. l ≡ link out by_flow node) (R node ends out) first second (λ l. (λ p. p, λ p. p)) in
    subst (λ n. LinksAdded result s u (R n (node_at j Kind) (node_at j Exit))) is_node
    (subst (λ a. LinksAdded result s u (R node a (node_at j Exit))) is_ends (subst (λ b. LinksAdded result s u (R node ends b)) is_out all))

pub at_targets : (facts : List NumberedFact) (node : InstanceNode) (pc : ℕ) (asked : Option ℕ) (targets : List Target) → asked ≡ call_pc node.kind → asked ≡ Some pc
    → ((t : Target) → Contains targets t ↔ IsTargetAt facts node.instance pc t) → (l : Link InstanceNode) → From targets (TargetLink node) l ↔ LinkAt facts node l
at_targets facts node pc asked targets told is each l = (there, back)
  where
    there : From targets (TargetLink node) l → LinkAt facts node l
    there (t, among, links) = record { pc = pc; is_call = sym told ∙ is; target = t; is_target = (each t).0 among; links = links }

    back : LinkAt facts node l → From targets (TargetLink node) l
    back at =
        let e : at.pc ≡ pc = same_Some at.pc pc (sym at.is_call ∙ sym told ∙ is) in
        (at.target, (each at.target).1 (subst (λ p. IsTargetAt facts node.instance p at.target) e at.is_target), at.links)

pub no_call : (graph : Growing) (facts : List NumberedFact) (node : InstanceNode) (asked : Option ℕ) → asked ≡ call_pc node.kind → asked ≡ None → AddsLinks graph graph (LinkAt facts node)
no_call graph facts node asked told is = adds_none graph (LinkAt facts node) none
  where
    differ : (pc : ℕ) → None ≡ Some pc → ⊥
    differ pc e = absurd (cc)

    none : (l : Link InstanceNode) → Stands (InTable graph.nodes) l → LinkAt facts node l → ⊥
    none l stands at = differ at.pc (sym is ∙ told ∙ at.is_call)
