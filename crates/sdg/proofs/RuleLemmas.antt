-- What goes between calls and their targets, and the flow edges of an instance, are by the rules of the dependence graph.
use Rattle.std.proofs.Common.{ℕ, List, sym, subst}
use Rattle.jo_prog.specs.declared.program.Program.{Program}
use Rattle.jo_prog.specs.declared.labels.Labels.{Labels}
use Rattle.contexts.specs.Policies.{ContextPolicy}
use Rattle.dep_nodes.specs.declared.kinds.NodeKind.{NodeKind}
use Rattle.dep_nodes.specs.declared.kinds.EdgeKind.{EdgeKind}
use Rattle.dependence.specs.declared.facts.InstKey.{InstKey}
use Rattle.dependence.specs.declared.facts.Fact.{Fact}
use Rattle.dependence.specs.declared.facts.Fact.TheVariants.{Reached}
use Rattle.dependence.specs.FlowGraph.{EdgeOf}
use Rattle.dependence.specs.DependenceEdges.{EdgeByWord, IsGraphFlow}
use Rattle.dependence.specs.DependenceEdges
use Rattle.sdg.specs.Links.{Link, link, by_word}
use Rattle.sdg.specs.NamedGraphs.{Spot, spot}
use Rattle.sdg.specs.FlowLinks.{Within}
use Rattle.sdg.specs.LinkRules.{LinkByRule, IsTargetWord}
use Rattle.sdg.specs.TargetRules.{ByTarget, gives_argument, calls, comes_back, brings_value, brings_exception, behind_call, starts, starts_on}

pub target_by_rule : (program : Program) (labels : Labels) (policy : ContextPolicy) (facts : Fact (List ℕ) → Type 0) (H : ℕ → ℕ → ℕ → Type 0) (l : Link Spot) → ByTarget facts l → LinkByRule program labels policy facts H l
target_by_rule program labels policy facts H _ (gives_argument i j pc k has) = DependenceEdges.gives_argument i j pc k has
target_by_rule program labels policy facts H _ (calls i j pc has) = DependenceEdges.calls i j pc has
target_by_rule program labels policy facts H _ (comes_back i j pc has) = DependenceEdges.comes_back i j pc has
target_by_rule program labels policy facts H _ (brings_value i j pc has) = DependenceEdges.brings_value i j pc has
target_by_rule program labels policy facts H _ (brings_exception i j pc has) = DependenceEdges.brings_exception i j pc has
target_by_rule program labels policy facts H _ (behind_call i j pc has) = λ from to. DependenceEdges.behind_call i j pc has from to
target_by_rule program labels policy facts H _ (starts i j pc has) = DependenceEdges.starts i j pc has
target_by_rule program labels policy facts H _ (starts_on i j pc has) = DependenceEdges.starts_on i j pc has

pub rule_by_target : (program : Program) (labels : Labels) (policy : ContextPolicy) (facts : Fact (List ℕ) → Type 0) (H : ℕ → ℕ → ℕ → Type 0) (i j : InstKey (List ℕ)) (a b : NodeKind) (word : EdgeKind)
    → IsTargetWord word → EdgeByWord program labels policy facts H i a word j b → ByTarget facts (link (spot i a) (by_word word) (spot j b))
rule_by_target program labels policy facts H _ _ _ _ _ is (DependenceEdges.used i d n v reaches reads) = absurd is
rule_by_target program labels policy facts H _ _ _ _ _ is (DependenceEdges.passed i d pc k v reaches at) = absurd is
rule_by_target program labels policy facts H _ _ _ _ _ is (DependenceEdges.raised i pc n throws edge) = absurd is
rule_by_target program labels policy facts H _ _ _ _ _ is (DependenceEdges.asked i pc uses) = absurd is
rule_by_target program labels policy facts H _ _ _ _ _ is (DependenceEdges.controlled i b n controls) = absurd is
rule_by_target program labels policy facts H _ _ _ _ _ is (DependenceEdges.gives i pc stands) = absurd is
rule_by_target program labels policy facts H _ _ _ _ _ is (DependenceEdges.ends i pc stands) = absurd is
rule_by_target program labels policy facts H _ _ _ _ _ is (DependenceEdges.ends_by_throwing i pc edge) = absurd is
rule_by_target program labels policy facts H _ _ _ _ _ is (DependenceEdges.throws i pc edge) = absurd is
rule_by_target program labels policy facts H _ _ _ _ _ is (DependenceEdges.through_heap i j a b heap) = absurd is
rule_by_target program labels policy facts H _ _ _ _ _ is (DependenceEdges.gives_argument i j pc k has) = gives_argument i j pc k has
rule_by_target program labels policy facts H _ _ _ _ _ is (DependenceEdges.calls i j pc has) = calls i j pc has
rule_by_target program labels policy facts H _ _ _ _ _ is (DependenceEdges.comes_back i j pc has) = comes_back i j pc has
rule_by_target program labels policy facts H _ _ _ _ _ is (DependenceEdges.brings_value i j pc has) = brings_value i j pc has
rule_by_target program labels policy facts H _ _ _ _ _ is (DependenceEdges.brings_exception i j pc has) = brings_exception i j pc has
rule_by_target program labels policy facts H _ _ _ _ _ is (DependenceEdges.starts i j pc has) = starts i j pc has
rule_by_target program labels policy facts H _ _ _ _ _ is (DependenceEdges.starts_on i j pc has) = starts_on i j pc has

pub flow_by_rule : (program : Program) (labels : Labels) (policy : ContextPolicy) (facts : Fact (List ℕ) → Type 0) (H : ℕ → ℕ → ℕ → Type 0) (i : InstKey (List ℕ)) (l : Link Spot) → facts (Reached i)
    → Within i (EdgeOf program facts (H i.method) i) l → LinkByRule program labels policy facts H l
flow_by_rule program labels policy facts H i l runs within =
    subst (LinkByRule program labels policy facts H) (sym within.is) (λ from to. DependenceEdges.within_instance i within.from within.to runs within.edge)
