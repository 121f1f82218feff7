use Rattle.std.proofs.Common.{List, sym, subst}
use Rattle.dep_nodes.specs.declared.kinds.NodeKind.{NodeKind}
use Rattle.dependence.specs.WideGraph.{WideStep}
use Rattle.flow_graph.specs.Adding.{HasThose}
use Rattle.flow_graph.proofs.StepLemmas.{steps_are}
use Rattle.flow_graph.proofs.exploring.wide_steps.Goals as goal

pub returns : goal.returns
returns c =
    let program = c.args.program.now in
    subst (λ (xs : List NodeKind). HasThose (WideStep program c.args.method c.args.kind) xs) (sym c.in_ok-steps.ensures) (λ b. steps_are program c.args.method c.args.kind b c.requires.there)
