use Rattle.std.proofs.Common.{◌≡◌, ◌++◌, drop}
use Rattle.std.specs.List.{flat_map}
use Rattle.flow_graph.specs.Steps.{pc_of, jump_to}
use Rattle.flow_graph.proofs.steps.add_each_jump.Given as goal

abbrev pub invariant-loop-target : goal.invariant-loop-target
invariant-loop-target l =
    l.steps.items ++ flat_map (λ target. jump_to l.program l.method l.pc (pc_of target)) (drop l.target-index l.targets)
    ≡ l.initial.steps.items ++ flat_map (λ target. jump_to l.program l.method l.pc (pc_of target)) l.targets
