use Rattle.dependence.specs.Listed.{AddsExactly}
use Rattle.reach_defs.proofs.UseLemmas.{IsUseTo}
use Rattle.reach_defs.proofs.uses.add_readers.Given as goal

abbrev pub invariant-loop-node : goal.invariant-loop-node
invariant-loop-node l = AddsExactly (IsUseTo l.flow l.d l.place l.node) l.initial.uses l.uses
