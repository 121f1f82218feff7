use Rattle.hierarchy.specs.Cycles.{HasEdgesOf}
use Rattle.hierarchy.proofs.cycles.digraph_of.Given as goal

abbrev pub invariant-loop-number : goal.invariant-loop-number
invariant-loop-number l = HasEdgesOf l.graph l.made l.number
