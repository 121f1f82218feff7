use Rattle.jo_prog.specs.TypingPaths.{HasHeightAt}
use Rattle.fact_sets.specs.Seen.{Known, instance_seen}
use Rattle.fact_rules.specs.Adds.{FromBelow}
use Rattle.fact_rules.specs.Additions.{AddsSeen}
use Rattle.fact_rules.specs.Places.{instance_of}
use Rattle.fact_rules.specs.CellSteps.{CellsAt}
use Rattle.fact_rules.proofs.cell_rules.follow_cells.Given as goal

abbrev pub invariant-loop-n : goal.invariant-loop-n
invariant-loop-n g l = AddsSeen l.initial.following.items l.following.items
    (λ list. FromBelow l.n (CellsAt l.view.program.now (Known list l.facts) (HasHeightAt l.view.program.now l.view.method) (instance_seen list (instance_of l.view.method l.context)) l.view.wide.now))
