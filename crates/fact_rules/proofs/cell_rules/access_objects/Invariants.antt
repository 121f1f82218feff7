use Rattle.std.proofs.Common.{take}
use Rattle.jo_prog.specs.TypingPaths.{HasHeightAt}
use Rattle.fact_sets.specs.Seen.{Known, instance_seen}
use Rattle.fact_rules.specs.Adds.{From}
use Rattle.fact_rules.specs.Additions.{AddsSeen, OfObject}
use Rattle.fact_rules.specs.Places.{instance_of}
use Rattle.fact_rules.specs.CellSteps.{CellGives, cell_on}
use Rattle.fact_rules.proofs.cell_rules.access_objects.Given as goal

abbrev pub invariant-loop-base : goal.invariant-loop-base
invariant-loop-base g l = AddsSeen l.initial.following.items l.following.items
    (λ list. From (take l.base-index l.bases) (OfObject list l.facts.objects (λ base. CellGives l.view.program.now (Known list l.facts) (HasHeightAt l.view.program.now l.view.method) (instance_seen list (instance_of l.view.method l.context)) l.pc l.store (cell_on l.field base))))
