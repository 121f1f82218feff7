use Rattle.std.proofs.Common.{take}
use Rattle.jo_prog.specs.TypingPaths.{HasHeightAt}
use Rattle.fact_sets.specs.Seen.{Known, instance_seen}
use Rattle.fact_rules.specs.Adds.{From}
use Rattle.fact_rules.specs.Additions.{AddsSeen}
use Rattle.fact_rules.specs.Places.{instance_of}
use Rattle.fact_rules.specs.ValueSteps.{UseHands}
use Rattle.fact_rules.proofs.value_rules.hand_over.Given as goal

abbrev pub invariant-loop-u : goal.invariant-loop-u
invariant-loop-u g l = AddsSeen l.initial.following.items l.following.items
    (λ list. From (take l.u-index l.u-items) (UseHands l.view.program.now (Known list l.facts) (HasHeightAt l.view.program.now l.view.method) (instance_seen list (instance_of l.view.method l.context)) l.view.wide.now l.pc))
