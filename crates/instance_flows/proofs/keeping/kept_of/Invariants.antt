use Rattle.jo_prog.specs.TypingPaths.{HasHeightAt}
use Rattle.instance_flows.specs.BySite.{BySite}
use Rattle.instance_flows.proofs.KeepLemmas.{KeptSoFar}
use Rattle.instance_flows.proofs.keeping.kept_of.Given as goal

abbrev pub invariant-loop-n : goal.invariant-loop-n
invariant-loop-n g l = KeptSoFar l.program l.method (BySite l.facts l.instance) (HasHeightAt l.program l.method) l.wide l.n l.rows.items
