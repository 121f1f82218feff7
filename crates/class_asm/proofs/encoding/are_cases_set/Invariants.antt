use Rattle.std.proofs.Common.{◌≡◌, drop}
use Rattle.class_asm.specs.Encoding.{are_cases_set}
use Rattle.class_asm.proofs.encoding.are_cases_set.Given as goal

abbrev pub invariant-loop-case : goal.invariant-loop-case
invariant-loop-case l = are_cases_set l.labels (drop l.case-index l.cases) ≡ are_cases_set l.labels l.cases
