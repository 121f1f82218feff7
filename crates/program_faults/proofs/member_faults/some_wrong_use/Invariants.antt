use Rattle.std.proofs.Common.{◌≡◌, drop}
use Rattle.std.specs.List.{list_any}
use Rattle.program_faults.specs.MemberFaults.{is_wrong_use}
use Rattle.program_faults.proofs.member_faults.some_wrong_use.Given as goal

-- what is left decides
abbrev pub invariant-loop-used : goal.invariant-loop-used
invariant-loop-used l = list_any (is_wrong_use l.program l.class) (drop l.used-index l.uses) ≡ list_any (is_wrong_use l.program l.class) l.uses
