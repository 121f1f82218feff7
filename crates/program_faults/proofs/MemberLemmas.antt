-- Classes that lack a member, as a relation and as a test.
use Rattle.std.proofs.Common.{◌≡◌, ℕ, ◌<◌, true, length}
use Rattle.jo_prog.specs.declared.program.Program.{Program}
use Rattle.program_faults.specs.UsedOperands.{uses_of}
use Rattle.program_faults.specs.MemberFaults.{is_wrong_use, LacksMember, lacks_member}
use Rattle.program_faults.proofs.FirstLemmas.{some_item, some_passes}
use Rattle.program_faults.proofs.UseLemmas.{with_use}

module _ (program : Program) (c : ℕ) where
  pub lacks : lacks_member program c ≡ true → LacksMember program c
  lacks h =
      let found = some_item (is_wrong_use program c) (uses_of program c) h in
      record { used = found.0; is_there = found.1; is_wrong = found.2 }

  pub is_lacking : LacksMember program c → lacks_member program c ≡ true
  is_lacking l = some_passes (is_wrong_use program c) (uses_of program c) l.used l.is_there l.is_wrong

  pub is_inside : LacksMember program c → c < length program.classes
  is_inside l = with_use program c l.used l.is_there
