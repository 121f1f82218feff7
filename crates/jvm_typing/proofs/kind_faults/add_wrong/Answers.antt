use Rattle.std.proofs.Common.{rules, ◌≡◌, true, false, None, Contains}
use Rattle.std.specs.Prelude.{is_some}
use Rattle.jvm_typing.specs.KindFaults.{is_wrong}
use Rattle.typing_heights.specs.Searches.{height_at}
use Rattle.typing_heights.specs.Subjects.{program_of, typable_of}
use Rattle.jvm_typing.proofs.FailLemmas.{not_reached, not_wrong, wrong_added}
use Rattle.jvm_typing.proofs.kind_faults.add_wrong.Goals as goal

pub returns-in_default : goal.returns-in_default
returns-in_default c =
    let s = c.args.subject.now in
    let none : height_at c.args.heights.now c.args.pc ≡ None = search rules in
    not_reached (program_of s) (typable_of s) (Contains c.args.found.now.items) c.args.heights.now c.args.pc none

pub returns-else-wrong : goal.returns-else-wrong
returns-else-wrong c =
    let s = c.args.subject.now in
    let test : is_wrong (program_of s) (typable_of s) c.args.pc ≡ false = search rules in
    not_wrong (program_of s) (typable_of s) (Contains c.args.found.now.items) c.args.heights.now c.args.pc test

pub returns-in_ok-add_fault : goal.returns-in_ok-add_fault
returns-in_ok-add_fault c =
    let s = c.args.subject.now in
    let reached : is_some (height_at c.args.heights.now c.args.pc) ≡ true = search rules in
    let test : is_wrong (program_of s) (typable_of s) c.args.pc ≡ true = search rules in
    wrong_added (program_of s) (typable_of s) (Contains c.args.found.now.items) (Contains c.add_fault.new.found.items) c.args.heights.now c.args.pc reached test c.in_ok-add_fault.ensures
