use Rattle.std.proofs.Common.{Contains}
use Rattle.typing_heights.specs.Subjects.{program_of, typable_of}
use Rattle.jvm_typing.proofs.FailLemmas.{all_added}
use Rattle.jvm_typing.proofs.kind_faults.add_kind_faults.Goals as goal

pub returns : goal.returns
returns c =
    let s = c.args.subject.now in
    all_added (program_of s) (typable_of s) (Contains c.args.found.now.items) (Contains c.add_all_failing.new.found.items) (Contains c.add_all_wrong.new.found.items) c.args.heights.now c.args.facts.now
    c.in_ok-add_all_failing.ensures c.in_ok-add_all_wrong.ensures
