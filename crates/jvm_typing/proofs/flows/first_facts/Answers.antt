use Rattle.typing_heights.specs.Subjects.{program_of, typable_of}
use Rattle.jvm_typing.specs.KindPasses.{items_of}
use Rattle.jvm_typing.proofs.FlowLemmas.{found_first}
use Rattle.jvm_typing.proofs.flows.first_facts.Goals as goal

pub returns : goal.returns
returns c =
    let s = c.args.subject.now in
    found_first (program_of s) (typable_of s) c.args.heights.now c.requires.heights (items_of c.in_ok-facts.facts) (items_of c.fix_all.new.facts) c.in_ok-facts.ensures c.in_ok-fix_all.ensures
