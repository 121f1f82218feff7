use Rattle.typing_heights.specs.Subjects.{program_of, typable_of}
use Rattle.jvm_typing.specs.KindPasses.{items_of}
use Rattle.jvm_typing.proofs.FlowLemmas.{kinds_alike}
use Rattle.jvm_typing.proofs.flows.kinds_in_order.Goals as goal

pub returns : goal.returns
returns c =
    let s = c.args.subject.now in
    kinds_alike (program_of s) (typable_of s) c.args.heights.now c.requires.heights (items_of c.in_ok-table.table) (items_of c.in_ok-facts.facts.items) c.in_ok-table.ensures c.in_ok-facts.ensures
