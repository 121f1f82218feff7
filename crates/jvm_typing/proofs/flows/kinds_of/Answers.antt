use Rattle.std.proofs.Common.{rules, ◌≡◌, Some, None}
use Rattle.std.specs.Prelude.{slice_get}
use Rattle.typing_heights.specs.Subjects.{program_of, typable_of}
use Rattle.jvm_typing.specs.KindPasses.{item_in, items_of}
use Rattle.jvm_typing.proofs.FlowLemmas.{found_more, found_kinds}
use Rattle.jvm_typing.proofs.BehindLemmas.{item_at, no_item_at}
use Rattle.jvm_typing.proofs.flows.kinds_of.Goals as goal

pub loop-number-preserved : goal.loop-number-preserved
loop-number-preserved c =
    let s = c.args.subject.now in
    let at : slice_get c.loop-number.facts c.loop-number.number ≡ Some c.in-Some.fact = search rules in
    found_more (program_of s) (typable_of s) c.args.heights.now c.requires.heights c.loop-number.number (items_of c.loop-number.facts) (items_of c.carry_on.new.facts) (item_in c.in-Some.fact)
    (item_at c.loop-number.facts c.loop-number.number c.in-Some.fact at) c.in_ok-carry_on-in-Some.ensures c.loop-number.invariant

pub returns-in-None : goal.returns-in-None
returns-in-None c =
    let s = c.args.subject.now in
    let past : slice_get c.loop-number.facts c.loop-number.number ≡ None = search rules in
    found_kinds (program_of s) (typable_of s) c.args.heights.now c.requires.heights c.loop-number.number (items_of c.loop-number.facts) (no_item_at c.loop-number.facts c.loop-number.number past) c.loop-number.invariant
