use Rattle.std.proofs.Common.{List, Contains, refl, subst}
use Rattle.jo_prog.specs.declared.typed.TypeFault.{TypeFault}
use Rattle.jvm_typing.specs.declared.facts.Fact.{Fact}
use Rattle.typing_heights.specs.Adds.{Adds}
use Rattle.typing_heights.specs.FirstFaults.{IsFirstOf}
use Rattle.jvm_typing.specs.KindFaults.{IsKindFault}
use Rattle.typing_heights.specs.Subjects.{program_of, typable_of}
use Rattle.jvm_typing.proofs.FirstAnswerLemmas.{first_answer, joined}
use Rattle.jvm_typing.proofs.typing_methods.first_fault.Goals as goal

pub returns : goal.returns
returns c =
    let s = c.args.subject.now in
    let p = program_of s in
    let t = typable_of s in
    let heights = c.args.heights.now in
    let facts = c.in_ok-facts.facts.items in
    let adds = subst (λ (fs : List Fact). Adds (Contains c.in_ok-found.found.items) (Contains c.add_kind_faults.new.found.items) (IsKindFault p t heights fs)) c.as_slice-2.ensures.value c.in_ok-add_kind_faults.ensures in
    first_answer p s.number t (refl, c.requires.subject.found, c.requires.subject.has_code) heights c.requires.heights facts c.in_ok-facts.ensures c.add_kind_faults.new.found.items
    (joined p t heights facts c.in_ok-found.found.items c.add_kind_faults.new.found.items c.in_ok-found.ensures adds) c.first_of.result
    (subst (λ (l : List TypeFault). IsFirstOf l c.first_of.result) c.as_slice-3.ensures.value c.first_of.ensures)
