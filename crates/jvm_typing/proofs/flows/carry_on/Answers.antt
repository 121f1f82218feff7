use Rattle.std.proofs.Common.{rules, ◌≡◌, Some, None, Option, subst}
use Rattle.std.specs.Prelude.{slice_index_or}
use Rattle.typing_heights.specs.Subjects.{program_of, typable_of}
use Rattle.jvm_typing.specs.declared.stops.Stop.{Stop}
use Rattle.jvm_typing.specs.KindPasses.{item_in, items_of, CarriesFrom}
use Rattle.jvm_typing.specs.Stops.{IsStopAt}
use Rattle.jvm_typing.proofs.GrowLemmas.{grows_none}
use Rattle.jvm_typing.proofs.BehindLemmas.{carries_nothing}
use Rattle.jvm_typing.proofs.flows.carry_on.Goals as goal

pub carry_from-requires-clause-stop : goal.carry_from-requires-clause-stop
carry_from-requires-clause-stop c =
    let s = c.args.subject.now in
    let is : slice_index_or c.args.stops.now c.args.fact.now.pc None ≡ Some c.in-Some.stop.now = search rules in
    subst (λ (o : Option Stop). IsStopAt (program_of s) (typable_of s) c.args.heights.now c.args.fact.now.pc o) is (c.requires.stops c.args.fact.now.pc)

pub returns-in-None : goal.returns-in-None
returns-in-None c =
    let s = c.args.subject.now in
    let is : slice_index_or c.args.stops.now c.args.fact.now.pc None ≡ None = search rules in
    grows_none (CarriesFrom (program_of s) (typable_of s) c.args.heights.now (item_in c.args.fact.now)) (items_of c.args.facts.now)
    (carries_nothing (program_of s) (typable_of s) c.args.heights.now (item_in c.args.fact.now) (subst (λ (o : Option Stop). IsStopAt (program_of s) (typable_of s) c.args.heights.now c.args.fact.now.pc o) is (c.requires.stops c.args.fact.now.pc)))
