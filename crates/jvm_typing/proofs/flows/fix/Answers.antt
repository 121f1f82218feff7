use Rattle.std.proofs.Common.{rules, ◌≡◌, sym, subst}
use Rattle.jvm_typing.specs.declared.sources.Source.{Source as SourceHere}
use Rattle.jvm_typing.specs.declared.sources.Source.TheVariants.{Fixed, FromPlace}
use Rattle.jvm_typing.specs.KindPasses.{items_of, Grows, Fixes}
use Rattle.jvm_typing.specs.Sources.{source_in}
use Rattle.jvm_typing.proofs.GrowLemmas.{grows_none}
use Rattle.jvm_typing.proofs.flows.fix.Goals as goal

pub returns-in_ok-add_fact-in-Fixed : goal.returns-in_ok-add_fact-in-Fixed
returns-in_ok-add_fact-in-Fixed c =
    let is : c.args.source ≡ Fixed c.in-Fixed.kind = search rules in
    subst (λ (s : SourceHere). Grows (Fixes c.args.to c.args.place (source_in s)) (items_of c.args.facts.now) (items_of c.add_fact.new.facts)) (sym is) c.in_ok-add_fact-in-Fixed.ensures

pub returns-in-FromPlace : goal.returns-in-FromPlace
returns-in-FromPlace c =
    let is : c.args.source ≡ FromPlace c.in-FromPlace.field-0 c.in-FromPlace.field-1 = search rules in
    subst (λ (s : SourceHere). Grows (Fixes c.args.to c.args.place (source_in s)) (items_of c.args.facts.now) (items_of c.args.facts.now)) (sym is)
    (grows_none (Fixes c.args.to c.args.place (source_in (FromPlace c.in-FromPlace.field-0 c.in-FromPlace.field-1))) (items_of c.args.facts.now) (λ x never. never))
