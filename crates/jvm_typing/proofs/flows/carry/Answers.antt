use Rattle.std.proofs.Common.{rules, ◌≡◌, sym, subst}
use Rattle.jo_prog.specs.Typing.{Kind}
use Rattle.jo_prog.specs.Shapes.{changed}
use Rattle.jvm_typing.specs.declared.sources.Source.{Source as SourceHere}
use Rattle.jvm_typing.specs.declared.sources.Source.TheVariants.{Fixed, FromPlace}
use Rattle.typing_effects.specs.Kinds.{change_in}
use Rattle.jvm_typing.specs.KindPasses.{Item, item_in, items_of, Grows, Carries}
use Rattle.jvm_typing.specs.Sources.{source_in}
use Rattle.jvm_typing.proofs.GrowLemmas.{grows_none, grows_alike}
use Rattle.jvm_typing.proofs.flows.carry.Goals as goal

pub returns-in_default : goal.returns-in_default
returns-in_default c =
    let old = items_of c.args.facts.now in
    let y = item_in c.args.fact.now in
    let is : c.args.source ≡ Fixed c.in_default.field-0 = search rules in
    subst (λ (s : SourceHere). Grows (Carries c.args.program.now y c.args.to c.args.place (source_in s)) old old) (sym is)
    (grows_none (Carries c.args.program.now y c.args.to c.args.place (source_in (Fixed c.in_default.field-0))) old (λ x never. never))

pub returns-then-before-fact : goal.returns-then-before-fact
returns-then-before-fact c =
    let old = items_of c.args.facts.now in
    let y = item_in c.args.fact.now in
    let is : c.args.source ≡ FromPlace c.in-FromPlace.before c.in-FromPlace.change = search rules in
    let other : c.in-FromPlace.before ≡ c.args.fact.now.place → ⊥ = search rules in
    subst (λ (s : SourceHere). Grows (Carries c.args.program.now y c.args.to c.args.place (source_in s)) old old) (sym is)
    (grows_none (Carries c.args.program.now y c.args.to c.args.place (source_in (FromPlace c.in-FromPlace.before c.in-FromPlace.change))) old (λ x b. other b.0))

pub returns : goal.returns
returns c =
    let old = items_of c.args.facts.now in
    let new = items_of c.add_fact.new.facts in
    let p = c.args.program.now in
    let y = item_in c.args.fact.now in
    let before = c.in-FromPlace.before in
    let change = c.in-FromPlace.change in
    let is : c.args.source ≡ FromPlace before change = search rules in
    let same : before ≡ c.args.fact.now.place = search rules in
    let grows = subst (λ (k : Kind). Grows (λ (x : Item). x ≡ record { pc = c.args.to; place = c.args.place; kind = k }) old new) c.in_ok-kind.ensures c.in_ok-add_fact.ensures in
    subst (λ (s : SourceHere). Grows (Carries p y c.args.to c.args.place (source_in s)) old new) (sym is)
    (grows_alike (λ (x : Item). x ≡ record { pc = c.args.to; place = c.args.place; kind = changed p (change_in change) y.kind }) (Carries p y c.args.to c.args.place (source_in (FromPlace before change))) old new grows
    (λ x. (λ e. (same, e), λ b. b.1)))
