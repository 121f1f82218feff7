use Rattle.std.proofs.Common.{rules, ◌≡◌, ◌≤◌, [], List, length, map, Contains, subst, arith}
use Rattle.std.proofs.lemmas.List.{length-map}
use Rattle.typing_effects.specs.declared.kinds.Kind.{Kind as KindHere}
use Rattle.typing_heights.specs.Adds.{Adds}
use Rattle.typing_effects.specs.Kinds.{kind_in}
use Rattle.jvm_typing.specs.KindPasses.{Item, items_of, StartAt}
use Rattle.typing_heights.specs.Subjects.{program_of, typable_of}
use Rattle.typing_heights.proofs.AddsLemmas.{below_step}
use Rattle.jvm_typing.proofs.StartLemmas.{starts_exact}
use Rattle.jvm_typing.proofs.starts.start_facts.Goals as goal

pub loop-place-preserved : goal.loop-place-preserved
loop-place-preserved c =
    let kinds = map kind_in c.in_ok-kinds.kinds.items in
    below_step (Contains {X = Item} []) (Contains (items_of c.loop-place.facts)) (Contains (items_of c.add_start.new.facts)) c.loop-place.place (StartAt kinds) c.loop-place.invariant
    (subst (λ (ks : List KindHere). Adds (Contains (items_of c.loop-place.facts)) (Contains (items_of c.add_start.new.facts)) (StartAt (map kind_in ks) c.loop-place.place)) c.as_slice.ensures.value c.in_ok-add_start.ensures)

pub returns : goal.returns
returns c =
    let s = c.args.subject.now in
    let kinds = map kind_in c.in_ok-kinds.kinds.items in
    let long = length-map c.in_ok-kinds.kinds.items kind_in in
    let len : c.len-place-end.result ≡ length c.in_ok-kinds.kinds.items = search rules in
    let past : length kinds ≤ c.loop-place.place = omega arith in
    starts_exact (program_of s) (typable_of s) (items_of c.loop-place.facts) kinds c.loop-place.place past c.in_ok-kinds.ensures c.loop-place.invariant
