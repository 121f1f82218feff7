use Rattle.std.proofs.Common.{◌≡◌, ◌+◌, ◌++◌, ◌∷◌, [], slice_get, Some, take, Contains, sym, ◌∙◌, ap, subst, arith}
use Rattle.std.proofs.lemmas.Bool.{both_ways, not-true, not-false}
use Rattle.std.proofs.lemmas.List.{take_more}
use Rattle.std.proofs.lemmas.Option.{slice_get-get_or}
use Rattle.jo_order.specs.Orders.{IsRepeated}
use Rattle.jo_order.proofs.NameLemmas.{HasSeen, seen_none, seen_more}
use Rattle.jo_order.proofs.OrderLemmas.{none_more, least_after, is_repeated, not_repeated}
use Rattle.jo_order.proofs.naming.first_repeated.Goals as goal

pub returns-then-not-branch-clause-found : goal.returns-then-not-branch-clause-found
returns-then-not-branch-clause-found c =
    let names = c.args.names.now in
    let place = c.loop-place.place in
    let name = c.index-names-place.result in
    let there : slice_get names place ≡ Some name = slice_get-get_or names place name c.loop-place-test.true ∙ ap (λ n. Some n) (sym c.index-names-place.is) in
    let among = c.loop-place.invariant.0.among c.as_slice.result (not-false _ (sym c.in_ok-insert.ensures.added ∙ c.if-not-branch.true)) in
    least_after (IsRepeated names) place c.loop-place.invariant.1
    (is_repeated names place name c.loop-place-test.true there (subst (λ n. Contains (take place names) n) c.as_slice.ensures among))

pub loop-place-init : goal.loop-place-init
loop-place-init c = (seen_none c.new-seen.result c.new-seen.ensures.empty, λ k h. absurd (omega (arith, h)))

pub loop-place-preserved : goal.loop-place-preserved
loop-place-preserved c =
    let names = c.args.names.now in
    let place = c.loop-place.place in
    let name = c.index-names-place.result in
    let key = c.as_slice.result in
    let seen = c.loop-place.invariant.0 in
    let there : slice_get names place ≡ Some name = slice_get-get_or names place name c.loop-place-test.true ∙ ap (λ n. Some n) (sym c.index-names-place.is) in
    let more : take (place + 1) names ≡ take place names ++ key.now ∷ [] =
    take_more names place name c.loop-place-test.true ∙ ap (λ n. take place names ++ n ∷ []) (sym c.index-names-place.is ∙ sym c.as_slice.ensures) in (
      subst (λ ns. HasSeen ns c.insert.new.self) (sym more) (seen_more (take place names) c.loop-place.seen c.insert.new.self key seen c.in_ok-insert.ensures.updates),
      none_more (IsRepeated names) place c.loop-place.invariant.1
          (not_repeated names place name there (λ among. both_ways _ (not-true _ (sym c.in_ok-insert.ensures.added ∙ c.if-not-branch.false))
          (seen.has key (subst (λ n. Contains (take place names) n) (sym c.as_slice.ensures) among)))),
    )

pub returns-clause-none : goal.returns-clause-none
returns-clause-none c = λ place repeated. c.loop-place.invariant.1 place (omega (arith, repeated.inside)) repeated
