use Rattle.std.proofs.Common.{get_or, OnOk, sym, subst}
use Rattle.std.proofs.lemmas.Result.{on_ok_weaker}
use Rattle.dep_nodes.specs.declared.kinds.EdgeKind.{EdgeKind}
use Rattle.dep_nodes.specs.declared.kinds.EdgeKind.TheVariants.{Call, Fork}
use Rattle.thread_regions.specs.declared.search.Spot.TheVariants.{Node, EndOf, BackAt, ChildOf}
use Rattle.thread_regions.specs.Searches.{AddsSpots, Just, EdgePart}
use Rattle.thread_regions.proofs.SpotLemmas.{adds_both}
use Rattle.thread_regions.proofs.search.add_edge.Goals as goal

pub returns-in_ok-connect-in-Call : goal.returns-in_ok-connect-in-Call
returns-in_ok-connect-in-Call c =
    let ends = c.args.ends.now in
    let calls = c.args.calls.now in
    let old = c.args.search.now in
    let new = c.connect-in-Call.new.search in
    subst (λ (k : EdgeKind). OnOk c.connect-in-Call.result (AddsSpots old new (EdgePart ends calls c.args.n (c.args.from, k)))) (sym c.in-Call.is)
    (on_ok_weaker c.connect-in-Call.result
    (λ second. adds_both old c.connect.new.search new (Just (Node c.args.from) (Node c.args.n)) (Just (EndOf (get_or ends c.args.n 0)) (BackAt (get_or calls c.args.from 0))) (EdgePart ends calls c.args.n (c.args.from, Call))
    c.in_ok-connect-in-Call.ensures second (λ a b. (λ h. h, λ h. h)))
    c.connect-in-Call.ensures)

pub returns-in_ok-connect-in-Fork : goal.returns-in_ok-connect-in-Fork
returns-in_ok-connect-in-Fork c =
    let ends = c.args.ends.now in
    let calls = c.args.calls.now in
    let old = c.args.search.now in
    let new = c.connect-in-Fork-2.new.search in
    subst (λ (k : EdgeKind). OnOk c.connect-in-Fork-2.result (AddsSpots old new (EdgePart ends calls c.args.n (c.args.from, k)))) (sym c.in-Fork.is)
    (on_ok_weaker c.connect-in-Fork-2.result
    (λ second. adds_both old c.connect-in-Fork.new.search new (Just (Node c.args.from) (Node c.args.n)) (Just (ChildOf c.args.from) (Node c.args.n)) (EdgePart ends calls c.args.n (c.args.from, Fork))
    c.in_ok-connect-in-Fork.ensures second (λ a b. (λ h. h, λ h. h)))
    c.connect-in-Fork-2.ensures)
