use Rattle.std.proofs.Common.{get_or, OnOk, sym, subst}
use Rattle.std.proofs.lemmas.Result.{on_ok_weaker}
use Rattle.dep_nodes.specs.declared.kinds.NodeKind.{NodeKind}
use Rattle.dep_nodes.specs.declared.kinds.NodeKind.TheVariants.{Exit, RetKind}
use Rattle.thread_regions.specs.declared.search.Spot.TheVariants.{Node, EndOf, BackAt}
use Rattle.thread_regions.specs.Searches.{AddsSpots, Just, KindPart}
use Rattle.thread_regions.proofs.SpotLemmas.{adds_same}
use Rattle.thread_regions.proofs.search.add_return.Goals as goal

pub returns-in-Exit : goal.returns-in-Exit
returns-in-Exit c =
    let ends = c.args.ends.now in
    let calls = c.args.calls.now in
    let old = c.args.search.now in
    let new = c.connect.new.search in
    subst (λ (k : NodeKind). OnOk c.connect.result (AddsSpots old new (KindPart ends calls c.args.n k))) (sym c.in-Exit.is)
    (on_ok_weaker c.connect.result (λ adds. adds_same old new (Just (Node c.args.n) (EndOf (get_or ends c.args.n 0))) (KindPart ends calls c.args.n Exit) adds (λ a b. (λ h. h, λ h. h))) c.connect.ensures)

pub returns-in-RetKind : goal.returns-in-RetKind
returns-in-RetKind c =
    let ends = c.args.ends.now in
    let calls = c.args.calls.now in
    let old = c.args.search.now in
    let new = c.connect-in-RetKind.new.search in
    subst (λ (k : NodeKind). OnOk c.connect-in-RetKind.result (AddsSpots old new (KindPart ends calls c.args.n k))) (sym c.in-RetKind.is)
    (on_ok_weaker c.connect-in-RetKind.result
    (λ adds. adds_same old new (Just (BackAt (get_or calls c.args.n 0)) (Node c.args.n)) (KindPart ends calls c.args.n (RetKind c.in-RetKind.field-0)) adds (λ a b. (λ h. h, λ h. h))) c.connect-in-RetKind.ensures)
