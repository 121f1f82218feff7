use Rattle.std.proofs.Common.{◌≡◌, List, Contains, sym, subst}
use Rattle.summary_edges.specs.declared.joins.Join.{Join}
use Rattle.summary_edges.specs.Adds.{Adds}
use Rattle.summary_edges.specs.Levels.{joined}
use Rattle.summary_edges.proofs.AddsLemmas.{over_none, over_item, over_all, adds_push}
use Rattle.summary_edges.proofs.joins.join_each.Goals as goal

pub loop-into-init : goal.loop-into-init
loop-into-init c = over_none c.args.intos.now _ _

pub loop-into-preserved : goal.loop-into-preserved
loop-into-preserved c =
    over_item c.args.intos.now (λ into (j : Join). j ≡ joined c.args.from into c.args.out c.args.to) (Contains c.args.joins.now.items) (Contains c.loop-into.joins.items) (Contains c.push.new.self.items) c.loop-into.into-index
    c.into-item.result c.loop-into-test.true c.into-item.is c.loop-into.invariant
    (subst (λ (items : List Join). Adds (Contains c.loop-into.joins.items) (Contains items) (λ j. j ≡ joined c.args.from c.into-item.result c.args.out c.args.to)) (sym c.in_ok-push.ensures.items)
    (adds_push c.loop-into.joins.items (joined c.args.from c.into-item.result c.args.out c.args.to)))

pub returns : goal.returns
returns c =
    over_all c.args.intos.now (λ into (j : Join). j ≡ joined c.args.from into c.args.out c.args.to) (Contains c.args.joins.now.items) (Contains c.loop-into.joins.items) c.loop-into.into-index c.loop-into-test.false c.loop-into.invariant
