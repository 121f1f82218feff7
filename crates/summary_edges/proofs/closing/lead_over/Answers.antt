use Rattle.std.proofs.Common.{List, sym, ◌∙◌, subst, arith}
use Rattle.summary_edges.specs.declared.joins.Join.{Join}
use Rattle.summary_edges.proofs.ClosingLemmas.{Round, round_first, round_more, round_last, into_inside, to_inside, item_join, item_more}
use Rattle.summary_edges.proofs.closing.lead_over.Goals as goal

pub loop-join-init : goal.loop-join-init
loop-join-init c =
    let none = round_first c.args.graph.now c.args.joins.now c.args.levels.now c.len-last.result c.args.found.now c.requires.matched (omega arith) in
    let round = subst (λ (ls : List Join). Round c.args.graph.now c.args.joins.now c.args.levels.now c.args.levels.now ls 0 c.len-last.result c.args.found.now) (sym c.new-left.ensures.items) none in
    record { round = round; room = c.requires.found; work = c.requires.work }

pub reach_anew-requires-clause-start : goal.reach_anew-requires-clause-start
reach_anew-requires-clause-start c =
    let is = item_join c.args.graph.now c.args.joins.now c.loop-join.join-index c.join-item.result c.requires.joins c.loop-join-test.true c.join-item.is in
    omega (arith, is.ends.inside, c.loop-join.invariant.round.same_length)

pub has-through-requires : goal.has-through-requires
has-through-requires c =
    let is = item_join c.args.graph.now c.args.joins.now c.loop-join.join-index c.join-item.result c.requires.joins c.loop-join-test.true c.join-item.is in
    omega (arith, into_inside c.args.graph.now c.join-item.result is, c.loop-join.invariant.room)

pub lead-requires-clause-from : goal.lead-requires-clause-from
lead-requires-clause-from c =
    let is = item_join c.args.graph.now c.args.joins.now c.loop-join.join-index c.join-item.result c.requires.joins c.loop-join-test.true c.join-item.is in
    omega (arith, is.begins.inside, c.loop-join.invariant.round.same_length)

pub lead-requires-clause-to : goal.lead-requires-clause-to
lead-requires-clause-to c =
    let is = item_join c.args.graph.now c.args.joins.now c.loop-join.join-index c.join-item.result c.requires.joins c.loop-join-test.true c.join-item.is in
    omega (arith, to_inside c.args.graph.now c.join-item.result is, c.loop-join.invariant.round.same_length)

pub loop-join-preserved : goal.loop-join-preserved
loop-join-preserved c =
    let is = item_join c.args.graph.now c.args.joins.now c.loop-join.join-index c.join-item.result c.requires.joins c.loop-join-test.true c.join-item.is in
    let more = item_more c.args.joins.now c.loop-join.join-index c.join-item.result c.loop-join-test.true c.join-item.is in
    let next = round_more c.args.graph.now c.args.joins.now c.args.levels.now c.loop-join.levels c.loop-join.left.items c.loop-join.join-index c.loop-join.last c.loop-join.found c.loop-join.invariant.round c.join-item.result is more
    c.reach_anew.new.found c.number-out.result c.number-out.ensures c.reach_anew.ensures.anew c.reach_anew.ensures.same c.has-through.result c.number.result c.number.ensures c.has-through.ensures c.lead.new.levels c.lead.new.left.items
    c.in_ok-lead.ensures.ok in
    record {
      round = next;
      room = c.reach_anew.ensures.length ∙ c.loop-join.invariant.room;
      work = c.reach_anew.ensures.work ∙ c.loop-join.invariant.work;
    }

pub returns-clause-round : goal.returns-clause-round
returns-clause-round c =
    round_last c.args.graph.now c.args.joins.now c.args.levels.now c.loop-join.levels c.loop-join.left.items c.loop-join.join-index c.loop-join.last c.loop-join.found c.loop-join.invariant.round (omega arith)
