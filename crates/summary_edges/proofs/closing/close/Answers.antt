use Rattle.std.proofs.Common.{List, length, false, ◌∙◌, ap, subst, arith}
use Rattle.std.proofs.lemmas.List.{length-replicate}
use Rattle.summary_edges.specs.declared.joins.Join.{Join}
use Rattle.summary_edges.specs.Levels.{IsRound}
use Rattle.summary_edges.proofs.ClosingLemmas.{closing_first, closing_more, closing_last}
use Rattle.summary_edges.proofs.closing.close.Goals as goal

pub loop-joins-init : goal.loop-joins-init
loop-joins-init c = record {
  closing = closing_first c.args.graph.now c.args.levels.now c.args.joins.items c.requires.levels c.requires.joins;
  room = ap length c.in_ok-found.ensures ∙ length-replicate c.len.result false ∙ c.len.ensures;
  work = c.in_ok-work.ensures ∙ c.len-2.ensures;
}

pub loop-joins-preserved : goal.loop-joins-preserved
loop-joins-preserved c =
    let round = subst (λ (js : List Join). IsRound c.args.graph.now js c.loop-joins.levels c.lead_over.new.levels c.in_ok-left.left.items) c.as_slice.ensures.value c.in_ok-left.ensures.round in
    record {
      closing = closing_more c.args.graph.now c.loop-joins.levels c.lead_over.new.levels c.loop-joins.joins.items c.in_ok-left.left.items c.loop-joins.invariant.closing round;
      room = c.in_ok-left.ensures.found ∙ c.loop-joins.invariant.room;
      work = c.in_ok-left.ensures.work ∙ c.loop-joins.invariant.work;
    }

pub loop-joins-smaller : goal.loop-joins-smaller
loop-joins-smaller c =
    let round = subst (λ (js : List Join). IsRound c.args.graph.now js c.loop-joins.levels c.lead_over.new.levels c.in_ok-left.left.items) c.as_slice.ensures.value c.in_ok-left.ensures.round in
    omega (arith, round.fewer, c.in_ok-left.left.ok.0, c.loop-joins.joins.ok.0, c.if-len.false, c.len-in-loop-joins.ensures, c.len-in-loop-joins-2.ensures)

pub returns-then-len : goal.returns-then-len
returns-then-len c =
    let round = subst (λ (js : List Join). IsRound c.args.graph.now js c.loop-joins.levels c.lead_over.new.levels c.in_ok-left.left.items) c.as_slice.ensures.value c.in_ok-left.ensures.round in
    closing_last c.args.graph.now c.loop-joins.levels c.lead_over.new.levels c.loop-joins.joins.items c.in_ok-left.left.items c.loop-joins.invariant.closing round
    (omega (arith, c.in_ok-left.left.ok.0, c.loop-joins.joins.ok.0, c.if-len.true, c.len-in-loop-joins.ensures, c.len-in-loop-joins-2.ensures))
