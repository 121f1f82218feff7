use Rattle.std.proofs.Common.{◌∙◌, List, ℕ, Some, sym, subst, arith}
use Rattle.std.specs.List.{Contains}
use Rattle.std.proofs.lemmas.Bool.{false≢true}
use borrow.Author.Count.{below_more}
use Rattle.hierarchy.specs.Cycles.{IsFirstOnCycle, LeadsTo}
use Rattle.hierarchy.proofs.CycleLemmas.{is_on_cycle, leads_back, none_on_cycle}
use Rattle.hierarchy.proofs.cycles.first_on_cycle.Goals as goal

pub leads_to-requires-clause-parents : goal.leads_to-requires-clause-parents
leads_to-requires-clause-parents c =
    λ p among. omega (arith, c.requires.inside c.loop-number.number p (subst (λ (ys : List ℕ). Contains ys p) c.edges_at-parents.ensures among), c.in_ok-made.ensures.same_length)

pub returns-then-leads_to : goal.returns-then-leads_to
returns-then-leads_to c =
    let lead : LeadsTo c.in_ok-made.made c.edges_at-parents.result.now c.loop-number.number = c.leads_to.ensures.leads.0 c.if-leads_to.true in
    let here = subst (λ (ys : List ℕ). LeadsTo c.in_ok-made.made ys c.loop-number.number) c.edges_at-parents.ensures lead in
    subst (λ n. IsFirstOnCycle c.args.graph.now (Some n)) (sym c.of.ensures)
    (is_on_cycle c.args.graph.now c.in_ok-made.made c.in_ok-made.ensures c.loop-number.number here, c.loop-number.invariant.none)

pub loop-number-preserved : goal.loop-number-preserved
loop-number-preserved c = record {
  found = c.leads_to.ensures.found ∙ c.in_ok-made.ensures.same_length;
  work = c.leads_to.ensures.work ∙ c.in_ok-made.ensures.same_length;
  none = below_more _ _ c.loop-number.invariant.none (λ cycle. false≢true (sym c.if-leads_to.false ∙ c.leads_to.ensures.leads.1
      (subst (λ (ys : List ℕ). LeadsTo c.in_ok-made.made ys c.loop-number.number) (sym c.edges_at-parents.ensures)
      (leads_back c.args.graph.now c.in_ok-made.made c.in_ok-made.ensures c.loop-number.number cycle))));
}

pub returns : goal.returns
returns c = none_on_cycle c.args.graph.now c.loop-number.number (omega arith) c.loop-number.invariant.none
