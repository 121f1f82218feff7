use Rattle.std.proofs.Common.{◌≡◌, ◌∙◌, ◌++◌, ◌∷◌, [], ℕ, ◌+◌, List, length, get_or, length-append, ap, sym, subst, arith}
use Rattle.summary_edges.specs.Pairs.{IsPairRow}
use Rattle.summary_edges.proofs.RowLemmas.{row_more, all_rows}
use Rattle.summary_edges.proofs.pairs.pairs.Goals as goal

pub loop-to-preserved : goal.loop-to-preserved
loop-to-preserved c =
    let e : c.push.new.self.items ≡ c.loop-to.rows.items ++ c.in_ok-row.row ∷ [] = c.in_ok-push.ensures.items in
    let last : IsPairRow c.args.graph.now c.loop-to.to c.in_ok-row.row = subst (λ k. IsPairRow c.args.graph.now k c.in_ok-row.row) c.of.ensures c.in_ok-row.ensures.pairs in
    record {
      same_length = ap (λ (rows : List (List ℕ)). length rows) e ∙ length-append c.loop-to.rows.items (c.in_ok-row.row ∷ []) ∙ ap (λ k. k + 1) c.loop-to.invariant.same_length;
      each = λ n below.
          subst (λ (rows : List (List ℕ)). IsPairRow c.args.graph.now n (get_or rows n [])) (sym e)
          (row_more c.args.graph.now c.loop-to.rows.items c.in_ok-row.row c.loop-to.to c.loop-to.invariant.same_length c.loop-to.invariant.each last n below);
      room = c.in_ok-row.ensures.found ∙ c.loop-to.invariant.room;
      work = c.in_ok-row.ensures.work ∙ c.loop-to.invariant.work;
    }

pub returns : goal.returns
returns c = all_rows c.args.graph.now c.loop-to.rows.items (c.loop-to.invariant.same_length ∙ omega arith) (λ n below. c.loop-to.invariant.each n (omega (arith, below)))
