use Rattle.std.proofs.Common.{◌≡◌, length, replicate, sym, ◌∙◌, ap, subst, rules}
use Rattle.std.proofs.lemmas.List.{take_at}
use Rattle.jo_order.specs.Closing.{AreInside, HasPairs, IsClosureOf, IsClosed}
use Rattle.jo_order.proofs.ClosingLemmas.{known_inside, is_closed}
use Rattle.jo_order.proofs.closing.closed_rows.Goals as goal

pub mark_pairs-requires-clause-inside : goal.mark_pairs-requires-clause-inside
mark_pairs-requires-clause-inside c =
    let len : c.args.count ≡ length c.as_mut_slice.result.now = search rules in
    subst (λ n. AreInside n c.args.pairs.now) len (known_inside c.args.count c.args.pairs.now c.requires.known)

pub returns-clause-closed : goal.returns-clause-closed
returns-clause-closed c =
    let pairs = c.args.pairs.now in
    let rows = c.in_ok-rows.rows in
    let marked = c.mark_pairs.new.rows in
    let closed = c.close.new.rows in
    let zeros : c.as_mut_slice.result.now ≡ replicate c.args.count 0 = search rules in
    let marked_len : length marked ≡ rows.len = c.mark_pairs.auto.rows ∙ c.as_mut_slice.ensures.len in
    let marked_is : c.as_mut_slice-2.result.now ≡ marked = c.as_mut_slice-2.ensures.value ∙ take_at marked _ rows.len marked_len in
    let closed_len : length closed ≡ rows.len = c.close.auto.rows ∙ ap length marked_is ∙ marked_len in
    subst (IsClosed pairs) (sym (take_at closed _ rows.len closed_len))
    (is_closed pairs c.args.count marked closed (subst (λ first. HasPairs pairs first marked) zeros c.mark_pairs.ensures)
    (subst (λ first. IsClosureOf first closed) marked_is c.close.ensures))
