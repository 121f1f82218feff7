use Rattle.std.proofs.Common.{ℕ, eqb, List, ◌∙◌, ap}
use Rattle.std.proofs.lemmas.List.Filters.{dedup_is}
use Rattle.typing_heights.specs.Marks.{all_marked, handlers_marked}
use Rattle.typing_heights.proofs.VisitLemmas.{spread_is}
use Rattle.typing_heights.proofs.search.spread.Goals as goal

pub returns : goal.returns
returns c =
    let onward = c.args.onward.now in
    let old = c.args.heights.now in
    let first = c.in_ok-mark_all.ensures
    ∙ ap (λ (l : List ℕ). all_marked onward.height l (record { heights = old; found = c.new-found.result.items })) c.as_slice.ensures
    ∙ ap (λ (f : List ℕ). all_marked onward.height onward.plain (record { heights = old; found = f })) c.new-found.ensures.items in
    let second = c.in_ok-mark_handlers.ensures
    ∙ ap (λ l. handlers_marked c.args.pc l (record { heights = c.mark_all.new.heights; found = c.mark_all.new.found.items })) c.as_slice-2.ensures in
    spread_is c.args.subject.now.code.now c.args.pc onward old c.mark_all.new.heights c.mark_handlers.new.heights c.mark_all.new.found.items c.mark_handlers.new.found.items
    c.sort.new.self.items c.dedup.new.self.items first second c.in_ok-sort.ensures.permutation c.in_ok-sort.ensures.sorted
    (dedup_is eqb c.sort.new.self.items c.dedup.new.self.items c.dedup.ensures.filtered)
