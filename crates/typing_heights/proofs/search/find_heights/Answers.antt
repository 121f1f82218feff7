use Rattle.std.proofs.Common.{rules, ◌≡◌, ℕ, suc, ◌+◌, ◌<◌, ◌≤◌, List, [], ◌∷◌, ◌++◌, Option, Some, None, length, get_or, set, replicate, drop, sym, ◌∙◌, ap, subst, arith}
use Rattle.std.proofs.lemmas.List.{take_at, length-set, length-replicate}
use Rattle.typing_heights.specs.Searches.{Advances}
use Rattle.typing_heights.specs.Subjects.{program_of, typable_of}
use Rattle.typing_heights.proofs.SearchState.{Searches}
use Rattle.typing_heights.proofs.SearchRuns.{begun, advanced, are_heights}
use Rattle.typing_heights.proofs.search.find_heights.Goals as goal

pub loop-done-init : goal.loop-done-init
loop-done-init c =
    let s = c.args.subject.now in
    let n = length s.code.now.bytes in
    let items : c.in_ok-heights.heights.items ≡ replicate (n + 1) None = search rules in
    let queue : c.push.new.self.items ≡ 0 ∷ [] = search rules in
    let table : List (Option ℕ) = set c.in_ok-heights.heights.items 0 (Some 0) in
    record {
      searches = subst (λ (q : List ℕ). Searches (program_of s) (typable_of s) table q 0) (sym queue)
          (begun (program_of s) (typable_of s) n table (ap (λ (h : List (Option ℕ)). set h 0 (Some 0)) items));
      room = (let l = length-set c.in_ok-heights.heights.items 0 (Some 0) in let m = ap length items in let r = length-replicate {A = Option ℕ} (n + 1) None in omega arith);
    }

pub loop-done-preserved : goal.loop-done-preserved
loop-done-preserved c =
    let s = c.args.subject.now in
    let new = c.advance.new.heights in
    let found = c.in_ok-found.found.items in
    let same = take_at new (drop (length new) c.loop-done.heights.items) c.loop-done.heights.len (c.advance.auto.heights ∙ c.as_mut_slice.ensures.len) in
    let queue : c.add_all.new.queue.items ≡ c.loop-done.queue.items ++ found = search rules in
    let at : c.item_at-pc.result ≡ get_or c.loop-done.queue.items c.loop-done.done 0 = search rules in
    let advances = subst (λ (h : List (Option ℕ)). Advances (program_of s) (typable_of s) c.item_at-pc.result h new found) c.as_mut_slice.ensures.value c.in_ok-found.ensures.advances in
    let inside : c.loop-done.done < length c.loop-done.queue.items = search rules in
    let on = advanced (program_of s) (typable_of s) c.loop-done.heights.items new c.loop-done.queue.items found c.loop-done.done c.item_at-pc.result c.loop-done.invariant.searches inside at advances in
    let next : suc c.loop-done.done ≡ c.loop-done.done + 1 = omega arith in
    let long : length new ≡ length c.loop-done.heights.items = c.advance.auto.heights ∙ ap length c.as_mut_slice.ensures.value in
    record {
      searches = rw (same, queue) (subst (λ (k : ℕ). Searches (program_of s) (typable_of s) new (c.loop-done.queue.items ++ found) k) next on);
      room = rw same (let r = c.loop-done.invariant.room in omega arith);
    }

pub returns : goal.returns
returns c =
    let s = c.args.subject.now in
    let all : length c.loop-done.queue.items ≤ c.loop-done.done = search rules in
    are_heights (program_of s) (typable_of s) c.loop-done.heights.items c.loop-done.queue.items c.loop-done.done c.loop-done.invariant.searches all
