use Rattle.std.proofs.Common.{◌≡◌, ◌++◌, ◌-◌, ◌∷◌, [], List, ℕ, length, take, drop, get_or, sym, ap, ◌∙◌, rules}
use Rattle.std.specs.Prelude.{pos, codes}
use Rattle.std.proofs.lemmas.Result.{on_ok_weaker}
use Rattle.class_dis.specs.Words.{joined, spaced, label}
use Rattle.class_dis.specs.Listing.{pair_words}
use Rattle.class_dis.proofs.Pieces.{lookup_pieces}
use Rattle.class_dis.proofs.SwitchSteps.{lookup_split}
use Rattle.class_dis.proofs.operands.push_lookup.Goals as goal

pub returns-in_ok-push_target-in-len1-up : goal.returns-in_ok-push_target-in-len1-up
returns-in_ok-push_target-in-len1-up c =
    let table = c.args.table.now in
    let targets = c.args.targets.now in
    let first = label (get_or targets 0 (pos 0)) in
    let rest = spaced (pair_words table (take (length targets - 1) (drop 1 targets))) in
    let other : c.push_target.new.out.items ≡ c.extend_from_slice.new.self.items ++ 32 ∷ first = search rules in
    on_ok_weaker c.push_pairs.result (λ e.
    lookup_pieces (32 ∷ []) (codes "lookupswitch") first rest c.args.out.now.items c.extend_from_slice.new.self.items c.push_target.new.out.items c.push_pairs.new.out.items
    c.in_ok-extend_from_slice.ensures.items other e
    ∙ ap (λ (words : List (List ℕ)). c.args.out.now.items ++ joined (codes "lookupswitch" ∷ words)) (sym (lookup_split table targets c.in-len1-up.len_at_least))) c.push_pairs.ensures
