use Rattle.std.proofs.Common.{◌≡◌, ◌++◌, [], ◌∷◌, rules}
use Rattle.std.specs.Prelude.{pos, codes}
use Rattle.class_dis.specs.Words.{label}
use Rattle.class_dis.specs.Listing.{catch_word}
use Rattle.class_dis.proofs.Pieces.{row_pieces}
use Rattle.class_dis.proofs.bodies.push_row.Goals as goal

pub returns : goal.returns
returns c =
    let row = c.args.row.now in
    let start : c.push_label.new.out.items ≡ c.extend_from_slice.new.self.items ++ label (pos row.start) = search rules in
    let end : c.push_label-2.new.out.items ≡ c.push.new.self.items ++ label (pos row.end) = search rules in
    let handler : c.push_label-3.new.out.items ≡ c.push-2.new.self.items ++ label (pos row.handler) = search rules in
    row_pieces (32 ∷ []) (10 ∷ []) (codes "catch") (label (pos row.start)) (label (pos row.end)) (label (pos row.handler)) (catch_word c.args.pool.now row.catch_type)
    c.args.out.now.items c.extend_from_slice.new.self.items c.push_label.new.out.items c.push.new.self.items c.push_label-2.new.out.items c.push-2.new.self.items c.push_label-3.new.out.items c.push-3.new.self.items
    c.push_catch.new.out.items c.push-4.new.self.items
    c.in_ok-extend_from_slice.ensures.items start c.in_ok-push.ensures.items end c.in_ok-push-2.ensures.items handler c.in_ok-push-3.ensures.items c.in_ok-push_catch.ensures c.in_ok-push-4.ensures.items
