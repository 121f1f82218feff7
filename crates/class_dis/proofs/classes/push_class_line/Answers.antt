use Rattle.std.proofs.Common.{[], ◌∷◌}
use Rattle.std.specs.Prelude.{codes}
use Rattle.class_dis.specs.Words.{hex, class_word}
use Rattle.class_dis.proofs.Pieces.{class_pieces}
use Rattle.class_dis.proofs.classes.push_class_line.Goals as goal

pub returns : goal.returns
returns c =
    let class = c.args.class.now in
    class_pieces (32 ∷ []) (10 ∷ []) (codes "class") (codes "super") (codes "flags") (class_word class.pool class.this_class) (class_word class.pool class.super_class) (hex class.flags)
    c.args.out.now.items c.extend_from_slice.new.self.items c.push_class.new.out.items c.extend_from_slice-2.new.self.items c.push_class-2.new.out.items c.extend_from_slice-3.new.self.items c.push_hex.new.out.items c.push.new.self.items
    c.in_ok-extend_from_slice.ensures.items (rw c.as_slice-pool.ensures at c.in_ok-push_class.ensures) c.in_ok-extend_from_slice-2.ensures.items (rw c.as_slice-pool.ensures at c.in_ok-push_class-2.ensures)
    c.in_ok-extend_from_slice-3.ensures.items c.in_ok-push_hex.ensures c.in_ok-push.ensures.items
