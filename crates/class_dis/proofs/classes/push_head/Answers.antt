use Rattle.std.proofs.Common.{[], ◌∷◌}
use Rattle.std.specs.Prelude.{codes}
use Rattle.std.proofs.lemmas.Result.{on_ok_weaker}
use Rattle.class_dis.specs.Words.{hex, name_word}
use Rattle.class_dis.proofs.Pieces.{head_pieces}
use Rattle.class_dis.proofs.classes.push_head.Goals as goal

pub returns : goal.returns
returns c =
    on_ok_weaker c.push_hex.result (λ e.
    head_pieces (32 ∷ []) (codes "flags") (name_word c.args.pool.now c.args.name) (name_word c.args.pool.now c.args.desc) (hex c.args.flags)
    c.args.out.now.items c.push.new.self.items c.push_name.new.out.items c.push-2.new.self.items c.push_name-2.new.out.items c.extend_from_slice.new.self.items c.push_hex.new.out.items
    c.in_ok-push.ensures.items c.in_ok-push_name.ensures c.in_ok-push-2.ensures.items c.in_ok-push_name-2.ensures c.in_ok-extend_from_slice.ensures.items e) c.push_hex.ensures
