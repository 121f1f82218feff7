use Rattle.std.proofs.Common.{◌≡◌, ◌++◌, [], ◌∷◌, rules}
use Rattle.std.specs.Prelude.{map, codes}
use Rattle.std.specs.Fmt.{signed_decimal}
use Rattle.std.proofs.lemmas.Result.{on_ok_weaker}
use Rattle.class_dis.specs.Words.{spaced, label}
use Rattle.class_dis.proofs.Pieces.{table_pieces}
use Rattle.class_dis.proofs.operands.push_table.Goals as goal

pub returns : goal.returns
returns c =
    let low : c.push_signed.new.out.items ≡ c.extend_from_slice.new.self.items ++ signed_decimal c.args.low = search rules in
    on_ok_weaker c.push_targets.result (λ e.
    table_pieces (32 ∷ []) (codes "tableswitch") (signed_decimal c.args.low) (spaced (map label c.args.targets.now))
    c.args.out.now.items c.extend_from_slice.new.self.items c.push_signed.new.out.items c.push_targets.new.out.items c.in_ok-extend_from_slice.ensures.items low e) c.push_targets.ensures
