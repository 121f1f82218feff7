use Rattle.std.proofs.Common.{◌≡◌, replicate, ap, ◌∙◌, rules}
use Rattle.jo_ids.specs.Rows.{row_of}
use Rattle.jo_ids.proofs.RowLemmas.{row_of-zeros}
use Rattle.jo_ids.proofs.rows.BitRow.with_len.Goals as goal

pub returns : goal.returns
returns c =
    let zeros : c.in_ok-words.words.items ≡ replicate c.div_ceil.result 0 = search rules in
    ap (λ ws. row_of ws c.args.len) zeros ∙ row_of-zeros c.div_ceil.result c.args.len
