use Rattle.std.proofs.Common.{◌≡◌, length, replicate, false, sym, ap, ◌∙◌}
use Rattle.jo_ids.specs.Rows.{row_of}
use Rattle.jo_ids.proofs.RowLemmas.{length-row_of, row_of-zeros}
use Rattle.jo_ids.proofs.rows.BitRow.clear.Goals as goal

pub returns : goal.returns
returns c =
    let r = c.self.inside in
    let len : length c.args.self.now ≡ r.len = sym (ap length c.self.view_is) ∙ length-row_of r.words.items r.len in
    let zeros : c.fill.new.self.items ≡ replicate (length r.words.items) 0 = c.fill.ensures.items (λ y e. e) ∙ ap (λ n. replicate n 0) r.words.ok.0 in
    ap (λ ws. row_of ws r.len) zeros ∙ row_of-zeros (length r.words.items) r.len ∙ ap (λ n. replicate n false) (sym len)
