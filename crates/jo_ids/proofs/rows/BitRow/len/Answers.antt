use Rattle.std.proofs.Common.{length, sym, ap, ◌∙◌}
use Rattle.jo_ids.proofs.RowLemmas.{length-row_of}
use Rattle.jo_ids.proofs.rows.BitRow.len.Goals as goal

pub returns : goal.returns
returns c = sym (length-row_of c.self.inside.words.items c.self.inside.len) ∙ ap length c.self.view_is
