use Rattle.std.proofs.Common.{◌≡◌, ◌/◌, ◌%◌, length, sym, ap, ◌∙◌, arith}
use Rattle.std.proofs.lemmas.List.{get_or_read}
use Rattle.jo_ids.specs.Words.{in_word}
use Rattle.jo_ids.specs.Rows.{has_number}
use Rattle.jo_ids.proofs.RowLemmas.{length-row_of, has_number-row_of}
use Rattle.jo_ids.proofs.rows.BitRow.has.Goals as goal

pub index-requires : goal.index-requires
index-requires c =
    let r = c.self.inside in
    let len : length c.args.self.now ≡ r.len = sym (ap length c.self.view_is) ∙ length-row_of r.words.items r.len in
    omega (arith, c.self.invariant.enough, r.words.ok.0)

pub returns : goal.returns
returns c =
    let r = c.self.inside in
    let i = c.args.i in
    let len : length c.args.self.now ≡ r.len = sym (ap length c.self.view_is) ∙ length-row_of r.words.items r.len in
    let word = get_or_read r.words.items (i / 64) c.index.result.now (omega (arith, c.self.invariant.enough)) c.index.ensures 0 in
    c.has_bit.ensures ∙ ap (λ w. in_word w (i % 64)) word ∙ sym (has_number-row_of r.words.items r.len i (omega (arith, c.requires))) ∙ ap (λ row. has_number row i) c.self.view_is
