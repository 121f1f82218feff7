use Rattle.std.proofs.Common.{◌≡◌, ◌<◌, ◌/◌, ◌%◌, ◌==◌, ◌||◌, true, not, length, set, sym, ap, ◌∙◌, arith}
use Rattle.std.proofs.lemmas.List.{get_or_read}
use Rattle.jo_ids.specs.Words.{in_word}
use Rattle.jo_ids.specs.Rows.{has_number}
use Rattle.jo_ids.proofs.RowLemmas.{length-row_of, has_number-row_of, row_of-set, set_fits}
use Rattle.jo_ids.proofs.rows.BitRow.set.Goals as goal

pub index-word-requires : goal.index-word-requires
index-word-requires c =
    let r = c.self.inside in
    let len : length c.args.self.now ≡ r.len = sym (ap length c.self.view_is) ∙ length-row_of r.words.items r.len in
    omega (arith, c.self.invariant.enough, r.words.ok.0)

pub index_mut-requires : goal.index_mut-requires
index_mut-requires c =
    let r = c.self.inside in
    let len : length c.args.self.now ≡ r.len = sym (ap length c.self.view_is) ∙ length-row_of r.words.items r.len in
    omega (arith, c.self.invariant.enough, r.words.ok.0)

pub invariant_of-self : goal.invariant_of-self
invariant_of-self c =
    let r = c.self.inside in
    let i = c.args.i in
    let len : length c.args.self.now ≡ r.len = sym (ap length c.self.view_is) ∙ length-row_of r.words.items r.len in
    let below : i < r.len = omega (arith, c.requires) in
    let word = get_or_read r.words.items (i / 64) c.index-word.result.now (omega (arith, c.self.invariant.enough)) c.index-word.ensures 0 in
    set_fits r.words.items r.len c.with_bit.result i c.self.invariant below
    (λ k. c.with_bit.ensures k ∙ ap (λ w. in_word w k || k == i % 64) word)

pub returns : goal.returns
returns c =
    let r = c.self.inside in
    let i = c.args.i in
    let len : length c.args.self.now ≡ r.len = sym (ap length c.self.view_is) ∙ length-row_of r.words.items r.len in
    let below : i < r.len = omega (arith, c.requires) in
    let word = get_or_read r.words.items (i / 64) c.index-word.result.now (omega (arith, c.self.invariant.enough)) c.index-word.ensures 0 in
    record {
      set = row_of-set r.words.items r.len c.with_bit.result i c.self.invariant below
          (λ k. c.with_bit.ensures k ∙ ap (λ w. in_word w k || k == i % 64) word) ∙ ap (λ row. set row i true) c.self.view_is;
      new = ap not (c.has_bit.ensures ∙ ap (λ w. in_word w (i % 64)) word ∙ sym (has_number-row_of r.words.items r.len i below) ∙ ap (λ row. has_number row i) c.self.view_is);
    }
