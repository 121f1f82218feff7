use Rattle.std.proofs.Common.{get_or, sym, ◌∙◌, arith}
use Rattle.std.proofs.lemmas.Bool.{le-ltb}
use Rattle.jo_order.proofs.RowsLemmas.{in_word-past, row_flows-other}
use Rattle.jo_order.proofs.closing.row_flows.Goals as goal

pub returns-else-b-lt64 : goal.returns-else-b-lt64
returns-else-b-lt64 c =
    let rows = c.args.rows.now in
    let a = c.args.a in
    let b = c.args.b in
    le-ltb b 64 c.if-b-lt64.false ∙ sym (in_word-past (get_or rows a 0) b (omega (arith, c.type_inv.rows a)) c.if-b-lt64.false) ∙ row_flows-other rows a b c.if-a-b.false
