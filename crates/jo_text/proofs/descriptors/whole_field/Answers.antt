use Rattle.std.proofs.Common.{sym, ◌∙◌}
use Rattle.jo_text.proofs.DescriptorFields.{whole_none, whole_some, whole_more}
use Rattle.jo_text.proofs.descriptors.whole_field.Goals as goal

pub returns-in_err-view : goal.returns-in_err-view
returns-in_err-view c = rw (c.from_residual.ensures) (whole_none c.args.bytes.now c.in_err-view.ensures)

pub returns-then-is_empty : goal.returns-then-is_empty
returns-then-is_empty c = whole_some c.args.bytes.now _ c.in_ok-view.rest.now c.in_ok-view.ensures (sym c.if-is_empty.true ∙ c.is_empty.ensures)

pub returns : goal.returns
returns c = whole_more c.args.bytes.now _ c.in_ok-view.rest.now c.in_ok-view.ensures (sym c.if-is_empty.false ∙ c.is_empty.ensures)
