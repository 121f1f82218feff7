use Rattle.std.proofs.lemmas.Bool.{false≢true}
use Rattle.jo_text.proofs.DescriptorMethods.{field_result}
use Rattle.jo_text.proofs.descriptors.is_result_desc.Goals as goal

pub returns-else-eq : goal.returns-else-eq
returns-else-eq c = field_result c.args.bytes.now _ (λ e. false≢true (rw (e, c.as_slice.ensures) at c.if-eq.ensures)) c.is_field_desc.ensures.grammar
