use Rattle.jo_text.proofs.DescriptorFields.{whole_once}
use Rattle.jo_text.proofs.laws.one_field_desc.Goals as goal

pub returns : goal.returns
returns c = λ bytes one other h k. whole_once one other bytes h k
