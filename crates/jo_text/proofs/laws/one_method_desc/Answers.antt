use Rattle.jo_text.proofs.DescriptorMethods.{method_once}
use Rattle.jo_text.proofs.laws.one_method_desc.Goals as goal

pub returns : goal.returns
returns c = method_once
