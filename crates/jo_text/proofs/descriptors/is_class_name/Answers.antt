use Rattle.jo_text.proofs.DescriptorNames.{class_name_tested}
use Rattle.jo_text.proofs.descriptors.is_class_name.Goals as goal

pub returns-clause-grammar : goal.returns-clause-grammar
returns-clause-grammar c = class_name_tested c.args.bytes.now _ c.joins_names.ensures
