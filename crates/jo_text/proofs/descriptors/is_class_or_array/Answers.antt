use Rattle.std.proofs.Common.{Some, None}
use Rattle.std.proofs.lemmas.Bool.Decides.{same_from_decides}
use Rattle.jo_text.proofs.DescriptorFields.{or_array}
use Rattle.jo_text.proofs.TestLaws.{class_or_array_decided}
use Rattle.jo_text.proofs.descriptors.is_class_or_array.Goals as goal

pub returns-in-Some : goal.returns-in-Some
returns-in-Some c =
    let grammar = or_array c.args.bytes.now (Some c.in-Some.field-0.now) _ c.in-Some.ensures c.is_field_desc.ensures.grammar in
    record { grammar = grammar; test = same_from_decides _ _ grammar (class_or_array_decided c.args.bytes.now) }

pub returns-in-None : goal.returns-in-None
returns-in-None c =
    let grammar = or_array c.args.bytes.now None _ c.in-None.ensures c.is_class_name.ensures.grammar in
    record { grammar = grammar; test = same_from_decides _ _ grammar (class_or_array_decided c.args.bytes.now) }
