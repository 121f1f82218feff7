use Rattle.std.proofs.Common.{Some, None, false, refl}
use Rattle.std.proofs.lemmas.Bool.Decides.{same_from_decides}
use Rattle.jo_text.proofs.DescriptorMethods.{method_tested}
use Rattle.jo_text.proofs.TestLaws.{method_decided}
use Rattle.jo_text.proofs.descriptors.is_method_desc.Goals as goal

pub returns-in-Some-after_byte : goal.returns-in-Some-after_byte
returns-in-Some-after_byte c =
    let grammar = method_tested c.args.bytes.now c.in-Some.params.now c.after_params.result.now c.in-Some.ensures c.after_params.ensures.passed c.after_params.ensures.all (Some c.in-Some-after_byte.result.now) _ c.in-Some-after_byte.ensures c.is_result_desc.ensures in
    record { grammar = grammar; test = same_from_decides _ _ grammar (method_decided c.args.bytes.now) }

pub returns-in-None : goal.returns-in-None
returns-in-None c =
    let grammar = method_tested c.args.bytes.now c.in-Some.params.now c.after_params.result.now c.in-Some.ensures c.after_params.ensures.passed c.after_params.ensures.all None false c.in-None.ensures refl in
    record { grammar = grammar; test = same_from_decides _ _ grammar (method_decided c.args.bytes.now) }
