use Rattle.std.proofs.lemmas.Bool.Decides.{same_from_decides}
use Rattle.jo_text.specs.Scan.{field_seen}
use Rattle.jo_text.proofs.DescriptorFields.{whole_tested}
use Rattle.jo_text.proofs.TestLaws.{field_decided}
use Rattle.jo_text.proofs.descriptors.is_field_desc.Goals as goal

pub returns : goal.returns
returns c =
    let grammar = rw (← c.is_some.ensures) at (whole_tested c.whole_field.result field_seen c.args.bytes.now c.whole_field.ensures) in
    record { grammar = grammar; test = same_from_decides _ _ grammar (field_decided c.args.bytes.now) }
