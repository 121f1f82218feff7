use Rattle.std.proofs.Common.{sym}
use Rattle.jo_types.proofs.DescriptorReads.{field_whole, field_isnt}
use Rattle.jo_types.proofs.descriptors.field_type.Goals as goal

pub returns-in-Ok : goal.returns-in-Ok
returns-in-Ok c = sym (field_whole c.in-Ok.desc c.args.bytes.now c.in-Ok.ensures.desc)

pub returns-in-Err-Bad : goal.returns-in-Err-Bad
returns-in-Err-Bad c = sym (field_isnt c.args.bytes.now (c.in-Err-Bad.ensures.bad c.in-Err-Bad.field-0-is))
