use Rattle.std.proofs.Common.{sym}
use Rattle.jo_types.proofs.DescriptorReads.{method_is, method_isnt}
use Rattle.jo_types.proofs.descriptors.method_type.Goals as goal

pub returns-in-Ok : goal.returns-in-Ok
returns-in-Ok c = sym (method_is c.in-Ok.desc c.args.bytes.now c.in-Ok.ensures.desc)

pub returns-in-Err-Bad : goal.returns-in-Err-Bad
returns-in-Err-Bad c = sym (method_isnt c.args.bytes.now (c.in-Err-Bad.ensures.bad c.in-Err-Bad.field-0-is))
