use Rattle.std.proofs.Common.{sym, ap}
use Rattle.std.specs.Prelude.{option_map}
use Rattle.jo_prog.specs.declared.program.TypeRef.TheVariants.{Array}
use Rattle.linker.proofs.TypeLemmas.{spelled_is_in, none_is_in}
use Rattle.linker.proofs.operands.array_of.Goals as goal

pub returns-in-Ok : goal.returns-in-Ok
returns-in-Ok c = sym (ap (option_map (λ desc. Array desc)) (spelled_is_in c.in-Ok.desc c.args.desc.now c.in-Ok.ensures.desc))

pub returns-in-Err-Bad : goal.returns-in-Err-Bad
returns-in-Err-Bad c = sym (ap (option_map (λ desc. Array desc)) (none_is_in c.args.desc.now (c.in-Err-Bad.ensures.bad c.in-Err-Bad.field-0-is)))
