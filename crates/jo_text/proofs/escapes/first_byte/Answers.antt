use Rattle.std.proofs.Common.{arith}
use Rattle.std.proofs.lemmas.Grind.{common_steps}
use Rattle.jo_text.specs.EscapeScan.{escapes_in}
use Rattle.jo_text.proofs.EscapeLaws.{begins_so}
use Rattle.jo_text.proofs.escapes.first_byte.Goals as goal

pub returns-in_default : goal.returns-in_default
returns-in_default c = λ byte rest begins.
    let front = begins_so (escapes_in c.args.spelling) c.args.text.now byte rest begins in
    grind (arith, common_steps)
