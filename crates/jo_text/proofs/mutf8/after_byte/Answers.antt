use Rattle.std.proofs.Common.{arith}
use Rattle.jo_text.proofs.TextScan.{byte_leads, byte_within, byte_outside}
use Rattle.jo_text.proofs.Mutf8Leads.{mutf8_goes_on}
use Rattle.jo_text.specs.Mutf8.{IsMutf8}
use Rattle.jo_text.proofs.mutf8.after_byte.Goals as goal

pub returns-then-awaited-eq0 : goal.returns-then-awaited-eq0
returns-then-awaited-eq0 c = λ front h.
    byte_leads IsMutf8 front c.args.awaited c.args.byte h _ c.if-awaited-eq0.true (rw c.after_lead.ensures (mutf8_goes_on c.args.byte))

pub returns-then-byte-awaited : goal.returns-then-byte-awaited
returns-then-byte-awaited c = λ front h.
    byte_within IsMutf8 front c.args.awaited c.args.byte h c.if-awaited-eq0.false c.continued.result c.continued.ensures c.if-awaited-byte.true c.if-byte-awaited.true

pub returns-else-awaited-byte : goal.returns-else-awaited-byte
returns-else-awaited-byte c = λ front h.
    byte_outside IsMutf8 front c.args.awaited c.args.byte h c.if-awaited-eq0.false (λ low high. omega (arith, c.else-awaited-byte.either))
