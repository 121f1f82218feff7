use Rattle.std.proofs.Common.{◌≡◌, ◌++◌, take}
use Rattle.jo_text.specs.Escapes.{escaped_where}
use Rattle.jo_text.specs.EscapeScan.{escapes_in}
use Rattle.jo_text.proofs.escapes.push_bytes.Given as goal

-- the bytes before this one have been spelled
abbrev pub invariant-loop-byte : goal.invariant-loop-byte
invariant-loop-byte l = l.out.items ≡ l.initial.out.items ++ escaped_where (escapes_in l.spelling) (take l.byte-index l.text)
