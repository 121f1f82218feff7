use Rattle.std.proofs.Common.{◌≡◌, ◌<◌, ◌^◌, ◌++◌, length}
use Rattle.std.specs.List.{AllByRecursion}
use Rattle.jo_text.specs.Escapes.{escaped_where}
use Rattle.jo_text.specs.EscapeScan.{escapes_in, IsSpelling}
use Rattle.jo_text.proofs.escapes.read_bytes.Given as goal

-- what has been read is the spelling of `name`, and what is left is one if the text is
abbrev pub invariant-loop-byte : goal.invariant-loop-byte
invariant-loop-byte l = record {
  read : l.text ≡ escaped_where (escapes_in l.spelling) l.name.items ++ l.rest;
  bytes : AllByRecursion (λ byte. byte < 2 ^ 8) l.name.items;
  left : IsSpelling (escapes_in l.spelling) l.text → IsSpelling (escapes_in l.spelling) l.rest;
}

abbrev pub decreases-loop-byte : goal.decreases-loop-byte
decreases-loop-byte l = length l.rest
