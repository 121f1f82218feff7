use Rattle.std.proofs.Common.{◌≡◌, drop}
use Rattle.jo_policy.specs.Numbering.{place_from}
use Rattle.jo_policy.proofs.numbering.place_of.Given as goal

-- no name before this one is the text
abbrev pub invariant-loop-i : goal.invariant-loop-i
invariant-loop-i l = place_from l.i (drop l.i l.names) l.text ≡ place_from 0 l.names l.text
