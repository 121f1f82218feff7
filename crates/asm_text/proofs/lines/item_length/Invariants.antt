use Rattle.std.proofs.Common.{◌≡◌, ◌+◌, false, drop}
use Rattle.asm_text.specs.ItemScan.{item_length}
use Rattle.asm_text.proofs.lines.item_length.Given as goal

abbrev pub invariant-loop-place : goal.invariant-loop-place
invariant-loop-place l = l.place + item_length l.quoted (drop l.place l.line) ≡ item_length false l.line
