use Rattle.std.proofs.Common.{◌≡◌, ◌++◌, take, drop}
use Rattle.class_asm.specs.Layout.{body_of}
use Rattle.class_asm.proofs.layout.body_length.Given as goal

abbrev pub invariant-loop-place : goal.invariant-loop-place
invariant-loop-place l = take l.place l.lines ++ body_of (drop l.place l.lines) ≡ body_of l.lines
