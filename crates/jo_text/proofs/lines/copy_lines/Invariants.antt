use Rattle.std.proofs.Common.{◌≡◌, ◌==◌, ℕ, List, length, map, not, Bor}
use Rattle.std.specs.Prelude.{filter}
use Rattle.std.specs.List.{AllByRecursion}
use Rattle.std.specs.Str.{IsUtf8}
use Rattle.jo_text.proofs.lines.copy_lines.Given as goal

abbrev pub invariant-loop-line : goal.invariant-loop-line
invariant-loop-line l = record {
  lines : l.found.items ≡ filter (λ line. not (length line == 0)) (map (λ (x : Bor (List ℕ)). x.now) l.yielded);
  texts : AllByRecursion IsUtf8 l.found.items;
}
