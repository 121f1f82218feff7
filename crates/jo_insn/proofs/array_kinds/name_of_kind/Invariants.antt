use Rattle.std.proofs.Common.{◌≡◌, ◌==◌, drop, map}
use Rattle.std.specs.Map.{lookup}
use Rattle.jo_insn.specs.ArrayKinds
use Rattle.jo_insn.specs.Rows.{seen_kind}
use Rattle.jo_insn.proofs.array_kinds.name_of_kind.Given as goal

abbrev pub invariant-loop-row : goal.invariant-loop-row
invariant-loop-row l = lookup (λ k. k == l.kind) (map seen_kind (drop l.row-index l.row-items)) ≡ ArrayKinds.name_of_kind l.kind
