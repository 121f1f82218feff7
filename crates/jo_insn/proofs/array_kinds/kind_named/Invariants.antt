use Rattle.std.proofs.Common.{◌≡◌, drop, map}
use Rattle.std.specs.Map.{lookup}
use Rattle.std.specs.Str.{bytes_eq}
use Rattle.jo_insn.specs.ArrayKinds
use Rattle.jo_insn.specs.Rows.{seen_kind}
use Rattle.jo_insn.proofs.array_kinds.kind_named.Given as goal

abbrev pub invariant-loop-row : goal.invariant-loop-row
invariant-loop-row l = lookup (λ n. bytes_eq n l.name) (ArrayKinds.named_kinds (map seen_kind (drop l.row-index l.row-items))) ≡ ArrayKinds.kind_named l.name
