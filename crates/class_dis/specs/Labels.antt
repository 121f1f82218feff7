-- Which pcs have a label in a listing: the targets of jumps, and the start, the end and the handler of each row of the
-- exception table.
use Rattle.std.specs.Prelude.{◌≡◌, ℕ, ◌+◌, ◌≤◌, Bool, ℤ, pos, List, [], ◌∷◌, ◌++◌, length}
use Rattle.std.specs.List.{flat_map, list_any}
use Rattle.std.specs.Ordering.{int_eq}
use Rattle.class_pool.specs.declared.classes.CodeInfo.{CodeInfo}
use Rattle.class_pool.specs.declared.classes.RowInfo.{RowInfo}
use Rattle.jo_insn.specs.declared.jumps.Placed.{Placed}
use Rattle.jo_insn.specs.Jumps.{targets_of}
use Rattle.jo_insn.specs.Marks.{is_marked}
use Rattle.class_dis.specs.Insns.{insns_of}

-- the pcs to which an instruction of this code may jump
abbrev pub targets_in : List ℕ → Placed → List ℤ
targets_in code placed = targets_of code placed.pc placed.insn

abbrev pub bounds_of : RowInfo → List ℤ
bounds_of row = pos row.start ∷ pos row.end ∷ pos row.handler ∷ []

abbrev pub labels_of : CodeInfo → List ℤ
labels_of code = flat_map (targets_in code.bytes) (insns_of code.bytes) ++ flat_map bounds_of code.rows

abbrev pub has_label : CodeInfo → ℕ → Bool
has_label code pc = list_any (λ at. int_eq at (pos pc)) (labels_of code)

-- marks, one for each pc of the code and one for its end, are its labels
pub record AreLabels (code : CodeInfo) (marks : List Bool) : Type 0 where
  pub size : length marks ≡ 1 + length code.bytes
  pub each : (pc : ℕ) → pc ≤ length code.bytes → is_marked marks (pos pc) ≡ has_label code pc
