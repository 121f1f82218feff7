-- Which opcodes write locals, and which may throw.
use Rattle.std.proofs.Common.{◌≡◌, ◌⊎◌, inl, inr, ℕ, ◌+◌, ◌≤◌, Bool, true, false, ◌&&◌, ◌||◌, ◌==◌, nat_le, if◌then◌else◌, Option, Some, None, refl, sym, ap, ◌∙◌, arith}
use Rattle.std.proofs.lemmas.Bool.{cases_eq, both_ways, eqb-true}
use Rattle.std.proofs.lemmas.Bool.Decides.{nat_tests}
use Rattle.jo_insn.specs.declared.instructions.Insn.{Insn}
use Rattle.jo_insn.specs.declared.instructions.Insn.TheVariants.{Plain, Local, Iinc, Push, Pooled, Array, Jump, TableSwitch, LookupSwitch}
use Rattle.jo_prog.specs.Operations.{within}
use Rattle.jo_prog.specs.Sites.{opcode_of}
use Rattle.dependence.specs.WideGraph.{may_throw}
use Rattle.dependence.specs.NodePlaces.{local_written}

never : (op k : ℕ) → op ≡ k → may_throw k ≡ false → may_throw op ≡ true → ⊥
never op k same quiet throws = both_ways (may_throw k) quiet (ap may_throw (sym same) ∙ throws)

le_of : (a b : ℕ) → nat_le a b ≡ true → a ≤ b
le_of a b e = grind (arith, nat_tests)

parts : (a b : Bool) → (a && b) ≡ true → (a ≡ true) × (b ≡ true)
parts true b e = (refl, e)
parts false b e = absurd (cc)

bounds : (low high op : ℕ) → within low high op ≡ true → (low ≤ op) × (op ≤ high)
bounds low high op e = let both = parts (nat_le low op) (nat_le op high) e in (le_of low op both.0, le_of op high both.1)

-- four opcodes in a row
among_four : (low op : ℕ) → within low (low + 3) op ≡ true → may_throw low ≡ false → may_throw (low + 1) ≡ false → may_throw (low + 2) ≡ false → may_throw (low + 3) ≡ false → may_throw op ≡ true → ⊥
among_four low op among a b c d throws = elim (cases_eq op low) [
  | inl e ↦ never op low e a throws
  | inr first ↦ elim (cases_eq op (low + 1)) [
    | inl e ↦ never op (low + 1) e b throws
    | inr second ↦ elim (cases_eq op (low + 2)) [
      | inl e ↦ never op (low + 2) e c throws
      | inr third ↦ never op (low + 3) (omega (arith, (bounds low (low + 3) op among).0, (bounds low (low + 3) op among).1, first, second, third)) d throws
    ]
  ]
]

plain_none : (op : ℕ) → may_throw op ≡ true → local_written (Plain op) ≡ None
plain_none op throws = by_row (within 59 62 op) (within 75 78 op) refl refl
  where
    by_row : (a b : Bool) → within 59 62 op ≡ a → within 75 78 op ≡ b → local_written (Plain op) ≡ None
    by_row true b is_a is_b = absurd (among_four 59 op is_a refl refl refl refl throws)
    by_row false true is_a is_b = absurd (among_four 75 op is_b refl refl refl refl throws)
    by_row false false is_a is_b = rw (is_a, is_b) refl

local_none : (op index : ℕ) (wide : Bool) → may_throw op ≡ true → local_written (Local op index wide) ≡ None
local_none op index wide throws = by_op (op == 54) (op == 58) refl refl
  where
    by_op : (a b : Bool) → (op == 54) ≡ a → (op == 58) ≡ b → local_written (Local op index wide) ≡ None
    by_op true b is_a is_b = absurd (never op 54 (eqb-true op 54 is_a) refl throws)
    by_op false true is_a is_b = absurd (never op 58 (eqb-true op 58 is_b) refl throws)
    by_op false false is_a is_b = rw (is_a, is_b) refl

pub writes_none : (insn : Insn) → may_throw (opcode_of insn) ≡ true → local_written insn ≡ None
writes_none (Plain op) throws = plain_none op throws
writes_none (Local op index wide) throws = local_none op index wide throws
writes_none (Iinc index by wide) throws = absurd (cc)
writes_none (Push op value) throws = refl
writes_none (Pooled op index) throws = refl
writes_none (Array kind) throws = refl
writes_none (Jump op by) throws = refl
writes_none (TableSwitch other low high at) throws = refl
writes_none (LookupSwitch other pairs at) throws = refl
