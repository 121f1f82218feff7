-- Instructions in their places in some code, and where they jump (JVM Specification SE 8, 4.9.1 and 6.5).
use Rattle.std.specs.Prelude.{◌≡◌, ℕ, zero, suc, ◌+◌, ◌≤◌, Bool, ℤ, pos, ◌+ℤ◌, List, [], ◌∷◌, length, drop, map, Ok}
use Rattle.std.specs.List.{list_any}
use Rattle.std.specs.Ordering.{int_eq}
use Rattle.byteorder.specs.Endian.{big_number, twos_complement}
use Rattle.jo_insn.specs.declared.instructions.Insn.{Insn}
use Rattle.jo_insn.specs.declared.instructions.Insn.TheVariants.{Jump, TableSwitch, LookupSwitch}
use Rattle.jo_insn.specs.declared.jumps.Placed.{Placed}
use Rattle.jo_insn.specs.Instructions.{decoded, offsets_between}

-- the instruction is what is decoded at its pc
abbrev pub IsPlacedIn : List ℕ → Placed → Type 0
IsPlacedIn code placed = decoded code placed.pc ≡ Ok (placed.insn, placed.next)

-- a pc, maybe past either end of the code, is where an instruction starts
abbrev pub is_start : List Placed → ℤ → Bool
is_start insns target = list_any (λ (placed : Placed). int_eq (pos placed.pc) target) insns

-- ---- jumps

-- so many offsets, each four bytes and every so many bytes
abbrev pub offsets_of : ℕ → ℕ → List ℕ → List ℤ
offsets_of zero step table = []
offsets_of (suc n) step table = twos_complement 4 (big_number 4 table) ∷ offsets_of n step (drop step table)

-- there are so many of them
abbrev pub AreOffsets : ℕ → ℕ → List ℕ → Type 0
AreOffsets zero step table = Unit {0}
AreOffsets (suc n) step table = (4 ≤ length table) × AreOffsets n step (drop step table)

-- the distances that an instruction of this code may jump
abbrev pub jumps_of : List ℕ → Insn → List ℤ
jumps_of code (Jump op by) = by ∷ []
jumps_of code (TableSwitch other low high at) = other ∷ offsets_of (offsets_between low high) 4 (drop at code)
jumps_of code (LookupSwitch other pairs at) = other ∷ offsets_of pairs 8 (drop (at + 4) code)
jumps_of code _ = []

-- the pcs to which it may jump from this pc
abbrev pub targets_of : List ℕ → ℕ → Insn → List ℤ
targets_of code pc insn = map (λ by. pos pc +ℤ by) (jumps_of code insn)
