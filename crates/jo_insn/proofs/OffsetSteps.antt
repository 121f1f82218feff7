-- The offsets of a switch, one after another.
use Rattle.std.proofs.Common.{◌≡◌, ℕ, suc, ◌+◌, ◌-◌, ◌<◌, ◌≤◌, List, [], ◌∷◌, ◌++◌, length, drop, refl, sym, ap, ◌∙◌, append_assoc, arith}
use Rattle.std.specs.Prelude.{ℤ, pos, ◌+ℤ◌, map}
use Rattle.byteorder.specs.Endian.{big_number, twos_complement}
use Rattle.jo_insn.specs.Jumps.{AreOffsets, offsets_of}

-- an iteration of the loop over so many offsets, at counter i
module _ (count i : ℕ) (table : List ℕ) (step : ℕ) where
  pub is_there : i < count → AreOffsets (count - i) step table → (4 ≤ length table) × AreOffsets (count - (i + 1)) step (drop step table)
  is_there more there = let one_more : count - i ≡ suc (count - (i + 1)) = omega arith in rw one_more at there

  abbrev pub first_offset : ℤ
  first_offset = twos_complement 4 (big_number 4 table)

  one_taken : i < count → offsets_of (count - i) step table ≡ first_offset ∷ offsets_of (count - (i + 1)) step (drop step table)
  one_taken more = let one_more : count - i ≡ suc (count - (i + 1)) = omega arith in rw one_more refl

  pub adds_one : (pc : ℕ) (before now all : List ℤ) → i < count → now ≡ before ++ (pos pc +ℤ first_offset) ∷ [] → before ++ map (λ by. pos pc +ℤ by) (offsets_of (count - i) step table) ≡ all
      → now ++ map (λ by. pos pc +ℤ by) (offsets_of (count - (i + 1)) step (drop step table)) ≡ all
  adds_one pc before now all more is so_far =
      let rest : List ℤ = map (λ by. pos pc +ℤ by) (offsets_of (count - (i + 1)) step (drop step table)) in
      ap (λ (targets : List ℤ). targets ++ rest) is ∙ append_assoc before ((pos pc +ℤ first_offset) ∷ []) rest
      ∙ sym (ap (λ (offsets : List ℤ). before ++ map (λ by. pos pc +ℤ by) offsets) (one_taken more)) ∙ so_far
