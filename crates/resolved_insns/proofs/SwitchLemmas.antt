-- The cases of a switch, one after another.
use Rattle.std.proofs.Common.{◌≡◌, ◌∙◌, ap, ℕ, suc, ◌+◌, ◌-◌, ◌<◌, List, [], ◌∷◌, ◌++◌, drop, append_assoc, arith}
use Rattle.std.specs.Prelude.{ℤ, pos, ◌+ℤ◌, ◌-ℤ◌, ◌≤ℤ◌, unsigned_abs, ◌^◌}
use Rattle.std.specs.Int.{w32}
use Rattle.std.specs.Int.RustNames.{FitsSigned}
use Rattle.std.proofs.lemmas.Int.{ints}
use Rattle.byteorder.specs.Endian.{big_number, twos_complement}
use Rattle.jo_insn.specs.Instructions.{keys_of}
use Rattle.jo_insn.specs.Jumps.{offsets_of}
use Rattle.machine.specs.Instructions.{cases_of, keys_from, pc_behind}

abbrev pub first_of : List ℕ → ℤ
first_of table = twos_complement 4 (big_number 4 table)

-- an iteration of a loop over so many cases, at counter i
module _ (pc count i : ℕ) (old new all : List (ℤ × ℕ)) where
  pub one_pair : (keys offsets : List ℕ) → i < count → new ≡ old ++ (first_of keys, pc_behind pc (first_of offsets)) ∷ []
      → old ++ cases_of pc (keys_of (count - i) keys) (offsets_of (count - i) 8 offsets) ≡ all
      → new ++ cases_of pc (keys_of (count - (i + 1)) (drop 8 keys)) (offsets_of (count - (i + 1)) 8 (drop 8 offsets)) ≡ all
  one_pair keys offsets below added so_far =
      let more : count - i ≡ suc (count - (i + 1)) = omega arith in
      let rest : List (ℤ × ℕ) = cases_of pc (keys_of (count - (i + 1)) (drop 8 keys)) (offsets_of (count - (i + 1)) 8 (drop 8 offsets)) in
      ap (λ (cases : List (ℤ × ℕ)). cases ++ rest) added ∙ append_assoc old ((first_of keys, pc_behind pc (first_of offsets)) ∷ []) rest ∙ (rw more at so_far)

  pub one_key : (key : ℤ) (offsets : List ℕ) → i < count → new ≡ old ++ (key, pc_behind pc (first_of offsets)) ∷ []
      → old ++ cases_of pc (keys_from key (count - i)) (offsets_of (count - i) 4 offsets) ≡ all
      → new ++ cases_of pc (keys_from (key +ℤ pos 1) (count - (i + 1))) (offsets_of (count - (i + 1)) 4 (drop 4 offsets)) ≡ all
  one_key key offsets below added so_far =
      let more : count - i ≡ suc (count - (i + 1)) = omega arith in
      let rest : List (ℤ × ℕ) = cases_of pc (keys_from (key +ℤ pos 1) (count - (i + 1))) (offsets_of (count - (i + 1)) 4 (drop 4 offsets)) in
      ap (λ (cases : List (ℤ × ℕ)). cases ++ rest) added ∙ append_assoc old ((key, pc_behind pc (first_of offsets)) ∷ []) rest ∙ (rw more at so_far)

-- the keys of a row are ints
pub keys_fit : (low high : ℤ) → FitsSigned w32 low → FitsSigned w32 high → low ≤ℤ high → (low +ℤ pos (unsigned_abs (high -ℤ low) + 1)) ≤ℤ pos (2 ^ 31)
keys_fit low high fits_low fits_high order = omega (arith, ints)
