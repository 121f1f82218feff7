-- The offsets of a switch that was decoded lie within its code.
use Rattle.std.proofs.Common.{◌≡◌, ℕ, zero, suc, ◌+◌, ◌-◌, ◌*◌, ◌^◌, ◌<◌, ◌≤◌, List, [], ◌∷◌, length, drop, Ok, refl, ap, arith}
use Rattle.std.specs.Prelude.{ℤ, ◌-ℤ◌, unsigned_abs}
use mir.Syntax.{w32}
use mir.Val.{SFits, to_z, of_z}
use Rattle.std.specs.List.{AllByRecursion}
use Rattle.std.proofs.lemmas.List.{length-drop, length-take}
use Rattle.std.proofs.lemmas.Int.{to_z-of_z}
use Rattle.byteorder.specs.Endian.{big_bytes}
use Rattle.jo_insn.specs.declared.instructions.Insn.TheVariants.{TableSwitch, LookupSwitch}
use Rattle.jo_insn.specs.Instructions.{decoded, offsets_between, s4}
use Rattle.jo_insn.proofs.Numbers.{AreBytes}
use Rattle.jo_insn.proofs.SpelledIsDecoded.{length_4, length_5}
use Rattle.jo_insn.proofs.SpelledFromDecoded.{decoded_is_spelled}
use Rattle.jo_insn.specs.Jumps.{AreOffsets}

pub all_bytes : (xs : List ℕ) → AreBytes xs → AllByRecursion (λ byte. byte < 2 ^ 8) xs
all_bytes [] bytes = tt
all_bytes (x ∷ xs) bytes = (bytes 0, all_bytes xs (λ k. bytes (suc k)))

module _ (code : List ℕ) (bytes : AreBytes code) (pc next : ℕ) where
  pub offsets_end : (other low high : ℤ) (at : ℕ) → decoded code pc ≡ Ok (TableSwitch other low high at, next) → (at + 4 * offsets_between low high ≡ next) × (next ≤ length code)
  offsets_end other low high at is =
      let read = decoded_is_spelled code pc next (TableSwitch other low high at) (all_bytes code bytes) is in
      let long = length_5 read.0 (s4 other) (s4 low) (s4 high) read.1 in
      let taken = length-take (next - pc) (drop pc code) in
      let left = length-drop pc code in
      let same = ap length read.6 in
      (omega arith, read.5)

  -- its bounds are signed numbers of 32 bits
  pub count_is : (other low high : ℤ) (at : ℕ) → decoded code pc ≡ Ok (TableSwitch other low high at, next) → unsigned_abs (to_z w32 (of_z w32 high) -ℤ to_z w32 (of_z w32 low)) + 1 ≡ offsets_between low high
  count_is other low high at is =
      let read = decoded_is_spelled code pc next (TableSwitch other low high at) (all_bytes code bytes) is in
      let fits_low : SFits w32 low = read.3.1 in
      let fits_high : SFits w32 high = read.3.2 in
      rw (to_z-of_z w32 low fits_low, to_z-of_z w32 high fits_high) refl

  pub pairs_end : (other : ℤ) (pairs at : ℕ) → decoded code pc ≡ Ok (LookupSwitch other pairs at, next) → (at + 8 * pairs ≡ next) × (next ≤ length code)
  pairs_end other pairs at is =
      let read = decoded_is_spelled code pc next (LookupSwitch other pairs at) (all_bytes code bytes) is in
      let long = length_4 read.0 (s4 other) (big_bytes 4 pairs) read.1 in
      let taken = length-take (next - pc) (drop pc code) in
      let left = length-drop pc code in
      let same = ap length read.6 in
      (omega arith, read.5)

pub four_apart : (n : ℕ) (table : List ℕ) → 4 * n ≤ length table → AreOffsets n 4 table
four_apart zero table enough = tt
four_apart (suc n) table enough = let left = length-drop 4 table in (omega arith, four_apart n (drop 4 table) (omega arith))

pub eight_apart : (n : ℕ) (table : List ℕ) → 8 * n ≤ length table + 4 → AreOffsets n 8 table
eight_apart zero table enough = tt
eight_apart (suc n) table enough = let left = length-drop 8 table in (omega arith, eight_apart n (drop 8 table) (omega arith))
