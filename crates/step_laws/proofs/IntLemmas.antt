-- What arithmetic on ints of 32 bits gives is such an int.
use Rattle.std.proofs.Common.{◌≡◌, ℕ, zero, suc, ◌/◌, ◌%◌, ◌^◌, ◌<◌, Bool, true, false, Option, Some, None, ℤ, pos, negsuc, w8, w16, w32, FitsSigned, neg_ℤ, subst, arith}
use Rattle.std.specs.Prelude.{◌==◌, if◌then◌else◌}
use Rattle.std.specs.Int.{cast_signed, cast_unsigned, int_wrapping_add, int_wrapping_sub, int_wrapping_mul, int_wrapping_div, int_bit_and, int_bit_or, int_bit_xor, int_shl, int_shr}
use Rattle.std.specs.Int.RustNames.{int_rem, int_div}
use Rattle.std.specs.Int.Signed.{mag_rem, mag_shr, rem_z, quot_z}
use Rattle.std.specs.Ordering.{int_eq}
use Rattle.std.proofs.Math.Facts.{sfits_to_z, sfits_widen, Fits-of_z, Fits-and, Fits-or, Fits-xor}
use Rattle.std.proofs.Math.Nat.{div-le_self}
use Rattle.jo_text.specs.declared.descriptors.Base.{Base}
use Rattle.jo_text.specs.declared.descriptors.Base.TheVariants.{Byte, Char, Double, Float, Int, Long, Short, Boolean, Class as OfName}
use Rattle.jo_text.specs.declared.descriptors.FieldDesc.{FieldDesc}
use Rattle.machine.specs.Arithmetic.{shift_by, shifted_unsigned, whole_op, divided, divides, int_op, negated, kept_by, kept_int, narrow}

bits_fit : (n : ℕ) → n < 2 ^ 32 → FitsSigned w32 (cast_signed w32 n)
bits_fit n h = sfits_to_z (record { fits = h })

rest_fits : (n : ℕ) → FitsSigned w32 (cast_signed w32 (n % 2 ^ 32))
rest_fits n = bits_fit (n % 2 ^ 32) (omega arith)

pub whole_fits : (op : ℕ) (x y : ℤ) → FitsSigned w32 x → FitsSigned w32 y → FitsSigned w32 (whole_op op x y)
whole_fits op x y f g = by_op (op == 96) (op == 100) (op == 104) (op == 120) (op == 122) (op == 124) (op == 126) (op == 128)
  where
    by_op : (a b c d e h i j : Bool) → FitsSigned w32 (
        if a then int_wrapping_add w32 x y
        else if b then int_wrapping_sub w32 x y
        else if c then int_wrapping_mul w32 x y
        else if d then int_shl w32 x (shift_by y)
        else if e then int_shr x (shift_by y)
        else if h then shifted_unsigned x y
        else if i then int_bit_and w32 x y
        else if j then int_bit_or w32 x y
        else int_bit_xor w32 x y)
    by_op true b c d e h i j = rest_fits _
    by_op false true c d e h i j = rest_fits _
    by_op false false true d e h i j = rest_fits _
    by_op false false false true e h i j = rest_fits _
    by_op false false false false true h i j = record { sfits = omega (arith, mag_shr x (2 ^ shift_by y), f.sfits) }
    by_op false false false false false true i j =
        bits_fit (cast_unsigned w32 x / 2 ^ shift_by y) (let below : cast_unsigned w32 x < 2 ^ 32 = (Fits-of_z f).fits in let le = div-le_self (cast_unsigned w32 x) (2 ^ shift_by y) in omega arith)
    by_op false false false false false false true j = sfits_to_z (Fits-and (cast_unsigned w32 y) (Fits-of_z f))
    by_op false false false false false false false true = sfits_to_z (Fits-or (Fits-of_z f) (Fits-of_z g))
    by_op false false false false false false false false = sfits_to_z (Fits-xor (Fits-of_z f) (Fits-of_z g))

opposite_fits : (n : ℕ) → cast_unsigned w32 (neg_ℤ (pos n)) < 2 ^ 32
opposite_fits zero = omega arith
opposite_fits (suc n) = omega arith

quotient_fits : (x y : ℤ) → FitsSigned w32 x → cast_unsigned w32 (int_div x y) < 2 ^ 32
quotient_fits (pos a) (pos b) f = let below : a < 2 ^ 31 = f.sfits in let le = div-le_self a b in omega arith
quotient_fits (pos a) (negsuc b) f = opposite_fits (a / suc b)
quotient_fits (negsuc a) (pos b) f = opposite_fits (suc a / b)
quotient_fits (negsuc a) (negsuc b) f = let below : a < 2 ^ 31 = f.sfits in let le = div-le_self (suc a) (suc b) in omega arith

pub divided_fits : (op : ℕ) (x y : ℤ) → FitsSigned w32 x → FitsSigned w32 (divided op x y)
divided_fits op x y f = by_op (op == 108)
  where
    by_op : (a : Bool) → FitsSigned w32 (if a then int_wrapping_div w32 x y else int_rem x y)
    by_op true = bits_fit (cast_unsigned w32 (int_div x y)) (quotient_fits x y f)
    by_op false = record { sfits = omega (arith, mag_rem x y, f.sfits) }

pub negated_fits : (x : ℤ) → FitsSigned w32 (negated x)
negated_fits x = rest_fits _

pub kept_by_fits : (base : Base) (z : ℤ) → FitsSigned w32 z → FitsSigned w32 (kept_by base z)
kept_by_fits Byte z f = sfits_widen tt (sfits_to_z {w = w8} (record { fits = omega arith }))
kept_by_fits Char z f = record { sfits = omega arith }
kept_by_fits Short z f = sfits_widen tt (sfits_to_z {w = w16} (record { fits = omega arith }))
kept_by_fits Boolean z f = record { sfits = omega arith }
kept_by_fits Double z f = f
kept_by_fits Float z f = f
kept_by_fits Int z f = f
kept_by_fits Long z f = f
kept_by_fits (OfName name) z f = f

pub kept_int_fits : (type : FieldDesc) (z : ℤ) → FitsSigned w32 z → FitsSigned w32 (kept_int type z)
kept_int_fits type z f = by_dims (type.dims == 0)
  where
    by_dims : (b : Bool) → FitsSigned w32 (if b then kept_by type.base z else z)
    by_dims true = kept_by_fits type.base z f
    by_dims false = f

pub narrow_fits : (op : ℕ) (z : ℤ) → FitsSigned w32 z → FitsSigned w32 (narrow op z)
narrow_fits op z f = by_op (op == 145) (op == 146)
  where
    by_op : (a b : Bool) → FitsSigned w32 (if a then kept_by Byte z else if b then kept_by Char z else kept_by Short z)
    by_op true b = kept_by_fits Byte z f
    by_op false true = kept_by_fits Char z f
    by_op false false = kept_by_fits Short z f

pub op_fits : (op : ℕ) (x y z : ℤ) → FitsSigned w32 x → FitsSigned w32 y → int_op op x y ≡ Some z → FitsSigned w32 z
op_fits op x y z f g = by_op (divides op) (int_eq y (pos 0))
  where
    same : (a b : ℤ) → Some a ≡ Some b → FitsSigned w32 a → FitsSigned w32 b
    same a b e = subst (λ (o : Option ℤ). kept o) e
      where
        kept : Option ℤ → Type 0
        kept None = FitsSigned w32 a
        kept (Some c) = FitsSigned w32 c

    by_op : (a b : Bool) → (if a then (if b then None else Some (divided op x y)) else Some (whole_op op x y)) ≡ Some z → FitsSigned w32 z
    by_op true true e = absurd (cc)
    by_op true false e = same (divided op x y) z e (divided_fits op x y f)
    by_op false b e = same (whole_op op x y) z e (whole_fits op x y f g)

pub added_fits : (x y : ℤ) → FitsSigned w32 (int_wrapping_add w32 x y)
added_fits x y = rest_fits _
