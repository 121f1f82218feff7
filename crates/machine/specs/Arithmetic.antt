-- Arithmetic on ints, which are signed numbers of 32 bits (JVM Specification SE 8, 2.3.1 and 6.5). That stores narrow is 6.5 of
-- bastore, castore, sastore, and of putfield, putstatic and ireturn for the types that 2.11.1 keeps as ints.
use Rattle.std.specs.Prelude.{ℕ, ◌%◌, ◌/◌, ◌^◌, Bool, ◌==◌, ◌||◌, not, if◌then◌else◌, ℤ, pos, int_lt, int_le, Option, Some, None}
use Rattle.std.specs.Int.{w8, w16, w32, cast_signed, cast_unsigned, int_wrapping_add, int_wrapping_sub, int_wrapping_mul, int_wrapping_div, int_wrapping_neg, int_bit_and, int_bit_or, int_bit_xor, int_shl, int_shr}
use Rattle.std.specs.Int.RustNames.{int_rem}
use Rattle.std.specs.Ordering.{int_eq}
use Rattle.jo_text.specs.declared.descriptors.Base.{Base}
use Rattle.jo_text.specs.declared.descriptors.Base.TheVariants.{Byte, Char, Short, Boolean}
use Rattle.jo_text.specs.declared.descriptors.FieldDesc.{FieldDesc}

-- ---- two operands

-- the low five bits of the second operand say how far is shifted
abbrev pub shift_by : ℤ → ℕ
shift_by y = cast_unsigned w32 y % 32

-- what comes in from the left is 0
abbrev pub shifted_unsigned : ℤ → ℤ → ℤ
shifted_unsigned x y = cast_signed w32 (cast_unsigned w32 x / 2 ^ shift_by y)

-- 96 iadd, 100 isub, 104 imul, 120 ishl, 122 ishr, 124 iushr, 126 iand, 128 ior, 130 ixor
abbrev pub whole_op : ℕ → ℤ → ℤ → ℤ
whole_op op x y =
    if op == 96 then int_wrapping_add w32 x y
    else if op == 100 then int_wrapping_sub w32 x y
    else if op == 104 then int_wrapping_mul w32 x y
    else if op == 120 then int_shl w32 x (shift_by y)
    else if op == 122 then int_shr x (shift_by y)
    else if op == 124 then shifted_unsigned x y
    else if op == 126 then int_bit_and w32 x y
    else if op == 128 then int_bit_or w32 x y
    else int_bit_xor w32 x y

-- 108 idiv towards zero, where the least int by -1 is itself; 112 irem, what is left of it, with the sign of the first
abbrev pub divided : ℕ → ℤ → ℤ → ℤ
divided op x y = if op == 108 then int_wrapping_div w32 x y else int_rem x y

abbrev pub divides : ℕ → Bool
divides op = op == 108 || op == 112

-- none where the divisor is 0
abbrev pub int_op : ℕ → ℤ → ℤ → Option ℤ
int_op op x y =
    if divides op then (if int_eq y (pos 0) then None else Some (divided op x y))
    else Some (whole_op op x y)

-- 116 ineg
abbrev pub negated : ℤ → ℤ
negated x = int_wrapping_neg w32 x

-- ---- fewer bits

-- a byte and a short keep the sign of what is left, a char has none, and a boolean is the lowest bit
abbrev pub kept_by : Base → ℤ → ℤ
kept_by Byte z = cast_signed w8 (cast_unsigned w32 z % 2 ^ 8)
kept_by Char z = pos (cast_unsigned w32 z % 2 ^ 16)
kept_by Short z = cast_signed w16 (cast_unsigned w32 z % 2 ^ 16)
kept_by Boolean z = pos (cast_unsigned w32 z % 2)
kept_by _ z = z

-- what a field, an element or a result of a type keeps of an int
abbrev pub kept_int : FieldDesc → ℤ → ℤ
kept_int type z = if type.dims == 0 then kept_by type.base z else z

-- 145 i2b, 146 i2c, 147 i2s
abbrev pub narrow : ℕ → ℤ → ℤ
narrow op z = if op == 145 then kept_by Byte z else if op == 146 then kept_by Char z else kept_by Short z

-- ---- tests

-- 153 ifeq, 154 ifne, 155 iflt, 156 ifge, 157 ifgt, 158 ifle of an int against 0; the same six of two ints from 159 on
abbrev pub int_test : ℕ → ℤ → ℤ → Bool
int_test op x y =
    if op == 153 || op == 159 then int_eq x y
    else if op == 154 || op == 160 then not (int_eq x y)
    else if op == 155 || op == 161 then int_lt x y
    else if op == 156 || op == 162 then not (int_lt x y)
    else if op == 157 || op == 163 then int_lt y x
    else not (int_lt y x)
