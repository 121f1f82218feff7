-- The two kinds of operations with two operands.
use Rattle.std.specs.Prelude.{◌≡◌, ℕ, ℤ, pos, true, false, Some}
use Rattle.std.specs.Ordering.{int_eq}
use Rattle.std.proofs.Common.{refl}
use Rattle.machine.specs.Arithmetic.{divides, divided, whole_op, int_op}

pub by_division : (op : ℕ) (x y : ℤ) → divides op ≡ true → int_eq y (pos 0) ≡ false → int_op op x y ≡ Some (divided op x y)
by_division op x y one other = rw (int_op, one, other) refl

pub by_whole : (op : ℕ) (x y : ℤ) → divides op ≡ false → int_op op x y ≡ Some (whole_op op x y)
by_whole op x y one = rw (int_op, one) refl
