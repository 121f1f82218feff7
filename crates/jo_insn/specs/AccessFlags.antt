-- The flags of classes, fields and methods that mean something to a run (JVM Specification SE 8, 4.1, 4.5 and 4.6).
use Rattle.std.specs.Prelude.{ℕ, Bool, not, ◌==◌, bit_and}

-- whether a flag is set
abbrev pub has_flag : ℕ → ℕ → Bool
has_flag flag flags = not (bit_and flags flag == 0)

-- ACC_STATIC
abbrev pub static_flag : ℕ
static_flag = 0x0008

-- ACC_SYNCHRONIZED
abbrev pub synchronized_flag : ℕ
synchronized_flag = 0x0020

-- ACC_NATIVE
abbrev pub native_flag : ℕ
native_flag = 0x0100

-- ACC_ABSTRACT
abbrev pub abstract_flag : ℕ
abstract_flag = 0x0400
