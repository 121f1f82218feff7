-- How a class file spells a constant pool (JVM Specification SE 8, 4.4), and which pools it can spell.
use Rattle.std.specs.Prelude.{◌≡◌, ℕ, ◌+◌, ◌^◌, ◌<◌, Bool, true, false, List, [], ◌∷◌, ◌++◌, length}
use Rattle.std.specs.Int.{w32, cast_unsigned}
use Rattle.std.specs.Int.RustNames.{FitsSigned}
use Rattle.std.specs.List.{AllByRecursion, flat_map}
use Rattle.byteorder.specs.Endian.{big_bytes}
use Rattle.class_pool.specs.declared.entries.PoolEntry.{PoolEntry}
use Rattle.class_pool.specs.declared.entries.PoolEntry.TheVariants.{Second, Utf8, Integer, Float, Long, Double, Class, Text, FieldRef, MethodRef, InterfaceMethodRef, NameAndType, MethodHandle, MethodType, InvokeDynamic}
use Rattle.class_pool.specs.Pool.{is_double}

-- the bytes of an entry: its tag, and what stands behind it
abbrev pub spelled_entry : PoolEntry → List ℕ
spelled_entry Second = []
spelled_entry (Utf8 text) = 1 ∷ big_bytes 2 (length text) ++ text
spelled_entry (Integer n) = 3 ∷ big_bytes 4 (cast_unsigned w32 n)
spelled_entry (Float bits) = 4 ∷ big_bytes 4 bits
spelled_entry (Long bits) = 5 ∷ big_bytes 8 bits
spelled_entry (Double bits) = 6 ∷ big_bytes 8 bits
spelled_entry (Class name) = 7 ∷ big_bytes 2 name
spelled_entry (Text text) = 8 ∷ big_bytes 2 text
spelled_entry (FieldRef class type) = 9 ∷ big_bytes 2 class ++ big_bytes 2 type
spelled_entry (MethodRef class type) = 10 ∷ big_bytes 2 class ++ big_bytes 2 type
spelled_entry (InterfaceMethodRef class type) = 11 ∷ big_bytes 2 class ++ big_bytes 2 type
spelled_entry (NameAndType name desc) = 12 ∷ big_bytes 2 name ++ big_bytes 2 desc
spelled_entry (MethodHandle kind target) = 15 ∷ big_bytes 1 kind ++ big_bytes 2 target
spelled_entry (MethodType desc) = 16 ∷ big_bytes 2 desc
spelled_entry (InvokeDynamic method type) = 18 ∷ big_bytes 2 method ++ big_bytes 2 type

-- the count, and the entries
abbrev pub spelled_pool : List PoolEntry → List ℕ
spelled_pool pool = big_bytes 2 (length pool + 1) ++ flat_map spelled_entry pool

-- each number and length of an entry fits its field
abbrev pub FitsEntry : PoolEntry → Type 0
FitsEntry Second = Unit {0}
FitsEntry (Utf8 text) = length text < 2 ^ 16
FitsEntry (Integer n) = FitsSigned w32 n
FitsEntry (Float bits) = bits < 2 ^ 32
FitsEntry (Long bits) = bits < 2 ^ 64
FitsEntry (Double bits) = bits < 2 ^ 64
FitsEntry (Class name) = name < 2 ^ 16
FitsEntry (Text text) = text < 2 ^ 16
FitsEntry (FieldRef class type) = (class < 2 ^ 16) × (type < 2 ^ 16)
FitsEntry (MethodRef class type) = (class < 2 ^ 16) × (type < 2 ^ 16)
FitsEntry (InterfaceMethodRef class type) = (class < 2 ^ 16) × (type < 2 ^ 16)
FitsEntry (NameAndType name desc) = (name < 2 ^ 16) × (desc < 2 ^ 16)
FitsEntry (MethodHandle kind target) = (kind < 2 ^ 8) × (target < 2 ^ 16)
FitsEntry (MethodType desc) = desc < 2 ^ 16
FitsEntry (InvokeDynamic method type) = (method < 2 ^ 16) × (type < 2 ^ 16)

abbrev pub is_second : PoolEntry → Bool
is_second Second = true
is_second _ = false

-- Behind each Long or Double stands a Second, and nowhere else. `owed` says whether one is to come first.
abbrev pub AreSpaced : Bool → List PoolEntry → Type 0
AreSpaced owed [] = owed ≡ false
AreSpaced owed (entry ∷ more) = (is_second entry ≡ owed) × AreSpaced (is_double entry) more

-- the pool of some class file, as far as its spelling goes
pub record FitsPool (pool : List PoolEntry) : Type 0 where
  pub few : length pool < 65535
  pub entries : AllByRecursion FitsEntry pool
  pub spaced : AreSpaced false pool
