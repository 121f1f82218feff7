-- Items of a class file, read from left to right (JVM Specification SE 8, 4.1). `rest` is what the file has from some item
-- on, and `size` the file's length, so the item's place is what the two differ by. Each answers what it read and the rest
-- behind it, or the fault: an item whose bytes aren't all there is cut, and its place is the file's length.
use Rattle.std.specs.Prelude.{ℕ, zero, suc, ◌-◌, Bool, nat_lt, if◌then◌else◌, List, [], ◌∷◌, length, take, drop, Result, Ok, Err}
use Rattle.byteorder.specs.Endian.{big_number}
use Rattle.class_pool.specs.declared.faults.ClassCode.{ClassCode}
use Rattle.class_pool.specs.declared.faults.ClassCode.TheVariants.{Truncated}
use Rattle.class_pool.specs.declared.faults.ClassFault.{ClassFault}

infixl 10 ◌>>=◌
abbrev pub ◌>>=◌ : {A B : Type 0} → Result A ClassFault → (A → Result B ClassFault) → Result B ClassFault
(Err fault) >>= f = Err fault
(Ok x) >>= f = f x

abbrev pub place_of : ℕ → List ℕ → ℕ
place_of size rest = size - length rest

abbrev pub fault : ClassCode → ℕ → ClassFault
fault code place = record { code = code; place = place }

-- what follows where a test passes, else the fault with that code and place
abbrev pub passing : {A : Type 0} → Bool → ClassCode → ℕ → Result A ClassFault → Result A ClassFault
passing test code place next = if test then next else Err (fault code place)

-- a number in so many bytes, the highest first
abbrev pub number : ℕ → ℕ → List ℕ → Result (ℕ × List ℕ) ClassFault
number size count rest = if nat_lt (length rest) count then Err (fault Truncated size) else Ok (big_number count rest, drop count rest)

-- so many bytes
abbrev pub bytes_of : ℕ → ℕ → List ℕ → Result (List ℕ × List ℕ) ClassFault
bytes_of size count rest = if nat_lt (length rest) count then Err (fault Truncated size) else Ok (take count rest, drop count rest)

-- two numbers of two bytes
abbrev pub two_numbers : ℕ → List ℕ → Result ((ℕ × ℕ) × List ℕ) ClassFault
two_numbers size rest = do
  first ← number size 2 rest
  second ← number size 2 first.1
  Ok ((first.0, second.0), second.1)

-- so many items, one after another
unfoldable pub many : {X : Type 0} → (List ℕ → Result (X × List ℕ) ClassFault) → ℕ → List ℕ → Result (List X × List ℕ) ClassFault
many read zero rest = Ok ([], rest)
many read (suc n) rest = do
  first ← read rest
  others ← many read n first.1
  Ok (first.0 ∷ others.0, others.1)
