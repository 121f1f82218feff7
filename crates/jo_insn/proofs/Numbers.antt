-- Numbers in bytes, the highest first: what is written is read, and what is read is written so.
use Rattle.std.proofs.Common.{◌≡◌, ℕ, zero, suc, ◌+◌, ◌-◌, ◌*◌, ◌/◌, ◌%◌, ◌^◌, ◌<◌, ◌≤◌, nat_lt, true, false, if◌then◌else◌, ℤ, pos, negsuc, ◌-ℤ◌, List, [], ◌∷◌, ◌++◌, length, drop, slice_index, Result, Ok, Err, refl, sym, ap, ◌∙◌, arith, inl, inr, subst, length-append}
use Rattle.std.specs.Int.{Width, w8, w16, w32, w64, w128, byte_at, cast_signed, cast_unsigned}
use Rattle.std.specs.Int.RustNames.{FitsSigned}
use Rattle.std.specs.List.{AllByRecursion}
use Rattle.std.proofs.Math.Facts.{Fits-of_z, sfits_to_z}
use Rattle.std.proofs.Math.Nat.{div-one, mod-eq_of_lt, one-le-pow, pow-suc, mul-add-div_right, mul-add-mod_self_right}
use Rattle.std.proofs.lemmas.Bool.{cases_lt, le-ltb, lt-ltb}
use Rattle.std.proofs.lemmas.Int.{ints, of_z-to_z, to_z-of_z}
use Rattle.std.proofs.lemmas.List.{get_or-drop}
use Rattle.std.proofs.lemmas.Nat.{div-mul-add, pow-add}
use mir.Val.{bits, bytes, sel}
use Rattle.byteorder.specs.Endian.{big_bytes, big_from, big_number, twos_complement}
use Rattle.byteorder.specs.Numbers.{big_from-lt, big_number-reads_back, length-bytes_high_first}
use Rattle.jo_insn.specs.declared.instructions.InsnFault.{InsnFault}
use Rattle.jo_insn.specs.declared.instructions.InsnFault.TheVariants.{Cut}
use Rattle.jo_insn.specs.Instructions.{number_in, signed_in, ◌>>=◌}

-- ---- what is written is read

pub number_in_bytes : (n x : ℕ) (rest : List ℕ) → x < 256 ^ n → number_in n (big_bytes n x ++ rest) ≡ Ok x
number_in_bytes n x rest below =
    let whole = length-append (big_bytes n x) rest in
    let head = length-bytes_high_first n x in
    let enough : n ≤ length (big_bytes n x ++ rest) = omega arith in
    rw (le-ltb (length (big_bytes n x ++ rest)) n enough) (ap Ok (big_number-reads_back n x rest below))

-- the two readings of a signed number: `half` is the first that is negative, and `whole` what is taken from it
one_reading : (half whole x : ℕ) → x < whole
    → (if nat_lt x half then pos x else pos x -ℤ pos whole) ≡ sel (nat_lt x half) (pos x) (negsuc (whole - suc x))
one_reading half whole x below = elim (nat_lt x half) as (λ b. (if b then pos x else pos x -ℤ pos whole) ≡ sel b (pos x) (negsuc (whole - suc x))) [
  | true ↦ refl
  | false ↦ omega (arith, ints)
]

twos_complement_cast : (w : Width) (x : ℕ) → x < 2 ^ bits w → twos_complement (bytes w) x ≡ cast_signed w x
twos_complement_cast w8 x below = one_reading (2 ^ 7) (2 ^ 8) x below
twos_complement_cast w16 x below = one_reading (2 ^ 15) (2 ^ 16) x below
twos_complement_cast w32 x below = one_reading (2 ^ 31) (2 ^ 32) x below
twos_complement_cast w64 x below = one_reading (2 ^ 63) (2 ^ 64) x below
twos_complement_cast w128 x below = one_reading (2 ^ 127) (2 ^ 128) x below

bytes_of_width : (w : Width) → 256 ^ bytes w ≡ 2 ^ bits w
bytes_of_width w8 = refl
bytes_of_width w16 = refl
bytes_of_width w32 = refl
bytes_of_width w64 = refl
bytes_of_width w128 = refl

pub signed_in_bytes : (w : Width) (z : ℤ) (rest : List ℕ) → FitsSigned w z
    → signed_in (bytes w) (big_bytes (bytes w) (cast_unsigned w z) ++ rest) ≡ Ok z
signed_in_bytes w z rest fits =
    let below : cast_unsigned w z < 2 ^ bits w = (Fits-of_z fits).fits in
    let same = bytes_of_width w in
    rw (number_in_bytes (bytes w) (cast_unsigned w z) rest (omega arith)) (ap Ok (twos_complement_cast w (cast_unsigned w z) below ∙ to_z-of_z w z fits))

pub number_in_enough : (n : ℕ) (xs : List ℕ) → n ≤ length xs → number_in n xs ≡ Ok (big_number n xs)
number_in_enough n xs enough = rw (le-ltb (length xs) n enough) refl

pub number_in_byte : (b : ℕ) (rest : List ℕ) → number_in 1 (b ∷ rest) ≡ Ok b
number_in_byte b rest = number_in_enough 1 (b ∷ rest) (omega arith) ∙ ap Ok (omega arith)

-- ---- what is read is written so

-- each item of a list is a byte
abbrev pub AreBytes : List ℕ → Type 0
AreBytes xs = (k : ℕ) → slice_index xs k < 256

pub are_bytes : (xs : List ℕ) → AllByRecursion (λ byte. byte < 2 ^ 8) xs → AreBytes xs
are_bytes [] all k = omega arith
are_bytes (x ∷ xs) all zero = all.0
are_bytes (x ∷ xs) all (suc k) = are_bytes xs all.1 k

pub bytes_behind : (n : ℕ) (xs : List ℕ) → AreBytes xs → AreBytes (drop n xs)
bytes_behind n xs bytes k = rw (get_or-drop n xs k 0) (bytes (n + k))

size_of_bytes : (n : ℕ) → 0 < 256 ^ n
size_of_bytes n = let least = one-le-pow n 256 (omega arith) in omega arith

byte_of : (k x : ℕ) → byte_at k x ≡ x / 256 ^ k % 256
byte_of zero x = ap (λ y. y % 256) (sym (div-one x))
byte_of (suc k) x = refl

-- what stands above a byte does not change it
byte_below : (i k top x : ℕ) → byte_at k (top * 256 ^ (suc i + k) + x) ≡ byte_at k x
byte_below i k top x =
    let shape : top * 256 ^ (suc i + k) ≡ top * 256 ^ i * 256 * 256 ^ k = rw (pow-add 256 (suc i) k, pow-suc 256 i) (grind arith) in
    rw (shape, byte_of k (top * 256 ^ i * 256 * 256 ^ k + x), byte_of k x, mul-add-div_right (size_of_bytes k) (top * 256 ^ i * 256) x) (mul-add-mod_self_right (top * 256 ^ i) 256 (x / 256 ^ k))

bytes_below : (n m top x : ℕ) → n ≤ m → big_bytes n (top * 256 ^ m + x) ≡ big_bytes n x
bytes_below zero m top x fits = refl
bytes_below (suc n) m top x fits =
    let place : suc (m - suc n) + n ≡ m = omega arith in
    let first = rw place at (byte_below (m - suc n) n top x) in
    rw (first, bytes_below n m top x (omega arith)) refl

big_number_cons : (i n x : ℕ) (xs : List ℕ) → big_from (suc i) n (x ∷ xs) ≡ big_from i n xs
big_number_cons i zero x xs = refl
big_number_cons i (suc n) x xs = rw (big_number_cons (suc i) n x xs) refl

pub bytes_of_number : (n : ℕ) (xs : List ℕ) → AreBytes xs → n ≤ length xs → xs ≡ big_bytes n (big_number n xs) ++ drop n xs
bytes_of_number zero xs bytes enough = refl
bytes_of_number (suc n) [] bytes enough = absurd (omega arith)
bytes_of_number (suc n) (x ∷ xs) bytes enough =
    let low : big_number n xs < 256 ^ n = big_from-lt 0 n xs (λ k. bytes (suc k)) in
    let byte : x < 256 = bytes 0 in
    let first : byte_at n (x * 256 ^ n + big_number n xs) ≡ x = byte_of n _ ∙ ap (λ y. y % 256) (div-mul-add x (256 ^ n) (big_number n xs) low) ∙ mod-eq_of_lt byte in
    let more = bytes_of_number n xs (λ k. bytes (suc k)) (omega arith) in
    rw (big_number_cons 0 n x xs, first, bytes_below n n x (big_number n xs) (omega arith), ← more) refl

-- the number x stands in the first n bytes
abbrev pub Reads : ℕ → ℕ → List ℕ → Type 0
Reads n x xs = (x < 256 ^ n) × (n ≤ length xs) × (xs ≡ big_bytes n x ++ drop n xs)

pub number_read : (n x : ℕ) (xs : List ℕ) → AreBytes xs → number_in n xs ≡ Ok x → Reads n x xs
number_read n x xs bytes is = elim (cases_lt (length xs) n) [
  | inl short ↦
      let cut : Err Cut ≡ Ok x = rw (lt-ltb (length xs) n short) at is in
      absurd (cc)
  | inr enough ↦
      let whole : Ok (big_number n xs) ≡ Ok x = rw (le-ltb (length xs) n enough) at is in
      let same : big_number n xs ≡ x = cc in
      let P : ℕ → Type 0 = λ y. Reads n y xs in
      subst P same (big_from-lt 0 n xs bytes, enough, bytes_of_number n xs bytes enough)
]

-- the signed number z of that width stands in the first bytes
abbrev pub ReadsSigned : Width → ℤ → List ℕ → Type 0
ReadsSigned w z xs = FitsSigned w z × (bytes w ≤ length xs) × (xs ≡ big_bytes (bytes w) (cast_unsigned w z) ++ drop (bytes w) xs)

signed_of : (w : Width) (z : ℤ) (r : Result ℕ InsnFault) → (r >>= (λ n. Ok (twos_complement (bytes w) n))) ≡ Ok z → (x : ℕ) × (r ≡ Ok x) × (twos_complement (bytes w) x ≡ z)
signed_of w z (Err fault) is = absurd (cc)
signed_of w z (Ok x) is = (x, refl, cc)

pub signed_read : (w : Width) (z : ℤ) (xs : List ℕ) → AreBytes xs → signed_in (bytes w) xs ≡ Ok z → ReadsSigned w z xs
signed_read w z xs bytes_xs is =
    let number = signed_of w z (number_in (bytes w) xs) is in
    let x : ℕ = number.0 in
    let read : Reads (bytes w) x xs = number_read (bytes w) x xs bytes_xs number.1 in
    let size = bytes_of_width w in
    let below : x < 2 ^ bits w = omega arith in
    let same : cast_signed w x ≡ z = sym (twos_complement_cast w x below) ∙ number.2 in
    let P : ℤ → Type 0 = λ y. ReadsSigned w y xs in
    subst P same (sfits_to_z (record { fits = below }), read.1, rw (of_z-to_z w x below) read.2)

pub byte_read : (x : ℕ) (xs : List ℕ) → AreBytes xs → number_in 1 xs ≡ Ok x → (x < 2 ^ 8) × (xs ≡ x ∷ drop 1 xs)
byte_read x xs bytes is =
    let read = number_read 1 x xs bytes is in
    let small : x < 256 = read.0 in
    let same : x % 256 ≡ x = mod-eq_of_lt small in
    (small, read.2 ∙ ap (λ (byte : ℕ). byte ∷ drop 1 xs) same)
