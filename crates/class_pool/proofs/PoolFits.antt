-- What is read as a pool can be written: its numbers fit, its entries are spaced as they are spelled, and it is short enough.
use Rattle.std.proofs.Common.{◌≡◌, ℕ, zero, suc, ◌+◌, ◌-◌, ◌^◌, ◌<◌, ◌≤◌, nat_lt, Bool, true, false, if◌then◌else◌, ◌==◌, not, List, length, drop, get_or, Option, Some, None, Result, Ok, Err, refl, inl, inr, ap, arith}
use Rattle.std.specs.Int.{w32}
use Rattle.std.specs.Int.RustNames.{FitsSigned}
use Rattle.std.specs.List.{AllByRecursion}
use Rattle.std.specs.Option.{is_some}
use Rattle.std.specs.Result.{IfOk}
use Rattle.std.proofs.lemmas.Bool.{cases_lt, le-ltb, lt-ltb}
use Rattle.std.proofs.lemmas.Int.{ints}
use Rattle.std.proofs.lemmas.List.{get_or-drop, length-take}
use Rattle.byteorder.specs.Endian.{twos_complement}
use Rattle.byteorder.specs.Numbers.{big_from-lt}
use Rattle.jo_text.specs.Tests.{is_mutf8}
use Rattle.class_pool.specs.declared.entries.PoolEntry.{PoolEntry}
use Rattle.class_pool.specs.declared.entries.PoolEntry.TheVariants.{Integer, Float, Long, Double, Class, Text, FieldRef, MethodRef, InterfaceMethodRef, NameAndType, MethodType, InvokeDynamic}
use Rattle.class_pool.specs.declared.faults.ClassFault.{ClassFault}
use Rattle.class_pool.specs.Items.{◌>>=◌, place_of, number, bytes_of, two_numbers}
use Rattle.class_pool.specs.Pool.{is_double, read_utf8, read_one, read_pair, read_handle, read_indices, read_tagged, read_entry, read_entries, owed_by, reference_fault, unless_fault, read_pool_from, pool_of, pool_and_place}
use Rattle.class_pool.specs.Writing.{FitsEntry, FitsPool, AreSpaced, is_second}

AreBytes : List ℕ → Type 0
AreBytes xs = (i : ℕ) → get_or xs i 0 < 256

-- what is read passes P, and bytes follow
abbrev Reads : {X : Type 0} → (X → Type 0) → Result (X × List ℕ) ClassFault → Type 0
Reads P read = IfOk read (λ x. P x.0 × AreBytes x.1)

either : {A : Type 0} (P : A → Type 0) (test : Bool) (a b : Result A ClassFault) → IfOk a P → IfOk b P → IfOk (if test then a else b) P
either P true a b p q = p
either P false a b p q = q

and_then : {A B : Type 0} (P : A → Type 0) (Q : B → Type 0) (read : Result A ClassFault) (f : A → Result B ClassFault) → IfOk read P → ((x : A) → P x → IfOk (f x) Q) → IfOk (read >>= f) Q
and_then P Q (Ok x) f p step = step x p
and_then P Q (Err fault) f p step = tt

behind : (n : ℕ) (xs : List ℕ) → AreBytes xs → AreBytes (drop n xs)
unfolding AreBytes
behind n xs are i = rw (get_or-drop n xs i 0) (are (n + i))

number_fits : (size n : ℕ) (xs : List ℕ) → AreBytes xs → Reads (λ x. x < 256 ^ n) (number size n xs)
unfolding AreBytes
number_fits size n xs are = either (λ x. (x.0 < 256 ^ n) × AreBytes x.1) (nat_lt (length xs) n) _ _ tt (big_from-lt 0 n xs are, behind n xs are)

numbers_fit : (size : ℕ) (xs : List ℕ) → AreBytes xs → Reads (λ x. (x.0 < 2 ^ 16) × (x.1 < 2 ^ 16)) (two_numbers size xs)
numbers_fit size xs are =
    and_then _ _ (number size 2 xs) _ (number_fits size 2 xs are) (λ first p.
    and_then _ _ (number size 2 first.1) _ (number_fits size 2 first.1 p.1) (λ second q. ((p.0, q.0), q.1)))

twos_complement_fits : (x : ℕ) → x < 2 ^ 32 → FitsSigned w32 (twos_complement 4 x)
twos_complement_fits x below = elim (cases_lt x (2 ^ 31)) [ inl h ↦ rw (lt-ltb x (2 ^ 31) h) (omega (arith, ints)) | inr h ↦ rw (le-ltb x (2 ^ 31) h) (omega (arith, ints)) ]

-- an entry that has bytes
IsSpelled : PoolEntry → Type 0
IsSpelled entry = FitsEntry entry × (is_second entry ≡ false)

one_fits : (size n : ℕ) (made : ℕ → PoolEntry) (xs : List ℕ) → ((x : ℕ) → x < 256 ^ n → IsSpelled (made x)) → AreBytes xs → Reads IsSpelled (read_one size n made xs)
one_fits size n made xs fits are = and_then _ _ (number size n xs) _ (number_fits size n xs are) (λ x p. (fits x.0 p.0, p.1))

pair_fits : (size : ℕ) (made : ℕ → ℕ → PoolEntry) (xs : List ℕ) → ((x y : ℕ) → x < 2 ^ 16 → y < 2 ^ 16 → IsSpelled (made x y)) → AreBytes xs → Reads IsSpelled (read_pair size made xs)
pair_fits size made xs fits are = and_then _ _ (two_numbers size xs) _ (numbers_fit size xs are) (λ x p. (fits x.0.0 x.0.1 p.0.0 p.0.1, p.1))

text_fits : (size count : ℕ) (xs : List ℕ) → AreBytes xs → Reads (λ text. length text ≤ count) (bytes_of size count xs)
text_fits size count xs are = either (λ x. (length x.0 ≤ count) × AreBytes x.1) (nat_lt (length xs) count) _ _ tt (omega (arith, length-take count xs), behind count xs are)

utf8_fits : (size place : ℕ) (xs : List ℕ) → AreBytes xs → Reads IsSpelled (read_utf8 size place xs)
unfolding IsSpelled
utf8_fits size place xs are =
    and_then _ _ (number size 2 xs) _ (number_fits size 2 xs are) (λ count p.
    and_then _ _ (bytes_of size count.0 count.1) _ (text_fits size count.0 count.1 p.1) (λ text q.
    let short : length text.0 < 2 ^ 16 = omega (arith, q.0, p.0) in
    either (λ x. IsSpelled x.0 × AreBytes x.1) (is_mutf8 text.0) _ _ ((short, refl), q.1) tt))

handle_fits : (size : ℕ) (xs : List ℕ) → AreBytes xs → Reads IsSpelled (read_handle size xs)
unfolding IsSpelled
handle_fits size xs are =
    and_then _ _ (number size 1 xs) _ (number_fits size 1 xs are) (λ kind p.
    and_then _ _ (number size 2 kind.1) _ (number_fits size 2 kind.1 p.1) (λ target q. (((p.0, q.0), refl), q.1)))

indices_fit : (size place tag : ℕ) (xs : List ℕ) → AreBytes xs → Reads IsSpelled (read_indices size place tag xs)
unfolding read_indices IsSpelled
indices_fit size place tag xs are =
    let P : PoolEntry × List ℕ → Type 0 = λ x. IsSpelled x.0 × AreBytes x.1 in
    either P (tag == 7) _ _ (one_fits size 2 Class xs (λ x h. (h, refl)) are)
    (either P (tag == 8) _ _ (one_fits size 2 Text xs (λ x h. (h, refl)) are)
    (either P (tag == 9) _ _ (pair_fits size FieldRef xs (λ x y h i. ((h, i), refl)) are)
    (either P (tag == 10) _ _ (pair_fits size MethodRef xs (λ x y h i. ((h, i), refl)) are)
    (either P (tag == 11) _ _ (pair_fits size InterfaceMethodRef xs (λ x y h i. ((h, i), refl)) are)
    (either P (tag == 12) _ _ (pair_fits size NameAndType xs (λ x y h i. ((h, i), refl)) are)
    (either P (tag == 16) _ _ (one_fits size 2 MethodType xs (λ x h. (h, refl)) are)
    (either P (tag == 18) _ _ (pair_fits size InvokeDynamic xs (λ x y h i. ((h, i), refl)) are) tt)))))))

tagged_fits : (size place tag : ℕ) (xs : List ℕ) → AreBytes xs → Reads IsSpelled (read_tagged size place tag xs)
unfolding read_tagged IsSpelled
tagged_fits size place tag xs are =
    let P : PoolEntry × List ℕ → Type 0 = λ x. IsSpelled x.0 × AreBytes x.1 in
    either P (tag == 1) _ _ (utf8_fits size place xs are)
    (either P (tag == 3) _ _ (one_fits size 4 (λ n. Integer (twos_complement 4 n)) xs (λ x h. (twos_complement_fits x h, refl)) are)
    (either P (tag == 4) _ _ (one_fits size 4 Float xs (λ x h. (h, refl)) are)
    (either P (tag == 5) _ _ (one_fits size 8 Long xs (λ x h. (h, refl)) are)
    (either P (tag == 6) _ _ (one_fits size 8 Double xs (λ x h. (h, refl)) are)
    (either P (tag == 15) _ _ (handle_fits size xs are) (indices_fit size place tag xs are))))))

entry_fits : (size : ℕ) (xs : List ℕ) → AreBytes xs → Reads IsSpelled (read_entry size xs)
unfolding read_entry
entry_fits size xs are = and_then _ _ (number size 1 xs) _ (number_fits size 1 xs are) (λ tag p. tagged_fits size (place_of size xs) tag.0 tag.1 p.1)

owed_when_double : (entry : PoolEntry) (place : ℕ) → is_some (owed_by entry place) ≡ is_double entry
owed_when_double entry place = of_test (is_double entry)
  where
    of_test : (b : Bool) → is_some (if b then Some place else None) ≡ b
    of_test true = refl
    of_test false = refl

-- the entries of so many indices
abbrev Fit : Bool → ℕ → List PoolEntry → Type 0
Fit owed count entries = (length entries ≡ count) × AllByRecursion FitsEntry entries × AreSpaced owed entries

entries_fit : (size : ℕ) (owed : Option ℕ) (count : ℕ) (xs : List ℕ) → AreBytes xs → IfOk (read_entries size owed count xs) (λ x. Fit (is_some owed) count x.0)
unfolding read_entries IsSpelled
entries_fit size None zero xs are = (refl, tt, refl)
entries_fit size (Some place) zero xs are = tt
entries_fit size (Some place) (suc n) xs are =
    and_then _ _ (read_entries size None n xs) _ (entries_fit size None n xs are) (λ others p. (ap suc p.0, (tt, p.1), (refl, p.2)))
entries_fit size None (suc n) xs are =
    and_then _ _ (read_entry size xs) _ (entry_fits size xs are) (λ entry p.
    and_then _ _ (read_entries size (owed_by entry.0 (place_of size xs)) n entry.1) _ (entries_fit size (owed_by entry.0 (place_of size xs)) n entry.1 p.1) (λ others q.
    (ap suc q.0, (p.0.0, q.1), (p.0.1, rw (owed_when_double entry.0 (place_of size xs)) at q.2))))

pool_fits : (size : ℕ) (xs : List ℕ) → AreBytes xs → IfOk (read_pool_from size xs) (λ x. FitsPool x.0)
unfolding read_pool_from
pool_fits size xs are =
    and_then _ _ (number size 2 xs) _ (number_fits size 2 xs are) (λ count p.
    and_then (λ x. Fit false (count.0 - 1) x.0) _ _ _
    (either (λ x. Fit false (count.0 - 1) x.0) (not (count.0 == 0)) _ _ (entries_fit size None (count.0 - 1) count.1 p.1) tt)
    (λ entries q. checked (reference_fault size entries.0 count.1 entries.0) entries (record { few = omega (arith, q.0, p.0); entries = q.1; spaced = q.2 })))
  where
    checked : (wrong : Option ClassFault) (entries : List PoolEntry × List ℕ) → FitsPool entries.0 → IfOk (unless_fault wrong (Ok entries)) (λ x. FitsPool x.0)
    checked None entries fits = fits
    checked (Some wrong) entries fits = tt

-- the pool that is read from bytes
pub read_pool_fits : (file : List ℕ) (pool : List PoolEntry) (place : ℕ) → ((i : ℕ) → get_or file i 0 < 256) → pool_and_place file ≡ Ok (pool, place) → FitsPool pool
unfolding AreBytes
read_pool_fits file pool place are e =
    let fits = and_then {B = List PoolEntry × ℕ} (λ x. FitsPool x.0) (λ x. FitsPool x.0) (pool_of file) (λ x. Ok (x.0, place_of (length file) x.1)) (pool_fits (length file) (drop 8 file) (behind 8 file are)) (λ x p. p) in
    rw e at fits
