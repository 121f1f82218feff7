-- The head of a switch, as the encoder builds it.
use Rattle.std.proofs.Common.{◌≡◌, ℕ, zero, suc, ◌+◌, ◌-◌, ◌*◌, ◌<◌, List, [], ◌∷◌, ◌++◌, length, take, drop, set, replicate, arith, ap}
use Rattle.std.proofs.lemmas.List.{append-nil, append_assoc, take_at}
use borrow.Rule.Slice.PartMut.{put_mid}

-- an array of zeros with the opcode at `start` and the numbers from place 4 on, from the opcode to their end
pub head_of_switch : (start op n : ℕ) (numbers : List ℕ) → start < 4 → length numbers ≡ 4 * n
    → take (4 + 4 * n - start) (drop start (put_mid 4 (4 + 4 * n - 4) (set (replicate 16 0) start op) numbers)) ≡ op ∷ replicate (3 - start) 0 ++ numbers
head_of_switch zero op n numbers below whole =
    let end : 4 + 4 * n - 0 ≡ suc (suc (suc (suc (4 * n)))) = omega arith in
    rw end (ap (λ (more : List ℕ). op ∷ 0 ∷ 0 ∷ 0 ∷ more) (take_at numbers _ (4 * n) whole))
head_of_switch (suc zero) op n numbers below whole =
    let end : 4 + 4 * n - 1 ≡ suc (suc (suc (4 * n))) = omega arith in
    rw end (ap (λ (more : List ℕ). op ∷ 0 ∷ 0 ∷ more) (take_at numbers _ (4 * n) whole))
head_of_switch (suc (suc zero)) op n numbers below whole =
    let end : 4 + 4 * n - 2 ≡ suc (suc (4 * n)) = omega arith in
    rw end (ap (λ (more : List ℕ). op ∷ 0 ∷ more) (take_at numbers _ (4 * n) whole))
head_of_switch (suc (suc (suc zero))) op n numbers below whole =
    let end : 4 + 4 * n - 3 ≡ suc (4 * n) = omega arith in
    rw end (ap (λ (more : List ℕ). op ∷ more) (take_at numbers _ (4 * n) whole))
head_of_switch (suc (suc (suc (suc start)))) op n numbers below whole = absurd (omega arith)

-- the numbers of a tableswitch, one by one
pub three_numbers : (front other low high table : List ℕ) → front ++ (other ++ (low ++ (high ++ []))) ++ table ≡ front ++ other ++ low ++ high ++ table
three_numbers front other low high table = simp (append_assoc, append-nil)
