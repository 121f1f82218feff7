-- The keys of a lookupswitch rise where each is less than the next.
use Rattle.std.proofs.Common.{◌≡◌, ℕ, zero, suc, ◌+◌, ◌-◌, ◌*◌, ◌<◌, ◌≤◌, Bool, true, List, drop, refl, sym, ap, ◌∙◌, arith}
use Rattle.std.specs.Prelude.{◌&&◌, int_lt}
use Rattle.std.proofs.lemmas.List.{drop-drop}
use Rattle.jo_insn.specs.Instructions.{rises, keys_of}
use Rattle.jo_insn.specs.Keys.{key_at}

-- whether the keys rise from a pair on
unfoldable pub rises_from : ℕ → ℕ → List ℕ → Bool
rises_from pair pairs table = rises (keys_of (pairs - pair) (drop (8 * pair) table))

rises-few : (n : ℕ) (table : List ℕ) → n ≤ 1 → rises (keys_of n table) ≡ true
rises-few zero table le = refl
rises-few (suc zero) table le = refl
rises-few (suc (suc n)) table le = absurd (omega arith)

pub rises_from-last : (pair pairs : ℕ) (table : List ℕ) → pairs ≤ pair + 1 → rises_from pair pairs table ≡ true
unfolding rises_from
rises_from-last pair pairs table le = rises-few (pairs - pair) (drop (8 * pair) table) (omega arith)

pub rises_from-step : (pair pairs : ℕ) (table : List ℕ) → pair + 1 < pairs
    → rises_from pair pairs table ≡ (int_lt (key_at pair table) (key_at (pair + 1) table) && rises_from (pair + 1) pairs table)
unfolding rises_from
rises_from-step pair pairs table lt =
    let n : ℕ = pairs - (pair + 2) in
    let two : pairs - pair ≡ suc (suc n) = omega arith in
    let one : pairs - (pair + 1) ≡ suc n = omega arith in
    let by : 8 * (pair + 1) ≡ 8 * pair + 8 = omega arith in
    let next : drop (8 * (pair + 1)) table ≡ drop 8 (drop (8 * pair) table) = ap (λ k. drop k table) by ∙ sym (drop-drop 8 (8 * pair) table) in
    rw (two, one, next) refl

pub rises_from-all : (pairs : ℕ) (table : List ℕ) → rises_from 0 pairs table ≡ rises (keys_of pairs table)
unfolding rises_from
rises_from-all pairs table = let e : pairs - 0 ≡ pairs = omega arith in rw e refl

pub ruleset keys = (rises_from-last, rises_from-step, rises_from-all)
