-- The locals of a method that begins.
use Rattle.std.proofs.Common.{◌≡◌, ap, refl, ℕ, zero, suc, ◌-◌, ◌≤◌, List, [], ◌∷◌, ◌++◌, length, take, map, replicate, Option, Some, None, option_map, arith}
use Rattle.jo_prog.specs.Values as machine
use Rattle.jvm_values.specs.declared.values.Value.{Value}
use Rattle.jvm_values.specs.Values.{value_of}

filled : (n m : ℕ) → n ≤ m → map (option_map value_of) (replicate n None) ≡ take n (replicate m None)
filled zero m within = refl
filled (suc n) zero within = absurd (omega arith)
filled (suc n) (suc m) within = ap (λ (vs : List (Option (machine.Value ℕ))). None ∷ vs) (filled n m (omega arith))

-- those that are set, and behind them those that aren't
pub locals_set : (count m rest : ℕ) (values : List Value) → rest ≡ count - length values → count ≤ m → map (option_map value_of) (take count (map (λ v. Some v) values) ++ replicate rest None) ≡ take count (map (λ v. Some v) (map value_of values) ++ replicate m None)
locals_set zero m zero values left within = refl
locals_set zero m (suc rest) values left within = absurd (omega arith)
locals_set (suc count) m rest [] left within =
    let all : rest ≡ suc count = omega arith in
    rw all (filled (suc count) m within)
locals_set (suc count) zero rest (v ∷ values) left within = absurd (omega arith)
locals_set (suc count) (suc m) rest (v ∷ values) left within =
    ap (λ (vs : List (Option (machine.Value ℕ))). Some (value_of v) ∷ vs) (locals_set count (suc m) rest values (omega arith) (omega arith))
