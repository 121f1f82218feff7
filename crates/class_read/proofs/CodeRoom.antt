-- The parts of an attribute Code lie within the file.
use Rattle.std.proofs.Common.{◌≡◌, ℕ, ◌≤◌, Bool, true, false, cond, nat_lt, List, length, take, drop, Ok, Err, ap, arith}
use Rattle.std.proofs.lemmas.List.{length-take}
use Rattle.class_pool.specs.declared.faults.ClassFault.{ClassFault}
use Rattle.class_pool.specs.declared.faults.ClassCode.TheVariants.{Truncated}
use Rattle.class_pool.specs.Items.{bytes_of, fault}

same_when : {A : Type 0} (short : Bool) (f : ClassFault) (x y : A) → cond short (Err f) (Ok x) ≡ Ok y → y ≡ x
same_when true f x y is = absurd (cc)
same_when false f x y is = cc

pub bytes_fit : (size count : ℕ) (rest bytes behind : List ℕ) → bytes_of size count rest ≡ Ok (bytes, behind) → (length bytes ≤ count) × (length bytes ≤ length rest)
bytes_fit size count rest bytes behind is =
    let read : List ℕ × List ℕ = (take count rest, drop count rest) in
    let front = ap (λ (x : List ℕ × List ℕ). x.0) (same_when (nat_lt (length rest) count) (fault Truncated size) read (bytes, behind) is) in
    let long = length-take count rest in
    let same = ap length front in
    (omega arith, omega arith)
