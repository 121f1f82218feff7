-- Arrays by their element types.
use Rattle.std.proofs.Common.{◌≡◌, ◌∙◌, ℕ, suc, Bool, false, cond, sym, ap, arith, inl, inr}
use Rattle.std.specs.Prelude.{◌==◌, nat_lt}
use Rattle.std.proofs.lemmas.Bool.{cases_eq, cases_lt, eq-eqb, ne_eqb, lt-ltb, le-ltb}
use Rattle.jo_text.specs.declared.descriptors.Base.{Base}
use Rattle.jo_prog.specs.declared.program.Program.{Program}
use Rattle.jo_prog.specs.Types.{array_of, array_fits, base_fits, is_object}

same_eq : (m n : ℕ) → (suc m == suc n) ≡ (m == n)
same_eq m n = elim (cases_eq m n) [
  | inl e ↦ eq-eqb (suc m) (suc n) (ap suc e) ∙ sym (eq-eqb m n e)
  | inr ne ↦ ne_eqb (suc m) (suc n) (λ e. ne (omega (arith, e))) ∙ sym (ne_eqb m n ne)
]

same_lt : (n m : ℕ) → nat_lt (suc n) (suc m) ≡ nat_lt n m
same_lt n m = elim (cases_lt n m) [
  | inl below ↦ lt-ltb (suc n) (suc m) (omega (arith, below)) ∙ sym (lt-ltb n m below)
  | inr past ↦ le-ltb (suc n) (suc m) (omega (arith, past)) ∙ sym (le-ltb n m past)
]

module _ (program : Program) (a b : Base) where
  pub fits_elements : (m n : ℕ) → array_fits program (array_of (suc m) a) (array_of (suc n) b) ≡ array_fits program (array_of m a) (array_of n b)
  fits_elements m n =
      ap (λ (t : Bool). cond t (base_fits program a b) (cond (nat_lt (suc n) (suc m)) (is_object b) false)) (same_eq m n)
      ∙ ap (λ (t : Bool). cond (m == n) (base_fits program a b) (cond t (is_object b) false)) (same_lt n m)

  pub fits_object : (m : ℕ) → array_fits program (array_of (suc m) a) (array_of 0 b) ≡ is_object b
  fits_object m =
      ap (λ (t : Bool). cond t (base_fits program a b) (cond (nat_lt 0 (suc m)) (is_object b) false)) (ne_eqb (suc m) 0 (λ e. omega (arith, e)))
      ∙ ap (λ (t : Bool). cond t (is_object b) false) (lt-ltb 0 (suc m) (omega arith))

  pub fits_none : (n : ℕ) → array_fits program (array_of 0 a) (array_of (suc n) b) ≡ false
  fits_none n =
      ap (λ (t : Bool). cond t (base_fits program a b) (cond (nat_lt (suc n) 0) (is_object b) false)) (ne_eqb 0 (suc n) (λ e. omega (arith, e)))
      ∙ ap (λ (t : Bool). cond t (is_object b) false) (le-ltb (suc n) 0 (omega arith))
