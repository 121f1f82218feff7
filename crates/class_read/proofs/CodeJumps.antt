-- The jumps of the instructions of some code, one instruction after another.
use Rattle.std.proofs.Common.{◌≡◌, ℕ, ◌+◌, ◌<◌, Bool, true, false, List, [], ◌∷◌, length, drop, get_or, Some, refl, sym, ap, ◌∙◌}
use Rattle.std.specs.Prelude.{ℤ, pos, ◌+ℤ◌, map}
use Rattle.std.specs.List.{AllByRecursion, list_all}
use Rattle.jo_insn.specs.declared.jumps.Placed.{Placed}
use Rattle.jo_insn.specs.Jumps.{IsPlacedIn, jumps_of, targets_of, is_start}
use Rattle.jo_insn.specs.Marks.{is_marked, starts_of}
use Rattle.jo_insn.proofs.PcMarkLemmas.{marks_are_starts}
use Rattle.jo_insn.proofs.PlacedSteps.{split}
use Rattle.class_pool.specs.Code.{jumps_well, first_bad_jump}

same_jumps : (marks : List Bool) (all : List Placed) (pc : ℕ) → ((t : ℤ) → is_marked marks t ≡ is_start all t) → (jumps : List ℤ)
    → list_all (is_marked marks) (map (λ by. pos pc +ℤ by) jumps) ≡ list_all (λ by. is_start all (pos pc +ℤ by)) jumps
same_jumps marks all pc same [] = refl
same_jumps marks all pc same (by ∷ more) = rw (same (pos pc +ℤ by), same_jumps marks all pc same more) refl

module _ (code : List ℕ) (marks : List Bool) (insns : List Placed) (placed : AllByRecursion (IsPlacedIn code) insns) (marks_are : marks ≡ starts_of (length code) insns) where
  pub start_is : (t : ℤ) → is_marked marks t ≡ is_start insns t
  start_is t = ap (λ (m : List Bool). is_marked m t) marks_are ∙ marks_are_starts code insns t placed

  well : (p : Placed) → list_all (is_marked marks) (targets_of code p.pc p.insn) ≡ jumps_well code insns p
  well p = same_jumps marks insns p.pc start_is (jumps_of code p.insn)

  module _ (i : ℕ) (d : Placed) (more : i < length insns) where
    abbrev now : Placed
    now = get_or insns i d

    pub goes_on : list_all (is_marked marks) (targets_of code now.pc now.insn) ≡ true → first_bad_jump code insns (drop i insns) ≡ first_bad_jump code insns (drop (i + 1) insns)
    goes_on passes = let good : jumps_well code insns now ≡ true = sym (well now) ∙ passes in rw (split insns i d more, good) refl

    pub bad_here : list_all (is_marked marks) (targets_of code now.pc now.insn) ≡ false → first_bad_jump code insns (drop i insns) ≡ Some now.pc
    bad_here fails = let bad : jumps_well code insns now ≡ false = sym (well now) ∙ fails in rw (split insns i d more, bad) refl
