-- The instructions of some code, found one behind another.
use Rattle.std.proofs.Common.{◌≡◌, ℕ, zero, suc, ◌+◌, ◌≤◌, List, [], ◌∷◌, ◌++◌, length, Ok, Err, refl, sym, ap, ◌∙◌, append_assoc, arith}
use Rattle.std.proofs.lemmas.List.{append-nil}
use Rattle.jo_insn.specs.declared.instructions.Insn.{Insn}
use Rattle.jo_insn.specs.declared.instructions.InsnFault.{InsnFault}
use Rattle.jo_insn.specs.declared.jumps.Placed.{Placed}
use Rattle.jo_insn.specs.Instructions.{decoded}
use Rattle.jo_insn.proofs.DecodedMoves.{decoded-moves}
use Rattle.jo_prog.specs.Sites.{followed, insns_from, insns_in}

module _ (code : List ℕ) where
  -- what was found up to this pc, and what is still found
  abbrev pub FindsOn : List Placed → ℕ → Type 0
  FindsOn front pc = (k : ℕ) × (length code ≤ k + pc) × (front ++ insns_from k code pc ≡ insns_in code)

  pub begins : FindsOn [] 0
  begins = (length code, omega arith, refl)

  one_more : (k pc next : ℕ) (insn : Insn) → decoded code pc ≡ Ok (insn, next) → insns_from (suc k) code pc ≡ record { pc = pc; insn = insn; next = next } ∷ insns_from k code next
  unfolding insns_from
  one_more k pc next insn is = ap (λ found. followed pc found (insns_from k code)) is

  none_left : (k pc : ℕ) (fault : InsnFault) → decoded code pc ≡ Err fault → insns_from k code pc ≡ []
  unfolding insns_from
  none_left zero pc fault is = refl
  none_left (suc k) pc fault is = ap (λ found. followed pc found (insns_from k code)) is

  pub takes : (front : List Placed) (pc next : ℕ) (insn : Insn) → decoded code pc ≡ Ok (insn, next) → FindsOn front pc → FindsOn (front ++ record { pc = pc; insn = insn; next = next } ∷ []) next
  takes front pc next insn is (zero, enough, so_far) = let moves = decoded-moves code pc next insn is in absurd (omega arith)
  takes front pc next insn is (suc k, enough, so_far) =
      let moves = decoded-moves code pc next insn is in
      let here : Placed = record { pc = pc; insn = insn; next = next } in
      (k, omega arith, append_assoc front (here ∷ []) (insns_from k code next) ∙ sym (ap (λ (more : List Placed). front ++ more) (one_more k pc next insn is)) ∙ so_far)

  pub is_all : (front : List Placed) (pc : ℕ) (fault : InsnFault) → decoded code pc ≡ Err fault → FindsOn front pc → front ≡ insns_in code
  is_all front pc fault is (k, enough, so_far) = sym (append-nil front) ∙ ap (λ (more : List Placed). front ++ more) (sym (none_left k pc fault is)) ∙ so_far
