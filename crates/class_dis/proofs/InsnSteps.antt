-- The instructions of some code, found one behind another.
use Rattle.std.proofs.Common.{◌≡◌, ℕ, zero, suc, ◌+◌, ◌≤◌, Bool, List, [], ◌∷◌, ◌++◌, length, Result, Ok, Err, refl, sym, ap, subst, ◌∙◌, append_assoc, arith}
use Rattle.std.proofs.lemmas.List.{append-nil}
use Rattle.std.specs.List.{AllByRecursion, flat_map}
use Rattle.jo_insn.specs.declared.instructions.Insn.{Insn}
use Rattle.jo_insn.specs.declared.instructions.InsnFault.{InsnFault}
use Rattle.jo_insn.specs.Instructions.{decoded}
use Rattle.jo_insn.proofs.DecodedMoves.{decoded-moves}
use Rattle.class_pool.specs.declared.entries.PoolEntry.{PoolEntry}
use Rattle.jo_insn.specs.declared.jumps.Placed.{Placed}
use Rattle.jo_insn.specs.Jumps.{IsPlacedIn}
use Rattle.class_dis.specs.Insns.{insns_from, insns_of}
use Rattle.class_dis.specs.Listing.{insn_lines}

module _ (code : List ℕ) where
  -- what was found up to this pc, and what is still found
  abbrev pub FindsOn : List Placed → ℕ → Type 0
  FindsOn front pc = (k : ℕ) × (length code ≤ k + pc) × (front ++ insns_from k code pc ≡ insns_of code)

  pub begins : FindsOn [] 0
  begins = (length code, omega arith, refl)

  pub one_more : (k pc next : ℕ) (insn : Insn) → decoded code pc ≡ Ok (insn, next) → insns_from (suc k) code pc ≡ record { pc = pc; insn = insn; next = next } ∷ insns_from k code next
  unfolding insns_from
  one_more k pc next insn is = rw is refl

  pub none_left : (k pc : ℕ) (fault : InsnFault) → decoded code pc ≡ Err fault → insns_from k code pc ≡ []
  unfolding insns_from
  none_left zero pc fault is = refl
  none_left (suc k) pc fault is = rw is refl

  pub takes : (front : List Placed) (pc next : ℕ) (insn : Insn) → decoded code pc ≡ Ok (insn, next) → FindsOn front pc → FindsOn (front ++ record { pc = pc; insn = insn; next = next } ∷ []) next
  takes front pc next insn is (zero, enough, so_far) = let moves = decoded-moves code pc next insn is in absurd (omega arith)
  takes front pc next insn is (suc k, enough, so_far) =
      let moves = decoded-moves code pc next insn is in
      let here : Placed = record { pc = pc; insn = insn; next = next } in
      (k, omega arith, append_assoc front (here ∷ []) (insns_from k code next) ∙ sym (ap (λ (more : List Placed). front ++ more) (one_more k pc next insn is)) ∙ so_far)

  pub is_all : (front : List Placed) (pc : ℕ) (fault : InsnFault) → decoded code pc ≡ Err fault → FindsOn front pc → front ≡ insns_of code
  is_all front pc fault is (k, enough, so_far) = sym (append-nil front) ∙ ap (λ (more : List Placed). front ++ more) (sym (none_left k pc fault is)) ∙ so_far

  -- ---- each is what is decoded at its pc

  found : (k pc : ℕ) (read : Result (Insn × ℕ) InsnFault) → decoded code pc ≡ read → ((next : ℕ) → AllByRecursion (IsPlacedIn code) (insns_from k code next)) → AllByRecursion (IsPlacedIn code) (insns_from (suc k) code pc)
  found k pc (Err fault) is more = subst (AllByRecursion (IsPlacedIn code)) (sym (none_left (suc k) pc fault is)) tt
  found k pc (Ok (insn, next)) is more = subst (AllByRecursion (IsPlacedIn code)) (sym (one_more k pc next insn is)) (is, more next)

  pub all_placed : (k pc : ℕ) → AllByRecursion (IsPlacedIn code) (insns_from k code pc)
  unfolding insns_from
  all_placed zero pc = tt
  all_placed (suc k) pc = found k pc (decoded code pc) refl (λ next. all_placed k next)

  -- the lines are the same by two tests that agree at each pc of the code
  pub same_lines : (pool : List PoolEntry) (one other : ℕ → Bool) → ((pc : ℕ) → pc ≤ length code → one pc ≡ other pc) → (insns : List Placed) → AllByRecursion (IsPlacedIn code) insns
      → flat_map (insn_lines pool code one) insns ≡ flat_map (insn_lines pool code other) insns
  same_lines pool one other same [] all = refl
  same_lines pool one other same (p ∷ more) all =
      let moves = decoded-moves code p.pc p.next p.insn all.0 in
      let here : one p.pc ≡ other p.pc = same p.pc (omega arith) in
      rw (here, same_lines pool one other same more all.1) refl
