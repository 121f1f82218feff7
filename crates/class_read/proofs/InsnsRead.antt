-- The loop that reads the instructions of code one after another.
use Rattle.std.proofs.Common.{◌≡◌, ℕ, zero, suc, ◌+◌, ◌<◌, ◌≤◌, List, [], ◌∷◌, ◌++◌, length, Option, Some, None, Result, Ok, Err, refl, sym, ap, ◌∙◌, append_assoc, arith}
use Rattle.std.proofs.lemmas.Bool.{le-leb, lt-leb}
use Rattle.std.proofs.lemmas.List.{append-nil}
use Rattle.jo_insn.specs.declared.instructions.Insn.{Insn}
use Rattle.jo_insn.specs.declared.instructions.InsnFault.{InsnFault}
use Rattle.jo_insn.specs.Instructions.{decoded}
use Rattle.jo_insn.proofs.DecodedMoves.{decoded-moves}
use Rattle.class_pool.specs.declared.entries.PoolEntry.{PoolEntry}
use Rattle.class_pool.specs.declared.faults.ClassCode.{ClassCode}
use Rattle.class_pool.specs.declared.faults.ClassFault.{ClassFault}
use Rattle.class_pool.specs.declared.faults.Stop.{Stop}
use Rattle.class_pool.specs.declared.faults.Stop.TheVariants.{Fault, Memory}
use Rattle.class_pool.specs.Outcomes.{Fails}
use Rattle.jo_insn.specs.declared.jumps.Placed.{Placed}
use Rattle.class_pool.specs.Code.{insn_fault, placed_at, insns_from, insns_of}
use Rattle.class_read.specs.Codes.{located}

abbrev pub with_insns : List Placed → Result (List Placed) ClassFault → Result (List Placed) ClassFault
with_insns front (Ok insns) = Ok (front ++ insns)
with_insns front (Err f) = Err f

located_ok : {A : Type 0} (place : ℕ) (read : Result A (ClassCode × ℕ)) (x : A) → located place read ≡ Ok x → read ≡ Ok x
located_ok place (Ok y) x is = cc
located_ok place (Err (code, pc)) x is = absurd (cc)

module _ (place : ℕ) (pool : List PoolEntry) (code : List ℕ) where
  sound : (pc next : ℕ) (insn : Insn) (p : Placed) (wrong : Option ClassCode) → insn_fault pool insn ≡ wrong → placed_at pool pc (Ok (insn, next)) ≡ Ok p → p ≡ record { pc = pc; insn = insn; next = next }
  sound pc next insn p None none is = let same = rw none at is in cc
  sound pc next insn p (Some wrong) some is = let same = rw some at is in absurd (cc)

  found_at : (pc : ℕ) (p : Placed) (found : Result (Insn × ℕ) InsnFault) → placed_at pool pc found ≡ Ok p → (p.pc ≡ pc) × (found ≡ Ok (p.insn, p.next))
  found_at pc p (Ok (insn, next)) is = let same = sound pc next insn p (insn_fault pool insn) refl is in (ap (λ (q : Placed). q.pc) same, cc)
  found_at pc p (Err e) is = absurd (cc)

  -- an instruction that was read is what is decoded at its pc
  pub is_decoded : (pc : ℕ) (p : Placed) → placed_at pool pc (decoded code pc) ≡ Ok p → (p.pc ≡ pc) × (decoded code pc ≡ Ok (p.insn, p.next))
  is_decoded pc p is = found_at pc p (decoded code pc) is

  pub moves_on : (pc : ℕ) (p : Placed) → located place (placed_at pool pc (decoded code pc)) ≡ Ok p → (pc < p.next) × (p.next ≤ length code)
  moves_on pc p is = decoded-moves code pc p.next p.insn (is_decoded pc p (located_ok place (placed_at pool pc (decoded code pc)) p is)).1

  -- what was read up to this pc, and what is still read
  abbrev pub ReadsOn : List Placed → ℕ → Type 0
  ReadsOn front pc = (k : ℕ) × (length code ≤ k + pc) × (with_insns front (located place (insns_from k pool code pc)) ≡ located place (insns_of pool code))

  all_of_it : (read : Result (List Placed) ClassFault) → with_insns [] read ≡ read
  all_of_it (Ok insns) = refl
  all_of_it (Err f) = refl

  pub begins : ReadsOn [] 0
  begins = (length code, omega arith, all_of_it (located place (insns_of pool code)))

  joined : (front : List Placed) (k pc : ℕ) (p : Placed) (others : Result (List Placed) (ClassCode × ℕ)) → pc < length code → placed_at pool pc (decoded code pc) ≡ Ok p → insns_from k pool code p.next ≡ others
      → with_insns front (located place (insns_from (suc k) pool code pc)) ≡ with_insns (front ++ p ∷ []) (located place others)
  unfolding insns_from
  joined front k pc p (Ok insns) inside is later = rw (lt-leb (length code) pc inside, is, later) (ap Ok (sym (append_assoc front (p ∷ []) insns)))
  joined front k pc p (Err (wrong, at)) inside is later = rw (lt-leb (length code) pc inside, is, later) refl

  pub takes : (front : List Placed) (pc : ℕ) (p : Placed) → pc < length code → located place (placed_at pool pc (decoded code pc)) ≡ Ok p → ReadsOn front pc → ReadsOn (front ++ p ∷ []) p.next
  takes front pc p inside is (zero, enough, so_far) = absurd (omega arith)
  takes front pc p inside is (suc k, enough, so_far) =
      let moves = moves_on pc p is in
      (k, omega arith, sym (joined front k pc p (insns_from k pool code p.next) inside (located_ok place (placed_at pool pc (decoded code pc)) p is) refl) ∙ so_far)

  at_fault : (front : List Placed) (k pc : ℕ) (f : ClassFault) (read : Result Placed (ClassCode × ℕ)) → pc < length code → placed_at pool pc (decoded code pc) ≡ read → located place read ≡ Err f
      → with_insns front (located place (insns_from (suc k) pool code pc)) ≡ Err f
  unfolding insns_from
  at_fault front k pc f (Ok p) inside read is = absurd (cc)
  at_fault front k pc f (Err (wrong, at)) inside read is = rw (lt-leb (length code) pc inside, read) (cc)

  pub stops : (front : List Placed) (pc : ℕ) (stop : Stop) → pc < length code → Fails stop (located place (placed_at pool pc (decoded code pc))) → ReadsOn front pc → Fails stop (located place (insns_of pool code))
  stops front pc Memory inside is so_far = tt
  stops front pc (Fault f) inside is (zero, enough, so_far) = absurd (omega arith)
  stops front pc (Fault f) inside is (suc k, enough, so_far) = sym so_far ∙ at_fault front k pc f (placed_at pool pc (decoded code pc)) inside refl is

  ended : (k pc : ℕ) → length code ≤ pc → insns_from k pool code pc ≡ Ok []
  unfolding insns_from
  ended zero pc past = refl
  ended (suc k) pc past = rw (le-leb (length code) pc past) refl

  pub is_all : (front : List Placed) (pc : ℕ) → length code ≤ pc → ReadsOn front pc → located place (insns_of pool code) ≡ Ok front
  is_all front pc past (k, enough, so_far) =
      sym so_far ∙ ap (λ (read : Result (List Placed) (ClassCode × ℕ)). with_insns front (located place read)) (ended k pc past) ∙ ap Ok (append-nil front)
