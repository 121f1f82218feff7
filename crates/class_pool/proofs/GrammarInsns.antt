-- Instructions one after another: what is read is what the grammar has there, and what the grammar has there is read.
use Rattle.std.proofs.Common.{◌≡◌, ◌↔◌, ℕ, zero, suc, ◌+◌, ◌<◌, ◌≤◌, false, nat_le, List, length, Option, Some, None, Result, Ok, Err, inl, inr, refl, subst, arith}
use Rattle.std.proofs.lemmas.Bool.{cases_Bool, leb-true, le-leb, lt-leb}
use Rattle.jo_insn.specs.declared.instructions.Insn.{Insn}
use Rattle.jo_insn.specs.declared.instructions.InsnFault.{InsnFault}
use Rattle.jo_insn.specs.Instructions.{decoded}
use Rattle.jo_insn.proofs.DecodedMoves.{decoded-moves}
use Rattle.class_pool.specs.declared.entries.PoolEntry.{PoolEntry}
use Rattle.class_pool.specs.declared.faults.ClassCode.{ClassCode}
use Rattle.jo_insn.specs.declared.jumps.Placed.{Placed}
use Rattle.class_pool.specs.Code.{insn_fault, insns_from, insns_of}
use Rattle.class_pool.specs.ClassGrammar.{AreInsnsFrom, ends, goes_on}

module _ (pool : List PoolEntry) (code : List ℕ) where
  -- what was read from this pc on is what the grammar has there
  abbrev IsRight : ℕ → Result (List Placed) (ClassCode × ℕ) → Type 0
  IsRight pc (Ok insns) = AreInsnsFrom pool code pc insns
  IsRight pc (Err fault) = Unit {0}

  behind : (k pc next : ℕ) (insn : Insn) (others : Result (List Placed) (ClassCode × ℕ)) → nat_le (length code) pc ≡ false → decoded code pc ≡ Ok (insn, next) → insn_fault pool insn ≡ None
      → insns_from k pool code next ≡ others → IsRight next others → IsRight pc (insns_from (suc k) pool code pc)
  unfolding insns_from
  behind k pc next insn (Ok others) inside is sound later right = rw (inside, is, sound, later) (goes_on pc next insn others is sound right)
  behind k pc next insn (Err fault) inside is sound later right = rw (inside, is, sound, later) tt

  sound_or_not : (k pc next : ℕ) (insn : Insn) (fault : Option ClassCode) → nat_le (length code) pc ≡ false → decoded code pc ≡ Ok (insn, next) → insn_fault pool insn ≡ fault
      → IsRight next (insns_from k pool code next) → IsRight pc (insns_from (suc k) pool code pc)
  unfolding insns_from
  sound_or_not k pc next insn None inside is sound right = behind k pc next insn (insns_from k pool code next) inside is sound refl right
  sound_or_not k pc next insn (Some fault) inside is wrong right = rw (inside, is, wrong) tt

  one_more : (k pc : ℕ) (found : Result (Insn × ℕ) InsnFault) → nat_le (length code) pc ≡ false → decoded code pc ≡ found
      → ((next : ℕ) → pc < next → next ≤ length code → IsRight next (insns_from k pool code next)) → IsRight pc (insns_from (suc k) pool code pc)
  unfolding insns_from
  one_more k pc (Err fault) inside is later = rw (inside, is) tt
  one_more k pc (Ok (insn, next)) inside is later =
      let moves = decoded-moves code pc next insn is in
      sound_or_not k pc next insn (insn_fault pool insn) inside is refl (later next moves.0 moves.1)

  insns_right : (k pc : ℕ) → pc ≤ length code → length code ≤ k + pc → IsRight pc (insns_from k pool code pc)
  unfolding insns_from
  insns_right zero pc within enough = ends pc (omega arith)
  insns_right (suc k) pc within enough = elim (cases_Bool (nat_le (length code) pc)) [
    | inl past ↦ rw past (let end = leb-true (length code) pc past in ends pc (omega arith))
    | inr inside ↦ one_more k pc (decoded code pc) inside refl (λ next forward below. insns_right k next below (omega arith))
  ]

  insns_again : (k : ℕ) {pc : ℕ} {insns : List Placed} → length code ≤ k + pc → AreInsnsFrom pool code pc insns → insns_from k pool code pc ≡ Ok insns
  unfolding insns_from
  insns_again zero enough (ends pc end) = refl
  insns_again (suc k) enough (ends pc end) = rw (le-leb (length code) pc (omega arith)) refl
  insns_again zero enough (goes_on pc next insn more is sound others) = let moves = decoded-moves code pc next insn is in absurd (omega arith)
  insns_again (suc k) enough (goes_on pc next insn more is sound others) =
      let moves = decoded-moves code pc next insn is in
      rw (lt-leb (length code) pc (omega arith), is, sound, insns_again k (omega arith) others) refl

  pub insns_from_grammar : (k pc : ℕ) (insns : List Placed) → pc ≤ length code → length code ≤ k + pc → (insns_from k pool code pc ≡ Ok insns) ↔ AreInsnsFrom pool code pc insns
  insns_from_grammar k pc insns within enough = (λ is. subst (IsRight pc) is (insns_right k pc within enough), insns_again k enough)

  pub insns_of_grammar : (insns : List Placed) → (insns_of pool code ≡ Ok insns) ↔ AreInsnsFrom pool code 0 insns
  insns_of_grammar insns = insns_from_grammar (length code) 0 insns (omega arith) (omega arith)
