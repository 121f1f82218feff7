-- Code of a file that is whole is so in the program.
use Rattle.std.proofs.Common.{◌≡◌, ◌∙◌, ℕ, zero, suc, ◌+◌, ◌≤◌, ℤ, pos, List, [], ◌∷◌, length, map, Some, Result, Ok, Err, refl, sym, subst, ap, ◌⊎◌, inl, inr, arith}
use Rattle.std.specs.Prelude.{◌+ℤ◌, slice_get}
use Rattle.std.specs.List.{Contains, AllByRecursion}
use Rattle.std.proofs.lemmas.Option.{none-some, same_Some}
use Rattle.jo_insn.specs.Instructions.{decoded}
use Rattle.jo_insn.specs.Jumps.{jumps_of}
use Rattle.jo_insn.specs.declared.instructions.Insn.{Insn}
use Rattle.jo_insn.specs.declared.instructions.InsnFault.{InsnFault}
use Rattle.jo_insn.specs.declared.jumps.Placed.{Placed}
use Rattle.jo_insn.proofs.DecodedMoves.{decoded-moves}
use Rattle.class_pool.specs.declared.entries.PoolEntry.{PoolEntry}
use Rattle.class_pool.specs.declared.classes.CodeInfo.{CodeInfo}
use Rattle.class_pool.specs.declared.classes.RowInfo.{RowInfo}
use Rattle.class_pool.specs.ClassGrammar.{AreInsnsFrom, ends, goes_on, IsStart, JumpsWell, IsRow}
use Rattle.jo_prog.specs.declared.program.Row.{Row}
use Rattle.jo_prog.specs.Sites.{followed, insns_from, insns_in}
use Rattle.jo_prog.proofs.WalkLemmas.{here, behind, head_or_behind, none_there, at_recursion}
use Rattle.linker.specs.Linking.{row_of, code_of}
use Rattle.linked_laws.specs.Codes.{HasWholeInsns}
use Rattle.linked_laws.specs.Files.{HasWholeCode}

module _ (pool : List PoolEntry) (code : List ℕ) where
  none_past : (k pc : ℕ) → length code ≤ pc → insns_from k code pc ≡ []
  unfolding insns_from
  none_past zero pc past = refl
  none_past (suc k) pc past = by_found (decoded code pc) refl
    where
      by_found : (found : Result (Insn × ℕ) InsnFault) → decoded code pc ≡ found → followed pc found (insns_from k code) ≡ []
      by_found (Err fault) is = refl
      by_found (Ok found) is = let moves = decoded-moves code pc found.1 found.0 is in absurd (omega arith)

  one_more : (k pc next : ℕ) (insn : Insn) → decoded code pc ≡ Ok (insn, next) → insns_from (suc k) code pc ≡ record { pc = pc; insn = insn; next = next } ∷ insns_from k code next
  unfolding insns_from
  one_more k pc next insn is = ap (λ found. followed pc found (insns_from k code)) is

  listed : (k : ℕ) {pc : ℕ} {insns : List Placed} → AreInsnsFrom pool code pc insns → length code ≤ k + pc → insns_from k code pc ≡ insns
  listed k (ends pc end) enough = none_past k pc (omega arith)
  listed zero (goes_on pc next insn more is sound others) enough = let moves = decoded-moves code pc next insn is in absurd (omega arith)
  listed (suc k) (goes_on pc next insn more is sound others) enough =
      let moves = decoded-moves code pc next insn is in
      one_more k pc next insn is ∙ ap (λ (rest : List Placed). record { pc = pc; insn = insn; next = next } ∷ rest) (listed k others (omega arith))

  -- where instructions stand from a place on, one stands there or the code ends
  start_or_end : (insns : List Placed) {pc : ℕ} {these : List Placed} → AreInsnsFrom pool code pc these → ((placed : Placed) → Contains these placed → Contains insns placed) → (pc ≡ length code) ⊎ IsStart insns (pos pc)
  start_or_end insns (ends pc end) inside = inl end
  start_or_end insns (goes_on pc next insn more is sound others) inside = inr (record { pc = pc; insn = insn; next = next }, inside _ (here _ more), refl)

  goes_behind : (insns : List Placed) {pc : ℕ} {these : List Placed} → AreInsnsFrom pool code pc these → ((placed : Placed) → Contains these placed → Contains insns placed)
      → (placed : Placed) → Contains these placed → (placed.next ≡ length code) ⊎ IsStart insns (pos placed.next)
  goes_behind insns (ends pc end) inside placed among = absurd (none_there placed among)
  goes_behind insns (goes_on pc next insn more is sound others) inside placed among =
      let own : Placed = record { pc = pc; insn = insn; next = next } in
      elim (head_or_behind own more placed among) [
        | inl same ↦ subst (λ (p : Placed). (p.next ≡ length code) ⊎ IsStart insns (pos p.next)) same (start_or_end insns others (λ p there. inside p (behind own more p there)))
        | inr later ↦ goes_behind insns others (λ p there. inside p (behind own more p there)) placed later
      ]

target_start : (insns : List Placed) (at : ℕ) (distances : List ℤ) → AllByRecursion (λ (by : ℤ). IsStart insns (pos at +ℤ by)) distances → (target : ℤ) → Contains (map (λ by. pos at +ℤ by) distances) target → IsStart insns target
target_start insns at [] all target among = absurd (none_there target among)
target_start insns at (by ∷ more) all target among = elim (head_or_behind (pos at +ℤ by) (map (λ other. pos at +ℤ other) more) target among) [
  | inl same ↦ subst (IsStart insns) same all.0
  | inr later ↦ target_start insns at more all.1 target later
]

handler_start : (names : List (List ℕ)) (pool : List PoolEntry) (bytes : List ℕ) (insns : List Placed) (rows : List RowInfo) → AllByRecursion (IsRow pool bytes insns) rows
    → (k : ℕ) (row : Row) → slice_get (map (row_of names pool) rows) k ≡ Some row → IsStart insns (pos row.handler)
handler_start names pool bytes insns [] all k row at = absurd (none-some row at)
handler_start names pool bytes insns (info ∷ more) all zero row at = subst (λ (r : Row). IsStart insns (pos r.handler)) (same_Some (row_of names pool info) row at) all.0.handler
handler_start names pool bytes insns (info ∷ more) all (suc k) row at = handler_start names pool bytes insns more all.1 k row at

module _ (names : List (List ℕ)) (pool : List PoolEntry) (c : CodeInfo) (whole : HasWholeCode pool c) where
  pub insns_are : whole.insns ≡ insns_in c.bytes
  insns_are = sym (listed pool c.bytes (length c.bytes) whole.instructions (omega arith))

  pub whole_insns : HasWholeInsns (code_of names pool c)
  whole_insns = record {
    short = whole.short;
    first = subst (λ (is : List Placed). IsStart is (pos 0)) insns_are (by_start (start_or_end pool c.bytes whole.insns whole.instructions (λ p there. there)));
    behind = λ placed among. subst (λ (is : List Placed). (placed.next ≡ length c.bytes) ⊎ IsStart is (pos placed.next)) insns_are
        (goes_behind pool c.bytes whole.insns whole.instructions (λ p there. there) placed (back placed among));
    jumps = λ placed among target there. subst (λ (is : List Placed). IsStart is target) insns_are
        (target_start whole.insns placed.pc (jumps_of c.bytes placed.insn) (at_recursion (JumpsWell c.bytes whole.insns) whole.insns placed whole.jumps (back placed among)) target there);
    handlers = λ k row at. subst (λ (is : List Placed). IsStart is (pos row.handler)) insns_are (handler_start names pool c.bytes whole.insns c.rows whole.rows k row at);
  }
    where
      back : (placed : Placed) → Contains (insns_in c.bytes) placed → Contains whole.insns placed
      back placed among = subst (λ (is : List Placed). Contains is placed) (sym insns_are) among

      by_start : (0 ≡ length c.bytes) ⊎ IsStart whole.insns (pos 0) → IsStart whole.insns (pos 0)
      by_start (inl end) = let some = whole.not_empty in absurd (omega (arith, end))
      by_start (inr start) = start
