-- Typing's paths arrive at instructions that stand one behind another from 0 on.
use Rattle.std.proofs.Common.{◌≡◌, ◌∙◌, ℕ, zero, suc, ◌+◌, ◌≤◌, ◌^◌, Bool, true, false, ◌&&◌, ◌||◌, not, pos, List, [], ◌∷◌, length, Option, Some, None, Result, Ok, Err, refl, sym, subst, ap, inl, inr, arith}
use Rattle.std.specs.Prelude.{◌+ℤ◌, int_le, nat_lt, if◌then◌else◌}
use Rattle.std.specs.List.{Contains, list_any}
use Rattle.std.proofs.lemmas.Bool.{cond-true, lt-ltb, leb-true}
use Rattle.std.proofs.lemmas.Option.{same_Some}
use Rattle.std.proofs.lemmas.List.Elements.{Contains-append_cases}
use Rattle.jo_insn.specs.Instructions.{decoded}
use Rattle.jo_insn.specs.Jumps.{targets_of}
use Rattle.jo_insn.specs.declared.instructions.Insn.{Insn}
use Rattle.jo_insn.specs.declared.instructions.InsnFault.{InsnFault}
use Rattle.jo_insn.specs.declared.jumps.Placed.{Placed}
use Rattle.class_pool.specs.ClassGrammar.{IsStart}
use Rattle.jo_prog.specs.declared.program.Program.{Program}
use Rattle.jo_prog.specs.declared.program.Code.{Code}
use Rattle.jo_prog.specs.declared.program.Method.{Method}
use Rattle.jo_prog.specs.Program.{method_at}
use Rattle.jo_prog.specs.InsnTyping.{as_placed, insn_at, falls_through, successors, is_inside}
use Rattle.jo_prog.specs.Sites.{followed, insns_from, insns_in}
use Rattle.jo_prog.specs.TypingPaths.{Typable, Step, PathWithin, TakesStep, arrives_at, successors_of, successors_at, falls_off}
use Rattle.jo_prog.proofs.WalkLemmas.{head_or_behind, none_there}
use Rattle.step_laws.specs.Tables.{IsReached}
use Rattle.linked_laws.specs.Codes.{HasWholeInsns}

neither : (a b : Bool) → (a || b) ≡ false → (a ≡ false) × (b ≡ false)
neither true b e = absurd (cc)
neither false b e = (refl, e)

none_of : {X : Type 0} (test : X → Bool) (xs : List X) (x : X) → list_any test xs ≡ false → Contains xs x → test x ≡ false
none_of test [] x none among = absurd (none_there x among)
none_of test (y ∷ ys) x none among =
    let both = neither (test y) (list_any test ys) none in
    elim (head_or_behind y ys x among) [
      | inl same ↦ subst (λ z. test z ≡ false) same both.0
      | inr more ↦ none_of test ys x both.1 more
    ]

-- ---- an instruction of the list is decoded where it stands

listed_decoded : (k : ℕ) (bytes : List ℕ) (pc : ℕ) (placed : Placed) → Contains (insns_from k bytes pc) placed → decoded bytes placed.pc ≡ Ok (placed.insn, placed.next)
unfolding insns_from
listed_decoded zero bytes pc placed among = absurd (none_there placed among)
listed_decoded (suc k) bytes pc placed among = by_found (decoded bytes pc) refl among (λ next more. listed_decoded k bytes next placed more)
  where
    by_found : (found : Result (Insn × ℕ) InsnFault) → decoded bytes pc ≡ found → Contains (followed pc found (insns_from k bytes)) placed
        → ((next : ℕ) → Contains (insns_from k bytes next) placed → decoded bytes placed.pc ≡ Ok (placed.insn, placed.next)) → decoded bytes placed.pc ≡ Ok (placed.insn, placed.next)
    by_found (Err fault) is there further = absurd (none_there placed there)
    by_found (Ok found) is there further = elim (head_or_behind (record { pc = pc; insn = found.0; next = found.1 }) (insns_from k bytes found.1) placed there) [
      | inl same ↦ subst (λ (p : Placed). decoded bytes p.pc ≡ Ok (p.insn, p.next)) same is
      | inr more ↦ further found.1 more
    ]

and_both : (a b : Bool) → (a && b) ≡ true → (a ≡ true) × (b ≡ true)
and_both true b h = (refl, h)
and_both false b h = absurd (cc)

past : (n : ℕ) → int_le (pos n +ℤ pos 1) (pos n) ≡ true → ⊥
past n is = let below : n + 1 ≤ n = leb-true (n + 1) n is in omega (arith, below)

same_pos : (a b : ℕ) → pos a ≡ pos b → a ≡ b
same_pos a b e = cc

module _ (program : Program) (t : Typable) (whole : HasWholeInsns t.code) where
  abbrev Starts : ℕ → Type 0
  Starts pc = IsStart (insns_in t.code.bytes) (pos pc)

  found_at : (placed : Placed) → Contains (insns_in t.code.bytes) placed → insn_at t.code placed.pc ≡ Some placed
  found_at placed among =
      cond-true (nat_lt (length t.code.bytes) (2 ^ 16)) (as_placed placed.pc (decoded t.code.bytes placed.pc)) None (lt-ltb (length t.code.bytes) (2 ^ 16) whole.short)
      ∙ ap (as_placed placed.pc) (listed_decoded (length t.code.bytes) t.code.bytes 0 placed among)

  goes_behind : (placed : Placed) → Contains (insns_in t.code.bytes) placed → (b : Bool) (to : ℕ) → is_inside t.code (pos to) ≡ true → Contains (if b then pos placed.next ∷ [] else []) (pos to) → Starts to
  goes_behind placed among false to inside there = absurd (none_there (pos to) there)
  goes_behind placed among true to inside there = elim (head_or_behind (pos placed.next) [] (pos to) there) [
    | inr more ↦ absurd (none_there (pos to) more)
    | inl same ↦ elim (whole.behind placed among) [
      | inr start ↦ subst (IsStart (insns_in t.code.bytes)) same start
      | inl end ↦ absurd (outside (subst (λ (n : ℕ). is_inside t.code (pos n) ≡ true) (sym (same_pos placed.next to same) ∙ end) inside))
    ]
  ]
    where
      outside : is_inside t.code (pos (length t.code.bytes)) ≡ true → ⊥
      outside is = past (length t.code.bytes) (and_both (int_le (pos 0) (pos (length t.code.bytes))) _ is).1

  steps_on : (placed : Placed) → Contains (insns_in t.code.bytes) placed → falls_off t.code placed.pc ≡ false → (to : ℕ) → Contains (successors_at t.code placed.pc) (pos to) → Starts to
  steps_on placed among steady to there =
      let inside : is_inside t.code (pos to) ≡ true =
      not_false (is_inside t.code (pos to)) (none_of (λ target. not (is_inside t.code target)) (successors_at t.code placed.pc) (pos to) (neither _ _ (neither _ _ steady).0).1 there) in
      let there_placed : Contains (successors t.code placed) (pos to) = subst (λ (o : Option Placed). Contains (successors_of t.code o) (pos to)) (found_at placed among) there in
      elim (Contains-append_cases (targets_of t.code.bytes placed.pc placed.insn) (if falls_through placed.insn then pos placed.next ∷ [] else []) (pos to) there_placed) [
        | inl jumped ↦ whole.jumps placed among (pos to) jumped
        | inr behind ↦ goes_behind placed among (falls_through placed.insn) to inside behind
      ]
    where
      not_false : (b : Bool) → not b ≡ false → b ≡ true
      not_false true e = refl
      not_false false e = absurd (cc)

  pub arrives_there : (n : ℕ) (path : List Step) → PathWithin program t n path → Starts (arrives_at path)
  arrives_there zero path is = subst (λ (p : List Step). Starts (arrives_at p)) (sym is) whole.first
  arrives_there (suc n) path (inl is) = arrives_there n path is
  arrives_there (suc n) [] (inr is) = absurd is.1
  arrives_there (suc n) (step ∷ path) (inr is) = by_start (arrives_there n path is.1.is_path)
    where
      by_row : (placed : Placed) → Contains (insns_in t.code.bytes) placed → placed.pc ≡ arrives_at path → (row : Option ℕ) → TakesStep t.code (arrives_at path) row step.pc → Starts step.pc
      by_row placed among at None takes =
          steps_on placed among (subst (λ (pc : ℕ). falls_off t.code pc ≡ false) (sym at) (neither _ _ is.1.goes_on.steady).1) step.pc
          (subst (λ (pc : ℕ). Contains (successors_at t.code pc) (pos step.pc)) (sym at) takes)
      by_row placed among at (Some place) takes = subst (λ (pc : ℕ). Starts pc) takes.leads (whole.handlers place takes.row takes.found)

      by_start : Starts (arrives_at path) → Starts step.pc
      by_start start = by_row start.0 start.1 (same_pos start.0.pc (arrives_at path) start.2) step.row is.1.takes

pub reached_listed : (program : Program) (m : ℕ) (method : Method) (code : Code) → method_at program m ≡ Some method → method.code ≡ Some code → HasWholeInsns code
    → (pc next : ℕ) (insn : Insn) → IsReached program m pc → decoded code.bytes pc ≡ Ok (insn, next) → Contains (insns_in code.bytes) (record { pc = pc; insn = insn; next = next })
reached_listed program m method code is_method has_code whole pc next insn reached is =
    let t = reached.typable in
    let same_method : t.method ≡ method = same_Some t.method method (sym reached.is_typable.1 ∙ is_method) in
    let same_code : t.code ≡ code = same_Some t.code code (sym reached.is_typable.2 ∙ ap (λ (own : Method). own.code) same_method ∙ has_code) in
    let start = arrives_there program t (subst HasWholeInsns (sym same_code) whole) (length reached.path) reached.path reached.is_path in
    let listed : Contains (insns_in code.bytes) start.0 = subst (λ (own : Code). Contains (insns_in own.bytes) start.0) same_code start.1 in
    let at : start.0.pc ≡ pc = same_pos start.0.pc pc (start.2 ∙ ap (λ (n : ℕ). pos n) reached.arrives) in
    let known : decoded code.bytes pc ≡ Ok (start.0.insn, start.0.next) = subst (λ (n : ℕ). decoded code.bytes n ≡ Ok (start.0.insn, start.0.next)) at (listed_decoded (length code.bytes) code.bytes 0 start.0 listed) in
    by_same start.0 listed at (same_ok (sym known ∙ is))
  where
    same_ok : {a b : Insn × ℕ} → ◌≡◌ {A = Result (Insn × ℕ) InsnFault} (Ok a) (Ok b) → a ≡ b
    same_ok e = cc

    by_same : (placed : Placed) → Contains (insns_in code.bytes) placed → placed.pc ≡ pc → ◌≡◌ {A = Insn × ℕ} (placed.insn, placed.next) (insn, next) → Contains (insns_in code.bytes) (record { pc = pc; insn = insn; next = next })
    by_same placed among at both =
        subst (λ (found : Insn × ℕ). Contains (insns_in code.bytes) (record { pc = pc; insn = found.0; next = found.1 })) both
        (subst (λ (n : ℕ). Contains (insns_in code.bytes) (record { pc = n; insn = placed.insn; next = placed.next })) at among)
