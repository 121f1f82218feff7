-- Rows of instructions, filled one after another.
use Rattle.std.proofs.Common.{◌≡◌, ◌⊎◌, ◌∙◌, sym, ap, refl, subst, ℕ, zero, suc, ◌<◌, ◌≤◌, Bool, true, false, ◌||◌, List, [], ◌∷◌, ◌++◌, length, Option, Some, None, slice_get, slice_set, Vec, Global, arith, inl, inr}
use Rattle.std.specs.Prelude.{pos, if◌then◌else◌, IfSome, Result, Ok, Err, nat_lt, ◌^◌}
use Rattle.std.specs.List.{AllByRecursion}
use Rattle.std.specs.Option.{option_flatten}
use Rattle.std.specs.Ordering.{int_eq}
use Rattle.std.proofs.lemmas.Bool.{false≢true, cases_lt}
use Rattle.std.proofs.lemmas.Bool.Decides.{Decides-int_eq}
use Rattle.std.proofs.lemmas.Option.{none-some, same_Some, slice_get_within, slice_get_past}
use Rattle.jo_insn.specs.declared.instructions.Insn.{Insn}
use Rattle.jo_insn.specs.declared.instructions.InsnFault.{InsnFault}
use Rattle.jo_insn.specs.declared.jumps.Placed.{Placed}
use Rattle.jo_insn.specs.Instructions.{decoded}
use Rattle.jo_insn.specs.Jumps.{IsPlacedIn, is_start}
use Rattle.jo_insn.proofs.DecodedMoves.{decoded-moves}
use Rattle.jo_prog.specs.declared.program.Program.{Program}
use Rattle.jo_prog.specs.declared.program.Code.{Code}
use Rattle.jo_prog.specs.declared.program.Method.{Method}
use Rattle.jo_prog.specs.Program.{method_at}
use Rattle.jo_prog.specs.Sites.{followed, insns_from, insns_in}
use Rattle.machine.specs.Instructions.{Instruction, with_next, instruction_at}
use Rattle.jvm_values.specs.declared.resolved.Resolved.{Resolved}
use Rattle.resolved_insns.specs.declared.table.Instructions.{Instructions}
use Rattle.jvm_values.specs.Resolved.{IsSeenAt}
use Rattle.resolved_insns.specs.Tables.{slot, is_call, IsCallIn, HasCall, HasCalls, IsSlot, IsSound, IsWhole, IsRowIn, IsRowOf, starts_at, found_at, AreInstructionsOf}

-- ---- the instructions of code are in their places

module _ (code : List ℕ) where
  all_placed_from : (k pc : ℕ) → AllByRecursion (IsPlacedIn code) (insns_from k code pc)
  unfolding insns_from
  all_placed_from zero pc = tt
  all_placed_from (suc k) pc = by_found (decoded code pc) refl (all_placed_from k)
    where
      by_found : (found : Result (Insn × ℕ) InsnFault) → decoded code pc ≡ found → ((next : ℕ) → AllByRecursion (IsPlacedIn code) (insns_from k code next)) → AllByRecursion (IsPlacedIn code) (followed pc found (insns_from k code))
      by_found (Err fault) is more = tt
      by_found (Ok found) is more = (is, more found.1)

  pub all_placed : AllByRecursion (IsPlacedIn code) (insns_in code)
  all_placed = all_placed_from (length code) 0

  -- each starts inside
  pub inside : (placed : Placed) → IsPlacedIn code placed → placed.pc < length code
  inside placed is = let moves = decoded-moves code placed.pc placed.next placed.insn is in omega arith

  -- past the end nothing stands
  past_end : (program : Program) (m pc : ℕ) → length code ≤ pc → is_call (with_next program m code pc (decoded code pc)) ≡ false
  past_end program m pc past = by_found (decoded code pc) refl
    where
      by_found : (found : Result (Insn × ℕ) InsnFault) → decoded code pc ≡ found → is_call (with_next program m code pc found) ≡ false
      by_found (Err fault) is = refl
      by_found (Ok found) is =
          let placed : Placed = record { pc = pc; insn = found.0; next = found.1 } in
          let within : pc < length code = inside placed is in
          absurd (omega arith)

-- ---- calls

module _ (program : Program) (wanted : Option (Instruction × ℕ)) where
  pub found_right : (found : Option Resolved) → IsCallIn program wanted found → IfSome found (λ one. IsSeenAt program wanted (Some one))
  found_right None is = tt
  found_right (Some one) is = is

  pub also_call : (found : Option Resolved) → IsSeenAt program wanted found → IsCallIn program wanted found
  also_call None is = ap is_call is
  also_call (Some one) is = is

  pub no_call_where_none : (found : Option Resolved) → IsCallIn program wanted found → found ≡ None → is_call wanted ≡ false
  no_call_where_none None is none = is
  no_call_where_none (Some one) is none = absurd (none-some one (sym none))

module _ {A : Type 0} where
  one_more : (P : ℕ → Option A → Type 0) (row : List (Option A)) (x : Option A) → ((k : ℕ) → k < length row → P k (option_flatten (slice_get row k))) → P (length row) x → (k : ℕ) → k < length (row ++ x ∷ []) → P k (option_flatten (slice_get (row ++ x ∷ []) k))
  one_more P [] x old new zero below = new
  one_more P [] x old new (suc k) below = absurd (omega arith)
  one_more P (y ∷ row) x old new zero below = old 0 (omega arith)
  one_more P (y ∷ row) x old new (suc k) below = one_more (λ n. P (suc n)) row x (λ n within. old (suc n) (omega arith)) new k (omega arith)

module _ (program : Program) (m : ℕ) (code : List ℕ) where
  -- the slots before the end of a row that grows
  abbrev pub HasCallsInside : List (Option Resolved) → Type 0
  HasCallsInside row = (pc : ℕ) → pc < length row → HasCall program m code pc (slot row pc)

  pub one_call : (row : List (Option Resolved)) (pc : ℕ) (found : Option Resolved) → length row ≡ pc → HasCallsInside row → HasCall program m code pc found → HasCallsInside (row ++ found ∷ [])
  one_call row pc found size old new = one_more (HasCall program m code) row found old (subst (λ (n : ℕ). HasCall program m code n found) (sym size) new)

  pub all_calls : (row : List (Option Resolved)) → length row ≡ length code → HasCallsInside row → HasCalls program m code row
  all_calls row size inside pc = elim (cases_lt pc (length row)) [
    | inl within ↦ inside pc within
    | inr past ↦
        let none : slot row pc ≡ None = ap option_flatten (slice_get_past row pc past) in
        subst (λ (o : Option Resolved). HasCall program m code pc o) (sym none) (past_end code program m pc (omega arith))
  ]

-- ---- one slot more

module _ {A : Type 0} where
  set_same : (xs : List A) (k : ℕ) (x : A) → k < length xs → slice_get (slice_set xs k x) k ≡ Some x
  set_same [] k x within = absurd (omega arith)
  set_same (y ∷ xs) zero x within = refl
  set_same (y ∷ xs) (suc k) x within = set_same xs k x (omega arith)

  set_other : (xs : List A) (k j : ℕ) (x : A) → (k ≡ j → ⊥) → slice_get (slice_set xs k x) j ≡ slice_get xs j
  set_other [] k j x apart = refl
  set_other (y ∷ xs) zero zero x apart = absurd (apart refl)
  set_other (y ∷ xs) zero (suc j) x apart = refl
  set_other (y ∷ xs) (suc k) zero x apart = refl
  set_other (y ∷ xs) (suc k) (suc j) x apart = set_other xs k j x (λ e. apart (ap (λ n. suc n) e))

  present : (xs : List A) (k : ℕ) → k < length xs → slice_get xs k ≡ None → ⊥
  present [] k within none = omega arith
  present (x ∷ xs) zero within none = none-some x (sym none)
  present (x ∷ xs) (suc k) within none = present xs k (omega arith) none

  last_or_before : (xs : List A) (x : A) (k : ℕ) (y : A) → slice_get (xs ++ x ∷ []) k ≡ Some y → (slice_get xs k ≡ Some y) ⊎ ((k ≡ length xs) × (x ≡ y))
  last_or_before [] x zero y at = inr (refl, same_Some x y at)
  last_or_before [] x (suc k) y at = absurd (none-some y at)
  last_or_before (z ∷ xs) x zero y at = inl at
  last_or_before (z ∷ xs) x (suc k) y at = elim (last_or_before xs x k y at) [ inl before ↦ inl before | inr found ↦ inr (ap (λ n. suc n) found.0, found.1) ]

-- all but what the rest still puts
pub record IsWholeBut (program : Program) (m : ℕ) (code : List ℕ) (insns rest : List Placed) (row : List (Option Resolved)) : Type 0 where
  pub sound : IsSound program m code row
  pub whole : (pc : ℕ) → is_start insns (pos pc) ≡ true → is_start rest (pos pc) ≡ false → IsSlot program m code pc (slot row pc)
  pub calls : HasCalls program m code row

module _ (program : Program) (m : ℕ) (code : List ℕ) (insns : List Placed) where
  pub begins : (row : List (Option Resolved)) → HasCalls program m code row → IsWholeBut program m code insns insns row
  begins row calls = record {
    sound = λ pc. found_right program (with_next program m code pc (decoded code pc)) (slot row pc) (calls pc);
    whole = λ pc starts not_left. absurd (false≢true (sym not_left ∙ starts));
    calls = calls;
  }

  pub ends : (row : List (Option Resolved)) → IsWholeBut program m code insns [] row → IsWhole program m code insns row
  ends row whole = record { sound = whole.sound; whole = λ pc starts. whole.whole pc starts refl; calls = whole.calls }

  if_found : (pc : ℕ) (found : Option Resolved) → IsSlot program m code pc found → IfSome found (λ one. IsSlot program m code pc (Some one))
  if_found pc None is = tt
  if_found pc (Some one) is = is

  module _ (row : List (Option Resolved)) (placed : Placed) (rest : List Placed) (found : Option Resolved) (within : placed.pc < length row) (is : IsPlacedIn code placed) (given : IsSeenAt program (with_next program m code placed.pc (Ok (placed.insn, placed.next))) found) (old : IsWholeBut program m code insns (placed ∷ rest) row) where
    here : IsSlot program m code placed.pc found
    here = subst (λ (r : Result (Insn × ℕ) InsnFault). IsSeenAt program (with_next program m code placed.pc r) found) (sym is) given

    at_pc : (pc : ℕ) → int_eq (pos placed.pc) (pos pc) ≡ true → IsSlot program m code pc found × (slot (slice_set row placed.pc found) pc ≡ found)
    at_pc pc same =
        let equal : pos placed.pc ≡ pos pc = (Decides-int_eq (pos placed.pc) (pos pc)).0 same in
        let e : placed.pc ≡ pc = cc in
        subst (λ (n : ℕ). IsSlot program m code n found × (slot (slice_set row placed.pc found) n ≡ found)) e (here, ap option_flatten (set_same row placed.pc found within))

    off_pc : (pc : ℕ) → int_eq (pos placed.pc) (pos pc) ≡ false → slot (slice_set row placed.pc found) pc ≡ slot row pc
    off_pc pc other =
        ap option_flatten (set_other row placed.pc pc found (λ e. false≢true (sym other ∙ (Decides-int_eq (pos placed.pc) (pos pc)).1 (ap (λ (n : ℕ). pos n) e))))

    is_sound : (pc : ℕ) (b : Bool) → int_eq (pos placed.pc) (pos pc) ≡ b → IfSome (slot (slice_set row placed.pc found) pc) (λ one. IsSlot program m code pc (Some one))
    is_sound pc true same = let at = at_pc pc same in subst (λ (o : Option Resolved). IfSome o (λ one. IsSlot program m code pc (Some one))) (sym at.1) (if_found pc found at.0)
    is_sound pc false other = subst (λ (o : Option Resolved). IfSome o (λ one. IsSlot program m code pc (Some one))) (sym (off_pc pc other)) (old.sound pc)

    is_there : (pc : ℕ) (b : Bool) → int_eq (pos placed.pc) (pos pc) ≡ b → is_start insns (pos pc) ≡ true → is_start rest (pos pc) ≡ false → IsSlot program m code pc (slot (slice_set row placed.pc found) pc)
    is_there pc true same starts left = let at = at_pc pc same in subst (λ (o : Option Resolved). IsSlot program m code pc o) (sym at.1) at.0
    is_there pc false other starts left =
        subst (λ (o : Option Resolved). IsSlot program m code pc o) (sym (off_pc pc other)) (old.whole pc starts (ap (λ b. b || is_start rest (pos pc)) other ∙ left))

    is_called : (pc : ℕ) (b : Bool) → int_eq (pos placed.pc) (pos pc) ≡ b → HasCall program m code pc (slot (slice_set row placed.pc found) pc)
    is_called pc true same =
        let at = at_pc pc same in
        subst (λ (o : Option Resolved). HasCall program m code pc o) (sym at.1) (also_call program (with_next program m code pc (decoded code pc)) found at.0)
    is_called pc false other = subst (λ (o : Option Resolved). HasCall program m code pc o) (sym (off_pc pc other)) (old.calls pc)

    pub one_slot : IsWholeBut program m code insns rest (slice_set row placed.pc found)
    one_slot = record {
      sound = λ pc. is_sound pc (int_eq (pos placed.pc) (pos pc)) refl;
      whole = λ pc starts left. is_there pc (int_eq (pos placed.pc) (pos pc)) refl starts left;
      calls = λ pc. is_called pc (int_eq (pos placed.pc) (pos pc)) refl;
    }

-- ---- the row of a method

pub no_code_row : (program : Program) (m : ℕ) → IsRowIn program m None []
no_code_row program m = record { sound = λ pc. tt; whole = λ pc starts. refl; calls = λ pc none. refl }

pub long_row : (program : Program) (m : ℕ) (code : Code) → nat_lt (length code.bytes) (2 ^ 16) ≡ false → IsRowIn program m (Some code) []
long_row program m code long = record { sound = λ pc. tt; whole = λ pc starts. rw long refl; calls = λ pc none. rw long refl }

pub short_row : (program : Program) (m : ℕ) (code : Code) (row : List (Option Resolved)) → nat_lt (length code.bytes) (2 ^ 16) ≡ true → IsWhole program m code.bytes (insns_in code.bytes) row → IsRowIn program m (Some code) row
short_row program m code row short whole = record {
  sound = λ pc. subst (λ (b : Bool). IfSome (slot row pc) (λ found. IsSeenAt program (if b then with_next program m code.bytes pc (decoded code.bytes pc) else None) (Some found))) (sym short) (whole.sound pc);
  whole = λ pc starts. subst (λ (b : Bool). IsSeenAt program (if b then with_next program m code.bytes pc (decoded code.bytes pc) else None) (slot row pc)) (sym short)
      (whole.whole pc (rw short at starts));
  calls = λ pc none. subst (λ (b : Bool). is_call (if b then with_next program m code.bytes pc (decoded code.bytes pc) else None) ≡ false) (sym short)
      (no_call_where_none program (with_next program m code.bytes pc (decoded code.bytes pc)) (slot row pc) (whole.calls pc) none);
}

-- ---- the table

abbrev pub AreRowsOf : Program → List (Vec (Option Resolved) Global) → Type 0
AreRowsOf program rows = (m : ℕ) (row : Vec (Option Resolved) Global) → slice_get rows m ≡ Some row → IsRowOf program m row.items

pub no_rows : (program : Program) → AreRowsOf program []
no_rows program m row at = absurd (none-some row at)

pub one_row : (program : Program) (rows : List (Vec (Option Resolved) Global)) (row : Vec (Option Resolved) Global) (m : ℕ) → length rows ≡ m → AreRowsOf program rows → IsRowOf program m row.items → AreRowsOf program (rows ++ row ∷ [])
one_row program rows row m count are is k other at = elim (last_or_before rows row k other at) [
  | inl before ↦ are k other before
  | inr last ↦ subst (λ (v : Vec (Option Resolved) Global). IsRowOf program k v.items) last.1 (subst (λ (n : ℕ). IsRowOf program n row.items) (sym (last.0 ∙ count)) is)
]

module _ (program : Program) (instructions : Instructions) (count : length instructions.rows.items ≡ length program.methods) (are : AreRowsOf program instructions.rows.items) where
  table_sound : (m pc : ℕ) (row : Option (Vec (Option Resolved) Global)) → slice_get instructions.rows.items m ≡ row → IfSome (found_at row pc) (λ found. IsSeenAt program (instruction_at program m pc) (Some found))
  table_sound m pc None at = tt
  table_sound m pc (Some row) at = (are m row at).sound pc

  none_past : (m pc : ℕ) (method : Option Method) → method_at program m ≡ method → slice_get instructions.rows.items m ≡ None → instruction_at program m pc ≡ None
  none_past m pc None is none = rw is refl
  none_past m pc (Some method) is none =
      let within = slice_get_within program.methods m method is in
      absurd (present instructions.rows.items m (omega arith) none)

  table_whole : (m pc : ℕ) (row : Option (Vec (Option Resolved) Global)) → slice_get instructions.rows.items m ≡ row → starts_at program m pc ≡ true → IsSeenAt program (instruction_at program m pc) (found_at row pc)
  table_whole m pc None at starts = none_past m pc (method_at program m) refl at
  table_whole m pc (Some row) at starts = (are m row at).whole pc starts

  table_calls : (m pc : ℕ) (row : Option (Vec (Option Resolved) Global)) → slice_get instructions.rows.items m ≡ row → found_at row pc ≡ None → is_call (instruction_at program m pc) ≡ false
  table_calls m pc None at none = ap is_call (none_past m pc (method_at program m) refl at)
  table_calls m pc (Some row) at none = (are m row at).calls pc none

  pub are_instructions : AreInstructionsOf program instructions
  are_instructions = record {
    sound = λ m pc. table_sound m pc (slice_get instructions.rows.items m) refl;
    whole = λ m pc. table_whole m pc (slice_get instructions.rows.items m) refl;
    calls = λ m pc. table_calls m pc (slice_get instructions.rows.items m) refl;
  }
