-- The list of steps from a node has exactly the steps of the wide graph.
use Rattle.std.specs.Prelude.{◌↔◌, ◌⊎◌, ◌^◌, not, ◌&&◌, nat_lt, if◌then◌else◌, cond, option_map, ℤ, pos, negsuc, slice_get}
use Rattle.std.specs.List.{flat_map}
use Rattle.std.specs.Option.{option_to_list}
use Rattle.std.proofs.Common.{inl, inr, ◌≡◌, ℕ, zero, suc, ◌+◌, ◌<◌, ◌≤◌, Bool, true, false, ltb, leb, List, [], ◌∷◌, ◌++◌, length, Option, Some, None, Result, Ok, Err, Contains, refl, sym, ◌∙◌, ap, subst, arith}
use Rattle.std.proofs.lemmas.Bool.{ltb-true, ltb-false, lt-ltb, leb-true, le-leb}
use Rattle.std.proofs.lemmas.Option.{same_Some, some_pair_parts}
use Rattle.std.proofs.lemmas.List.Elements.{Contains-append_left, Contains-append_right, Contains-append_cases}
use Rattle.jo_ids.proofs.PathLemmas.{kept_along}
use Rattle.jo_insn.specs.declared.instructions.Insn.{Insn}
use Rattle.jo_insn.specs.declared.instructions.InsnFault.{InsnFault}
use Rattle.jo_insn.specs.Instructions.{decoded}
use Rattle.jo_insn.specs.Jumps.{targets_of}
use Rattle.jo_insn.proofs.DecodedMoves.{decoded-moves}
use Rattle.jo_prog.specs.declared.program.Program.{Program}
use Rattle.jo_prog.specs.declared.program.Code.{Code}
use Rattle.jo_prog.specs.declared.program.Row.{Row}
use Rattle.jo_prog.specs.InsnTyping.{covers}
use Rattle.jo_prog.specs.Program.{code_at}
use Rattle.jo_prog.specs.Sites.{opcode_of}
use Rattle.jo_prog.proofs.WalkLemmas.{here, behind, head_or_behind, none_there, in_flat_map, to_flat_map}
use Rattle.dep_nodes.specs.declared.kinds.NodeKind.{NodeKind}
use Rattle.dep_nodes.specs.declared.kinds.NodeKind.TheVariants.{Entry, Exit, Instr, Call, RetVal, RetKind, Throw, Catch, Poll, XPoll, Arg, Param, Kind, Value, Thrown}
use Rattle.dependence.specs.WideGraph.{as_insn, insn_in, insn_at, rows_in, row_at, node_of_insn, is_call, is_return, goes_on, may_throw, calls_native, StandsWith, IsFirst, Jumps, Covers, WideStep, begins, skips, falls, jumps, polls, turns, loops, returns, raises, calls_native_of, calls, comes_back, rethrows, stays_away, arrives, caught, polls_caught, turns_caught, loops_caught, uncaught, handles, IsWideNode}
use Rattle.flow_graph.specs.Steps.{first_at, first_steps, step_if, pc_of, turned, jump_to, targets_in, jump_steps, fall_steps, entry_steps, insn_steps, answer_of, call_steps, result_steps, thrown_to, row_step, row_steps, throw_steps, catch_steps, poll_steps, steps_from}

-- ---- lists of at most one

in_option : (o : Option NodeKind) (n : NodeKind) → Contains (option_to_list o) n → o ≡ Some n
in_option None n c = absurd (none_there n c)
in_option (Some k) n c = elim (head_or_behind k [] n c) [
  | inl e ↦ ap (λ x. Some x) e
  | inr more ↦ absurd (none_there n more)
]

to_option : (o : Option NodeKind) (n : NodeKind) → o ≡ Some n → Contains (option_to_list o) n
to_option o n e = subst (λ x. Contains (option_to_list x) n) (sym e) (here n [])

in_if : (b : Bool) (k n : NodeKind) → Contains (step_if b k) n → (b ≡ true) × (n ≡ k)
in_if true k n c = elim (head_or_behind k [] n c) [
  | inl e ↦ (refl, sym e)
  | inr more ↦ absurd (none_there n more)
]
in_if false k n c = absurd (none_there n c)

to_if : (b : Bool) (k : NodeKind) → b ≡ true → Contains (step_if b k) k
to_if b k e = subst (λ x. Contains (step_if x k) k) (sym e) (here k [])

only : (k n : NodeKind) → Contains (k ∷ []) n → n ≡ k
only k n c = elim (head_or_behind k [] n c) [
  | inl e ↦ sym e
  | inr more ↦ absurd (none_there n more)
]

either_bool : (b : Bool) → (b ≡ true) ⊎ (b ≡ false)
either_bool true = inl refl
either_bool false = inr refl

both_true : (a b : Bool) → (a && b) ≡ true → (a ≡ true) × (b ≡ true)
both_true true b e = (refl, e)
both_true false b e = absurd (cc)

not_true : (b : Bool) → not b ≡ true → b ≡ false
not_true true e = absurd (cc)
not_true false e = refl

module _ (program : Program) (m : ℕ) where
  -- ---- the first node at a pc

  first_of : (pc next : ℕ) (insn : Insn) → insn_at program m pc ≡ Some (insn, next) → first_at program m pc ≡ Some (node_of_insn pc insn)
  first_of pc next insn e = ap (option_map (λ (found : Insn × ℕ). node_of_insn pc found.0)) e

  first_listed : (pc : ℕ) (n : NodeKind) → IsFirst program m pc n → first_at program m pc ≡ Some n
  first_listed pc n (insn, next, e, is) = first_of pc next insn e ∙ ap (λ x. Some x) (sym is)

  listed_first : (pc : ℕ) (n : NodeKind) → first_at program m pc ≡ Some n → IsFirst program m pc n
  listed_first pc n is = by_insn (insn_at program m pc) refl is
    where
      by_insn : (o : Option (Insn × ℕ)) → insn_at program m pc ≡ o → option_map (λ (found : Insn × ℕ). node_of_insn pc found.0) o ≡ Some n → IsFirst program m pc n
      by_insn None e f = absurd (cc)
      by_insn (Some (insn, next)) e f = (insn, next, e, sym (same_Some (node_of_insn pc insn) n f))

  in_first : (pc : ℕ) (n : NodeKind) → Contains (first_steps program m pc) n → IsFirst program m pc n
  in_first pc n c = listed_first pc n (in_option (first_at program m pc) n c)

  to_first : (pc : ℕ) (n : NodeKind) → IsFirst program m pc n → Contains (first_steps program m pc) n
  to_first pc n is = to_option (first_at program m pc) n (first_listed pc n is)

  -- an instruction stands below 2^16
  stands_below : (pc : ℕ) (found : Insn × ℕ) → insn_at program m pc ≡ Some found → pc < 2 ^ 16
  stands_below pc found is = by_code (code_at program m) is
    where
      by_read : (code : Code) → length code.bytes < 2 ^ 16 → (r : Result (Insn × ℕ) InsnFault) → decoded code.bytes pc ≡ r → as_insn r ≡ Some found → pc < 2 ^ 16
      by_read code few (Ok (insn, next)) e f = let moves = decoded-moves code.bytes pc next insn e in omega (arith, moves.0, moves.1, few)
      by_read code few (Err fault) e f = absurd (cc)

      by_size : (code : Code) (b : Bool) → nat_lt (length code.bytes) (2 ^ 16) ≡ b → cond b (as_insn (decoded code.bytes pc)) None ≡ Some found → pc < 2 ^ 16
      by_size code true e f = by_read code (ltb-true (length code.bytes) (2 ^ 16) e) (decoded code.bytes pc) refl f
      by_size code false e f = absurd (cc)

      by_code : (o : Option Code) → insn_in o pc ≡ Some found → pc < 2 ^ 16
      by_code None f = absurd (cc)
      by_code (Some code) f = by_size code (nat_lt (length code.bytes) (2 ^ 16)) refl f

  -- ---- jumps

  turned_ahead : (pc target : ℕ) (f : NodeKind) → pc < target → turned pc target f ≡ f
  turned_ahead pc target f ahead = by_test (nat_lt pc target) refl
    where
      by_test : (b : Bool) → nat_lt pc target ≡ b → cond b f (Poll pc target) ≡ f
      by_test true e = refl
      by_test false e = absurd (let p = ltb-false pc target e in omega (arith, p, ahead))

  turned_back : (pc target : ℕ) (f : NodeKind) → target ≤ pc → turned pc target f ≡ Poll pc target
  turned_back pc target f back = by_test (nat_lt pc target) refl
    where
      by_test : (b : Bool) → nat_lt pc target ≡ b → cond b f (Poll pc target) ≡ Poll pc target
      by_test true e = absurd (let p = ltb-true pc target e in omega (arith, p, back))
      by_test false e = refl

  pc_is : (target : ℕ) → target < 2 ^ 16 → pc_of (pos target) ≡ Some target
  pc_is target below = by_test (nat_lt target (2 ^ 16)) refl
    where
      by_test : (b : Bool) → nat_lt target (2 ^ 16) ≡ b → cond b (Some target) None ≡ Some target
      by_test true e = refl
      by_test false e = absurd (let p = ltb-false target (2 ^ 16) e in omega (arith, p, below))

  -- a jump that an instruction takes, and the node to which it leads
  record Leaps (pc : ℕ) (n : NodeKind) : Type 0 where
    target : ℕ
    jump : Jumps program m pc target
    first : NodeKind
    is_first : IsFirst program m target first
    is : n ≡ turned pc target first

  to_jumps : (pc : ℕ) (n : NodeKind) (leaps : Leaps pc n) → Contains (jump_steps program m pc leaps.jump.insn) n
  to_jumps pc n leaps =
      let j = leaps.jump in
      let small = stands_below leaps.target (leaps.is_first.0, leaps.is_first.1) leaps.is_first.2 in
      let step : Contains (jump_to program m pc (Some leaps.target)) n =
      to_option (option_map (turned pc leaps.target) (first_at program m leaps.target)) n (ap (option_map (turned pc leaps.target)) (first_listed leaps.target leaps.first leaps.is_first) ∙ ap (λ x. Some x) (sym leaps.is)) in
      let here : Contains (jump_to program m pc (pc_of (pos leaps.target))) n = subst (λ o. Contains (jump_to program m pc o) n) (sym (pc_is leaps.target small)) step in
      subst (λ (o : Option Code). Contains (flat_map (λ target. jump_to program m pc (pc_of target)) (targets_in o pc j.insn)) n) (sym j.code_is)
      (to_flat_map (λ target. jump_to program m pc (pc_of target)) (targets_of j.code.bytes pc j.insn) (pos leaps.target) n j.jumps here)

  in_jumps : (pc next : ℕ) (insn : Insn) (n : NodeKind) → insn_at program m pc ≡ Some (insn, next) → Contains (jump_steps program m pc insn) n → Leaps pc n
  in_jumps pc next insn n stands c = by_code (code_at program m) refl c
    where
      by_first : (code : Code) → code_at program m ≡ Some code → (target : ℕ) → Contains (targets_of code.bytes pc insn) (pos target) → (o : Option NodeKind) → first_at program m target ≡ o
          → option_map (turned pc target) o ≡ Some n → Leaps pc n
      by_first code e target among None f g = absurd (cc)
      by_first code e target among (Some first) f g = record {
        target = target;
        jump = record { code = code; code_is = e; insn = insn; next = next; stands = stands; jumps = among };
        first = first;
        is_first = listed_first target first f;
        is = sym (same_Some (turned pc target first) n g);
      }

      by_small : (code : Code) → code_at program m ≡ Some code → (target : ℕ) → Contains (targets_of code.bytes pc insn) (pos target) → (b : Bool)
          → Contains (jump_to program m pc (cond b (Some target) None)) n → Leaps pc n
      by_small code e target among true c = by_first code e target among (first_at program m target) refl (in_option (option_map (turned pc target) (first_at program m target)) n c)
      by_small code e target among false c = absurd (none_there n c)

      by_target : (code : Code) → code_at program m ≡ Some code → (z : ℤ) → Contains (targets_of code.bytes pc insn) z → Contains (jump_to program m pc (pc_of z)) n → Leaps pc n
      by_target code e (pos target) among c = by_small code e target among (nat_lt target (2 ^ 16)) c
      by_target code e (negsuc k) among c = absurd (none_there n c)

      by_code : (o : Option Code) → code_at program m ≡ o → Contains (flat_map (λ target. jump_to program m pc (pc_of target)) (targets_in o pc insn)) n → Leaps pc n
      by_code None e c = absurd (none_there n c)
      by_code (Some code) e c =
          let at = in_flat_map (λ target. jump_to program m pc (pc_of target)) (targets_of code.bytes pc insn) n c in
          by_target code e at.0 at.1 at.2

  leap_step : (pc : ℕ) (n : NodeKind) → Leaps pc n → WideStep program m (Instr pc) n
  leap_step pc n leaps = elim (ahead_or_back pc leaps.target) [
    | inl ahead ↦ jumps pc leaps.target n leaps.jump ahead (subst (λ k. IsFirst program m leaps.target k) (sym (leaps.is ∙ turned_ahead pc leaps.target leaps.first ahead)) leaps.is_first)
    | inr back ↦ subst (λ k. WideStep program m (Instr pc) k) (sym (leaps.is ∙ turned_back pc leaps.target leaps.first back)) (polls pc leaps.target leaps.first leaps.jump back leaps.is_first)
  ]
    where
      ahead_or_back : (a b : ℕ) → (a < b) ⊎ (b ≤ a)
      ahead_or_back a b = by_test (ltb a b) refl
        where
          by_test : (t : Bool) → ltb a b ≡ t → (a < b) ⊎ (b ≤ a)
          by_test true e = inl (ltb-true a b e)
          by_test false e = inr (ltb-false a b e)

  -- ---- rows

  thrown_ahead : (pc k handler : ℕ) → pc < handler → thrown_to pc k handler ≡ Catch k
  thrown_ahead pc k handler ahead = by_test (nat_lt pc handler) refl
    where
      by_test : (b : Bool) → nat_lt pc handler ≡ b → cond b (Catch k) (XPoll pc k) ≡ Catch k
      by_test true e = refl
      by_test false e = absurd (let p = ltb-false pc handler e in omega (arith, p, ahead))

  thrown_back : (pc k handler : ℕ) → handler ≤ pc → thrown_to pc k handler ≡ XPoll pc k
  thrown_back pc k handler back = by_test (nat_lt pc handler) refl
    where
      by_test : (b : Bool) → nat_lt pc handler ≡ b → cond b (Catch k) (XPoll pc k) ≡ XPoll pc k
      by_test true e = absurd (let p = ltb-true pc handler e in omega (arith, p, back))
      by_test false e = refl

  -- the place of a row that covers a pc, and the node to which it leads
  record RowStep (pc k : ℕ) (rows : List Row) (n : NodeKind) : Type 0 where
    place : ℕ
    row : Row
    at : slice_get rows place ≡ Some row
    is_covered : covers pc row ≡ true
    number : ℕ
    number_is : number ≡ k + place
    is : n ≡ thrown_to pc number row.handler

  in_rows : (pc k : ℕ) (rows : List Row) (n : NodeKind) → Contains (row_steps pc k rows) n → RowStep pc k rows n
  in_rows pc k [] n c = absurd (none_there n c)
  in_rows pc k (row ∷ rows) n c = elim (Contains-append_cases (row_step pc k row) (row_steps pc (suc k) rows) n c) [
    | inl at_first ↦ let i = in_if (covers pc row) (thrown_to pc k row.handler) n at_first in
        record { place = 0; row = row; at = refl; is_covered = i.0; number = k; number_is = omega arith; is = i.1 }
    | inr more ↦ let r = in_rows pc (suc k) rows n more in
        record { place = suc r.place; row = r.row; at = r.at; is_covered = r.is_covered; number = r.number; number_is = (let e = r.number_is in omega arith); is = r.is }
  ]

  to_rows : (pc k : ℕ) (rows : List Row) (place number : ℕ) (row : Row) → slice_get rows place ≡ Some row → covers pc row ≡ true → number ≡ k + place
      → Contains (row_steps pc k rows) (thrown_to pc number row.handler)
  to_rows pc k [] place number row at covered is = absurd (cc)
  to_rows pc k (first ∷ rows) zero number row at covered is =
      let same : first ≡ row = same_Some first row at in
      let here : Contains (row_step pc k row) (thrown_to pc k row.handler) = to_if (covers pc row) (thrown_to pc k row.handler) covered in
      let number_is : number ≡ k = omega arith in
      Contains-append_left (row_step pc k first) (row_steps pc (suc k) rows) (thrown_to pc number row.handler)
      (subst (λ (r : Row). Contains (row_step pc k r) (thrown_to pc number row.handler)) (sym same) (subst (λ i. Contains (row_step pc k row) (thrown_to pc i row.handler)) (sym number_is) here))
  to_rows pc k (first ∷ rows) (suc place) number row at covered is =
      Contains-append_right (row_step pc k first) (row_steps pc (suc k) rows) (thrown_to pc number row.handler) (to_rows pc (suc k) rows place number row at covered (omega arith))

  covered_by : (pc : ℕ) (row : Row) → row.start ≤ pc → pc < row.end → covers pc row ≡ true
  covered_by pc row from to = rw (le-leb row.start pc from) (lt-ltb pc row.end to)

  covers_from : (pc : ℕ) (row : Row) → covers pc row ≡ true → (row.start ≤ pc) × (pc < row.end)
  covers_from pc row e = let both = both_true (leb row.start pc) (ltb pc row.end) e in (leb-true row.start pc both.0, ltb-true pc row.end both.1)

  row_there : (code : Code) → code_at program m ≡ Some code → (k : ℕ) (row : Row) → slice_get code.rows k ≡ Some row → row_at program m k ≡ Some row
  row_there code e k row at = ap (λ o. rows_in o k) e ∙ at

  -- ---- what is true of a polling node that is reached

  abbrev Turns : ℕ → ℕ → Type 0
  Turns pc target = Jumps program m pc target × (target ≤ pc)

  abbrev TurnsCaught : ℕ → ℕ → Type 0
  TurnsCaught pc k = (handler : ℕ) × Covers program m k pc handler × (handler ≤ pc)

  abbrev Polls : NodeKind → Type 0
  Polls (Poll pc target) = Turns pc target
  Polls (XPoll pc k) = TurnsCaught pc k
  Polls _ = Unit {0}

  first_polls : (pc : ℕ) (n : NodeKind) → IsFirst program m pc n → Polls n
  first_polls pc n (insn, next, e, is) = subst Polls (sym is) (by_kind (is_call (opcode_of insn)))
    where
      by_kind : (b : Bool) → Polls (cond b (Call pc) (Instr pc))
      by_kind true = tt
      by_kind false = tt

  step_polls : (a b : NodeKind) → WideStep program m a b → Polls b
  step_polls _ _ (begins n first) = first_polls 0 n first
  step_polls _ _ skips = tt
  step_polls _ _ (falls pc next insn n e on first) = first_polls next n first
  step_polls _ _ (jumps pc target n jump ahead first) = first_polls target n first
  step_polls _ _ (polls pc target n jump back first) = (jump, back)
  step_polls _ _ (turns pc target n jump back first) = first_polls target n first
  step_polls _ _ (loops pc target jump back) = tt
  step_polls _ _ (returns pc stands) = tt
  step_polls _ _ (raises pc n stands first) = tt
  step_polls _ _ (calls_native_of pc stands native) = tt
  step_polls _ _ (calls pc stands other) = tt
  step_polls _ _ (comes_back pc) = tt
  step_polls _ _ (rethrows pc) = tt
  step_polls _ _ (stays_away pc) = tt
  step_polls _ _ (arrives pc next insn n e call first) = first_polls next n first
  step_polls _ _ (caught pc k handler covered ahead) = tt
  step_polls _ _ (polls_caught pc k handler covered back) = (handler, covered, back)
  step_polls _ _ (turns_caught pc k handler covered back) = tt
  step_polls _ _ (loops_caught pc k handler covered back) = tt
  step_polls _ _ (uncaught pc) = tt
  step_polls _ _ (handles k row n at first) = first_polls row.handler n first

  pub wide_polls : (n : NodeKind) → IsWideNode program m n → Polls n
  wide_polls n path = kept_along Polls (λ a b step before. step_polls a b step) path tt

  -- ---- a step is listed

  with_insn : (pc : ℕ) (found : Insn × ℕ) (n : NodeKind) → insn_at program m pc ≡ Some found → Contains (insn_steps program m pc (Some found)) n → Contains (insn_steps program m pc (insn_at program m pc)) n
  with_insn pc found n e c = subst (λ o. Contains (insn_steps program m pc o) n) (sym e) c

  in_fall : (pc next : ℕ) (insn : Insn) (n : NodeKind) → Contains (fall_steps program m insn next) n → Contains (insn_steps program m pc (Some (insn, next))) n
  in_fall pc next insn n c =
      let a = fall_steps program m insn next in
      let b = jump_steps program m pc insn in
      let r = step_if (is_return (opcode_of insn)) Exit in
      let t = step_if (may_throw (opcode_of insn) && not (is_call (opcode_of insn))) (Throw pc) in
      Contains-append_left ((a ++ b) ++ r) t n (Contains-append_left (a ++ b) r n (Contains-append_left a b n c))

  in_jump : (pc next : ℕ) (insn : Insn) (n : NodeKind) → Contains (jump_steps program m pc insn) n → Contains (insn_steps program m pc (Some (insn, next))) n
  in_jump pc next insn n c =
      let a = fall_steps program m insn next in
      let b = jump_steps program m pc insn in
      let r = step_if (is_return (opcode_of insn)) Exit in
      let t = step_if (may_throw (opcode_of insn) && not (is_call (opcode_of insn))) (Throw pc) in
      Contains-append_left ((a ++ b) ++ r) t n (Contains-append_left (a ++ b) r n (Contains-append_right a b n c))

  in_return : (pc next : ℕ) (insn : Insn) → is_return (opcode_of insn) ≡ true → Contains (insn_steps program m pc (Some (insn, next))) Exit
  in_return pc next insn e =
      let a = fall_steps program m insn next in
      let b = jump_steps program m pc insn in
      let r = step_if (is_return (opcode_of insn)) Exit in
      let t = step_if (may_throw (opcode_of insn) && not (is_call (opcode_of insn))) (Throw pc) in
      Contains-append_left ((a ++ b) ++ r) t Exit (Contains-append_right (a ++ b) r Exit (to_if (is_return (opcode_of insn)) Exit e))

  in_throw : (pc next : ℕ) (insn : Insn) → may_throw (opcode_of insn) ≡ true → is_call (opcode_of insn) ≡ false → Contains (insn_steps program m pc (Some (insn, next))) (Throw pc)
  in_throw pc next insn e no_call =
      let a = fall_steps program m insn next in
      let b = jump_steps program m pc insn in
      let r = step_if (is_return (opcode_of insn)) Exit in
      let test : (may_throw (opcode_of insn) && not (is_call (opcode_of insn))) ≡ true = rw (e, no_call) refl in
      Contains-append_right ((a ++ b) ++ r) (step_if (may_throw (opcode_of insn) && not (is_call (opcode_of insn))) (Throw pc)) (Throw pc) (to_if _ (Throw pc) test)

  call_listed : (pc next : ℕ) (insn : Insn) (n : NodeKind) → insn_at program m pc ≡ Some (insn, next) → is_call (opcode_of insn) ≡ true
      → Contains (answer_of program m pc ∷ step_if (may_throw (opcode_of insn)) (Throw pc)) n → Contains (call_steps program m pc (insn_at program m pc)) n
  call_listed pc next insn n e call c =
      let steps = answer_of program m pc ∷ step_if (may_throw (opcode_of insn)) (Throw pc) in
      subst (λ o. Contains (call_steps program m pc o) n) (sym e) (subst (λ b. Contains (cond b steps []) n) (sym call) c)

  raise_listed : (pc next : ℕ) (insn : Insn) (n : NodeKind) → insn_at program m pc ≡ Some (insn, next) → may_throw (opcode_of insn) ≡ true → n ≡ node_of_insn pc insn
      → Contains (steps_from program m n) (Throw pc)
  raise_listed pc next insn n e throws is = subst (λ k. Contains (steps_from program m k) (Throw pc)) (sym is) (by_kind (is_call (opcode_of insn)) refl)
    where
      by_kind : (b : Bool) → is_call (opcode_of insn) ≡ b → Contains (steps_from program m (cond b (Call pc) (Instr pc))) (Throw pc)
      by_kind true call = call_listed pc next insn (Throw pc) e call (behind (answer_of program m pc) (step_if (may_throw (opcode_of insn)) (Throw pc)) (Throw pc) (to_if (may_throw (opcode_of insn)) (Throw pc) throws))
      by_kind false other = with_insn pc (insn, next) (Throw pc) e (in_throw pc next insn throws other)

  answer_listed : (pc : ℕ) (b : Bool) → StandsWith program m pc is_call → calls_native program m pc ≡ b → Contains (call_steps program m pc (insn_at program m pc)) (cond b (RetVal pc) (RetKind pc))
  answer_listed pc b (insn, next, e, call) native =
      call_listed pc next insn (cond b (RetVal pc) (RetKind pc)) e call
      (subst (λ k. Contains (k ∷ step_if (may_throw (opcode_of insn)) (Throw pc)) (cond b (RetVal pc) (RetKind pc))) (ap (λ t. cond t (RetVal pc) (RetKind pc)) (sym native)) (here (cond b (RetVal pc) (RetKind pc)) (step_if (may_throw (opcode_of insn)) (Throw pc))))

  throw_listed : (pc k handler : ℕ) → Covers program m k pc handler → Contains (throw_steps pc (code_at program m)) (thrown_to pc k handler)
  throw_listed pc k handler covered = by_code (code_at program m) covered.is
    where
      by_code : (o : Option Code) → rows_in o k ≡ Some covered.row → Contains (throw_steps pc o) (thrown_to pc k handler)
      by_code None e = absurd (cc)
      by_code (Some code) e =
          let there = to_rows pc 0 code.rows k k covered.row e (covered_by pc covered.row covered.begins covered.ends) (omega arith) in
          subst (λ h. Contains (row_steps pc 0 code.rows ++ Exit ∷ []) (thrown_to pc k h)) covered.leads
          (Contains-append_left (row_steps pc 0 code.rows) (Exit ∷ []) (thrown_to pc k covered.row.handler) there)

  exit_listed : (pc : ℕ) (o : Option Code) → Contains (throw_steps pc o) Exit
  exit_listed pc None = here Exit []
  exit_listed pc (Some code) = Contains-append_right (row_steps pc 0 code.rows) (Exit ∷ []) Exit (here Exit [])

  pub step_listed : (a b : NodeKind) → WideStep program m a b → Contains (steps_from program m a) b
  step_listed _ _ (begins n first) = Contains-append_left (first_steps program m 0) (Exit ∷ []) n (to_first 0 n first)
  step_listed _ _ skips = Contains-append_right (first_steps program m 0) (Exit ∷ []) Exit (here Exit [])
  step_listed _ _ (falls pc next insn n e on first) =
      with_insn pc (insn, next) n e (in_fall pc next insn n (subst (λ b. Contains (cond b (first_steps program m next) []) n) (sym on) (to_first next n first)))
  step_listed _ _ (jumps pc target n jump ahead first) =
      with_insn pc (jump.insn, jump.next) n jump.stands
      (in_jump pc jump.next jump.insn n (to_jumps pc n (record { target = target; jump = jump; first = n; is_first = first; is = sym (turned_ahead pc target n ahead) })))
  step_listed _ _ (polls pc target n jump back first) =
      with_insn pc (jump.insn, jump.next) (Poll pc target) jump.stands
      (in_jump pc jump.next jump.insn (Poll pc target) (to_jumps pc (Poll pc target) (record { target = target; jump = jump; first = n; is_first = first; is = sym (turned_back pc target n back) })))
  step_listed _ _ (turns pc target n jump back first) = Contains-append_left (first_steps program m target) (Exit ∷ []) n (to_first target n first)
  step_listed _ _ (loops pc target jump back) = Contains-append_right (first_steps program m target) (Exit ∷ []) Exit (here Exit [])
  step_listed _ _ (returns pc (insn, next, e, test)) = with_insn pc (insn, next) Exit e (in_return pc next insn test)
  step_listed _ _ (raises pc n (insn, next, e, test) (own, after, found, is)) =
      let same = some_pair_parts insn own next after (sym e ∙ found) in
      raise_listed pc after own n found (subst (λ i. may_throw (opcode_of i) ≡ true) same.0 test) is
  step_listed _ _ (calls_native_of pc stands native) = answer_listed pc true stands native
  step_listed _ _ (calls pc stands other) = answer_listed pc false stands other
  step_listed _ _ (comes_back pc) = here (RetVal pc) (Throw pc ∷ Exit ∷ [])
  step_listed _ _ (rethrows pc) = behind (RetVal pc) (Throw pc ∷ Exit ∷ []) (Throw pc) (here (Throw pc) (Exit ∷ []))
  step_listed _ _ (stays_away pc) = behind (RetVal pc) (Throw pc ∷ Exit ∷ []) Exit (behind (Throw pc) (Exit ∷ []) Exit (here Exit []))
  step_listed _ _ (arrives pc next insn n e call first) =
      subst (λ o. Contains (result_steps program m o) n) (sym e) (subst (λ b. Contains (cond b (first_steps program m next) []) n) (sym call) (to_first next n first))
  step_listed _ _ (caught pc k handler covered ahead) = subst (λ n. Contains (throw_steps pc (code_at program m)) n) (thrown_ahead pc k handler ahead) (throw_listed pc k handler covered)
  step_listed _ _ (polls_caught pc k handler covered back) = subst (λ n. Contains (throw_steps pc (code_at program m)) n) (thrown_back pc k handler back) (throw_listed pc k handler covered)
  step_listed _ _ (turns_caught pc k handler covered back) = here (Catch k) (Exit ∷ [])
  step_listed _ _ (loops_caught pc k handler covered back) = behind (Catch k) (Exit ∷ []) Exit (here Exit [])
  step_listed _ _ (uncaught pc) = exit_listed pc (code_at program m)
  step_listed _ _ (handles k row n at first) = subst (λ o. Contains (catch_steps program m o) n) (sym at) (to_first row.handler n first)

  -- ---- what is listed is a step

  entry_step : (n : NodeKind) → Contains (entry_steps program m) n → WideStep program m Entry n
  entry_step n c = elim (Contains-append_cases (first_steps program m 0) (Exit ∷ []) n c) [
    | inl first ↦ begins n (in_first 0 n first)
    | inr last ↦ subst (λ k. WideStep program m Entry k) (sym (only Exit n last)) skips
  ]

  poll_step : (pc target : ℕ) (n : NodeKind) → Turns pc target → Contains (poll_steps program m target) n → WideStep program m (Poll pc target) n
  poll_step pc target n turn c = elim (Contains-append_cases (first_steps program m target) (Exit ∷ []) n c) [
    | inl first ↦ turns pc target n turn.0 turn.1 (in_first target n first)
    | inr last ↦ subst (λ k. WideStep program m (Poll pc target) k) (sym (only Exit n last)) (loops pc target turn.0 turn.1)
  ]

  xpoll_step : (pc k : ℕ) (n : NodeKind) → TurnsCaught pc k → Contains (Catch k ∷ Exit ∷ []) n → WideStep program m (XPoll pc k) n
  xpoll_step pc k n (handler, covered, back) c = elim (head_or_behind (Catch k) (Exit ∷ []) n c) [
    | inl e ↦ subst (λ x. WideStep program m (XPoll pc k) x) e (turns_caught pc k handler covered back)
    | inr last ↦ subst (λ x. WideStep program m (XPoll pc k) x) (sym (only Exit n last)) (loops_caught pc k handler covered back)
  ]

  kind_step : (pc : ℕ) (n : NodeKind) → Contains (RetVal pc ∷ Throw pc ∷ Exit ∷ []) n → WideStep program m (RetKind pc) n
  kind_step pc n c = elim (head_or_behind (RetVal pc) (Throw pc ∷ Exit ∷ []) n c) [
    | inl e ↦ subst (λ x. WideStep program m (RetKind pc) x) e (comes_back pc)
    | inr more ↦ elim (head_or_behind (Throw pc) (Exit ∷ []) n more) [
      | inl e ↦ subst (λ x. WideStep program m (RetKind pc) x) e (rethrows pc)
      | inr last ↦ subst (λ x. WideStep program m (RetKind pc) x) (sym (only Exit n last)) (stays_away pc)
    ]
  ]

  fall_step : (pc next : ℕ) (insn : Insn) (n : NodeKind) → insn_at program m pc ≡ Some (insn, next) → Contains (fall_steps program m insn next) n → WideStep program m (Instr pc) n
  fall_step pc next insn n e c = by_test (goes_on (opcode_of insn)) refl c
    where
      by_test : (b : Bool) → goes_on (opcode_of insn) ≡ b → Contains (cond b (first_steps program m next) []) n → WideStep program m (Instr pc) n
      by_test true on c = falls pc next insn n e on (in_first next n c)
      by_test false on c = absurd (none_there n c)

  insn_step : (pc : ℕ) (n : NodeKind) (o : Option (Insn × ℕ)) → insn_at program m pc ≡ o → Contains (insn_steps program m pc o) n → WideStep program m (Instr pc) n
  insn_step pc n None e c = absurd (none_there n c)
  insn_step pc n (Some (insn, next)) e c = elim (Contains-append_cases ((a ++ b) ++ r) t n c) [
    | inr throws ↦
        let i = in_if (may_throw (opcode_of insn) && not (is_call (opcode_of insn))) (Throw pc) n throws in
        let both = both_true (may_throw (opcode_of insn)) (not (is_call (opcode_of insn))) i.0 in
        let first : IsFirst program m pc (Instr pc) = (insn, next, e, ap (λ x. cond x (Call pc) (Instr pc)) (sym (not_true (is_call (opcode_of insn)) both.1))) in
        subst (λ k. WideStep program m (Instr pc) k) (sym i.1) (raises pc (Instr pc) (insn, next, e, both.0) first)
    | inl others ↦ elim (Contains-append_cases (a ++ b) r n others) [
      | inr leaves ↦ let i = in_if (is_return (opcode_of insn)) Exit n leaves in subst (λ k. WideStep program m (Instr pc) k) (sym i.1) (returns pc (insn, next, e, i.0))
      | inl ways ↦ elim (Contains-append_cases a b n ways) [
        | inl onward ↦ fall_step pc next insn n e onward
        | inr leaps ↦ leap_step pc n (in_jumps pc next insn n e leaps)
      ]
    ]
  ]
    where
      a : List NodeKind
      a = fall_steps program m insn next

      b : List NodeKind
      b = jump_steps program m pc insn

      r : List NodeKind
      r = step_if (is_return (opcode_of insn)) Exit

      t : List NodeKind
      t = step_if (may_throw (opcode_of insn) && not (is_call (opcode_of insn))) (Throw pc)

  answer_step : (pc : ℕ) (stands : StandsWith program m pc is_call) → WideStep program m (Call pc) (answer_of program m pc)
  answer_step pc stands = by_kind (calls_native program m pc) refl
    where
      by_kind : (b : Bool) → calls_native program m pc ≡ b → WideStep program m (Call pc) (cond b (RetVal pc) (RetKind pc))
      by_kind true e = calls_native_of pc stands e
      by_kind false e = calls pc stands e

  call_step : (pc : ℕ) (n : NodeKind) (o : Option (Insn × ℕ)) → insn_at program m pc ≡ o → Contains (call_steps program m pc o) n → WideStep program m (Call pc) n
  call_step pc n None e c = absurd (none_there n c)
  call_step pc n (Some (insn, next)) e c = by_test (is_call (opcode_of insn)) refl c
    where
      throws : List NodeKind
      throws = step_if (may_throw (opcode_of insn)) (Throw pc)

      by_test : (b : Bool) → is_call (opcode_of insn) ≡ b → Contains (cond b (answer_of program m pc ∷ throws) []) n → WideStep program m (Call pc) n
      by_test true call c = elim (head_or_behind (answer_of program m pc) throws n c) [
        | inl is ↦ subst (λ k. WideStep program m (Call pc) k) is (answer_step pc (insn, next, e, call))
        | inr more ↦
            let i = in_if (may_throw (opcode_of insn)) (Throw pc) n more in
            let first : IsFirst program m pc (Call pc) = (insn, next, e, ap (λ x. cond x (Call pc) (Instr pc)) (sym call)) in
            subst (λ k. WideStep program m (Call pc) k) (sym i.1) (raises pc (Call pc) (insn, next, e, i.0) first)
      ]
      by_test false call c = absurd (none_there n c)

  result_step : (pc : ℕ) (n : NodeKind) (o : Option (Insn × ℕ)) → insn_at program m pc ≡ o → Contains (result_steps program m o) n → WideStep program m (RetVal pc) n
  result_step pc n None e c = absurd (none_there n c)
  result_step pc n (Some (insn, next)) e c = by_test (is_call (opcode_of insn)) refl c
    where
      by_test : (b : Bool) → is_call (opcode_of insn) ≡ b → Contains (cond b (first_steps program m next) []) n → WideStep program m (RetVal pc) n
      by_test true call c = arrives pc next insn n e call (in_first next n c)
      by_test false call c = absurd (none_there n c)

  throw_step : (pc : ℕ) (n : NodeKind) (o : Option Code) → code_at program m ≡ o → Contains (throw_steps pc o) n → WideStep program m (Throw pc) n
  throw_step pc n None e c = subst (λ k. WideStep program m (Throw pc) k) (sym (only Exit n c)) (uncaught pc)
  throw_step pc n (Some code) e c = elim (Contains-append_cases (row_steps pc 0 code.rows) (Exit ∷ []) n c) [
    | inl rows ↦ by_row (in_rows pc 0 code.rows n rows)
    | inr last ↦ subst (λ k. WideStep program m (Throw pc) k) (sym (only Exit n last)) (uncaught pc)
  ]
    where
      by_row : RowStep pc 0 code.rows n → WideStep program m (Throw pc) n
      by_row s =
          let place_is : s.place ≡ s.number = (let e = s.number_is in omega arith) in
          let ends = covers_from pc s.row s.is_covered in
          let covered : Covers program m s.number pc s.row.handler = record {
            row = s.row;
            is = row_there code e s.number s.row (subst (λ k. slice_get code.rows k ≡ Some s.row) place_is s.at);
            begins = ends.0;
            ends = ends.1;
            leads = refl;
          } in
          by_test s covered (ltb pc s.row.handler) refl
        where
          by_test : (s : RowStep pc 0 code.rows n) → Covers program m s.number pc s.row.handler → (b : Bool) → ltb pc s.row.handler ≡ b → WideStep program m (Throw pc) n
          by_test s covered true t =
              let ahead = ltb-true pc s.row.handler t in
              subst (λ k. WideStep program m (Throw pc) k) (sym (s.is ∙ thrown_ahead pc s.number s.row.handler ahead)) (caught pc s.number s.row.handler covered ahead)
          by_test s covered false t =
              let back = ltb-false pc s.row.handler t in
              subst (λ k. WideStep program m (Throw pc) k) (sym (s.is ∙ thrown_back pc s.number s.row.handler back)) (polls_caught pc s.number s.row.handler covered back)

  catch_step : (k : ℕ) (n : NodeKind) (o : Option Row) → row_at program m k ≡ o → Contains (catch_steps program m o) n → WideStep program m (Catch k) n
  catch_step k n None e c = absurd (none_there n c)
  catch_step k n (Some row) e c = handles k row n e (in_first row.handler n c)

  pub listed_step : (a b : NodeKind) → Polls a → Contains (steps_from program m a) b → WideStep program m a b
  listed_step Entry b p c = entry_step b c
  listed_step Exit b p c = absurd (none_there b c)
  listed_step (Instr pc) b p c = insn_step pc b (insn_at program m pc) refl c
  listed_step (Call pc) b p c = call_step pc b (insn_at program m pc) refl c
  listed_step (RetVal pc) b p c = result_step pc b (insn_at program m pc) refl c
  listed_step (RetKind pc) b p c = kind_step pc b c
  listed_step (Throw pc) b p c = throw_step pc b (code_at program m) refl c
  listed_step (Catch k) b p c = catch_step k b (row_at program m k) refl c
  listed_step (Poll pc target) b p c = poll_step pc target b p c
  listed_step (XPoll pc k) b p c = xpoll_step pc k b p c
  listed_step (Arg pc i) b p c = absurd (none_there b c)
  listed_step (Param i) b p c = absurd (none_there b c)
  listed_step Kind b p c = absurd (none_there b c)
  listed_step Value b p c = absurd (none_there b c)
  listed_step Thrown b p c = absurd (none_there b c)

  -- from a node of the wide graph
  pub steps_are : (a b : NodeKind) → IsWideNode program m a → Contains (steps_from program m a) b ↔ WideStep program m a b
  steps_are a b there = (listed_step a b (wide_polls a there), step_listed a b)
