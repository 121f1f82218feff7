-- A frame of typed plain code holds ints as its shape says, and an operation that is no call puts an int into one place.
use Rattle.std.proofs.Common.{◌≡◌, inl, inr, ℕ, zero, suc, ◌-◌, ◌<◌, ℤ, true, cond, List, [], ◌∷◌, length, take, drop, set, map, Option, Some, None, refl, sym, ap, subst, ◌∙◌, arith, length-set, ne_eqb}
use Rattle.std.specs.Prelude.{pos, nat_le, nat_lt, slice_get}
use Rattle.std.proofs.lemmas.Bool.{false≢true, cases_eq, cond-true, eq-eqb, le-leb, ltb-true}
use Rattle.std.proofs.lemmas.Option.{none-some, same_Some, cond_some}
use Rattle.std.specs.Int.{w32, int_wrapping_add, int_wrapping_sub}
use Rattle.jo_prog.specs.declared.operations.Operation.{Operation}
use Rattle.jo_prog.specs.declared.operations.Operation.TheVariants.{Constant, Load, Store as StoreTo, Add, Subtract, InvokeStatic, Return, Other}
use Rattle.jo_prog.specs.declared.program.Program.{Program}
use Rattle.jo_prog.specs.Typing.{Kind, Int, Null, Ref, Unset, Shape, with_stack, exchange, loaded, stored, shape_after}
use Rattle.jo_prog.specs.Values.{Value, int, Info}
use Rattle.jo_prog.specs.Machine.{Frame, popped, fetched, fetched_local, execute}
use Rattle.dependence.specs.declared.flow.Place.{Place}
use Rattle.dependence.specs.declared.flow.Place.TheVariants.{Local, Stack, Pending}
use Rattle.dependence.specs.Flow.{falls_through, reads_of, writes_of}
use Rattle.low_run.proofs.PlainLaws.{Store, with_int}

-- ---- what an operation that is no call does

-- the place that it writes, from a stack of this height
abbrev pub written_at : Operation → ℕ → Place
written_at (Constant z) height = Stack height
written_at (Load k) height = Stack height
written_at (StoreTo k) height = Local k
written_at Add height = Stack (height - 2)
written_at Subtract height = Stack (height - 2)
written_at (InvokeStatic k) height = Pending
written_at Return height = Pending
written_at Other height = Pending

-- the int that it writes, from those that it reads
abbrev pub value_from : Operation → List ℤ → ℤ
value_from (Constant z) ints = z
value_from Add (y ∷ x ∷ ints) = int_wrapping_add w32 x y
value_from Subtract (y ∷ x ∷ ints) = int_wrapping_sub w32 x y
value_from _ (x ∷ ints) = x
value_from _ [] = pos 0

pub writes_there : (operation : Operation) (height : ℕ) → falls_through operation ≡ true → writes_of operation height ≡ written_at operation height ∷ []
writes_there (Constant z) height on = refl
writes_there (Load k) height on = refl
writes_there (StoreTo k) height on = refl
writes_there Add height on = refl
writes_there Subtract height on = refl
writes_there (InvokeStatic k) height on = absurd (false≢true on)
writes_there Return height on = absurd (false≢true on)
writes_there Other height on = absurd (false≢true on)

-- ---- frames that hold the ints of a store

-- a stack of ints alone, its top first
pub data StackHolds (store : Store) : List Kind → List (Value ℕ) → Type 0 where
  empty : StackHolds store [] []
  push : (kinds : List Kind) (values : List (Value ℕ)) (z : ℤ) → z ≡ store (Stack (length kinds)) → StackHolds store kinds values → StackHolds store (Int ∷ kinds) (int z ∷ values)

pub record LocalsHold (store : Store) (kinds : List Kind) (locals : List (Option (Value ℕ))) : Type 0 where
  pub count : length locals ≡ length kinds
  pub each : (k : ℕ) → slice_get kinds k ≡ Some Int → slice_get locals k ≡ Some (Some (int (store (Local k))))

other_stack : (one other : Store) (kinds : List Kind) (values : List (Value ℕ)) → ((i : ℕ) → i < length kinds → one (Stack i) ≡ other (Stack i)) → StackHolds one kinds values → StackHolds other kinds values
other_stack one other kinds values same empty = empty
other_stack one other kinds values same (push rest below z is holds) =
    push rest below z (is ∙ same (length rest) (omega arith)) (other_stack one other rest below (λ i inside. same i (omega arith)) holds)

at_stack : (store : Store) (h i : ℕ) (z : ℤ) → i ≡ h → with_int store (Stack h) z (Stack i) ≡ z
at_stack store h i z e = ap (λ b. cond b z (store (Stack i))) (eq-eqb i h e)

off_stack : (store : Store) (h i : ℕ) (z : ℤ) → (i ≡ h → ⊥) → with_int store (Stack h) z (Stack i) ≡ store (Stack i)
off_stack store h i z other = ap (λ b. cond b z (store (Stack i))) (ne_eqb i h other)

-- a push on what stays
pub pushed_stack : (store : Store) (kinds : List Kind) (values : List (Value ℕ)) (z : ℤ) → StackHolds store kinds values → StackHolds (with_int store (Stack (length kinds)) z) (Int ∷ kinds) (int z ∷ values)
pushed_stack store kinds values z holds =
    let h = length kinds in
    push kinds values z (sym (at_stack store h h z refl))
    (other_stack store (with_int store (Stack h) z) kinds values (λ i inside. sym (off_stack store h i z (λ e. (let none : ⊥ = omega arith in none)))) holds)

pub locals_beside : (store : Store) (h : ℕ) (z : ℤ) (kinds : List Kind) (locals : List (Option (Value ℕ))) → LocalsHold store kinds locals → LocalsHold (with_int store (Stack h) z) kinds locals
locals_beside store h z kinds locals holds = record { count = holds.count; each = holds.each }

-- ---- lists

slice_get-set_same : {X : Type 0} → (xs : List X) (k : ℕ) (x : X) → k < length xs → slice_get (set xs k x) k ≡ Some x
slice_get-set_same [] k x below = absurd (omega arith)
slice_get-set_same (y ∷ xs) zero x below = refl
slice_get-set_same (y ∷ xs) (suc k) x below = slice_get-set_same xs k x (omega arith)

slice_get-set_other : {X : Type 0} → (xs : List X) (j k : ℕ) (x : X) → (j ≡ k → ⊥) → slice_get (set xs k x) j ≡ slice_get xs j
slice_get-set_other [] j k x other = refl
slice_get-set_other (y ∷ xs) zero zero x other = absurd (other refl)
slice_get-set_other (y ∷ xs) (suc j) zero x other = refl
slice_get-set_other (y ∷ xs) zero (suc k) x other = refl
slice_get-set_other (y ∷ xs) (suc j) (suc k) x other = slice_get-set_other xs j k x (λ e. other (ap suc e))

pub popped_none : (stack : List (Value ℕ)) → popped 0 stack ≡ Some ([], stack)
popped_none stack = cond-true (nat_le 0 (length stack)) (Some (take 0 stack, drop 0 stack)) None (le-leb 0 (length stack) (omega arith))

popped_one : (x : Value ℕ) (stack : List (Value ℕ)) → popped 1 (x ∷ stack) ≡ Some (x ∷ [], stack)
popped_one x stack = cond-true (nat_le 1 (length (x ∷ stack))) (Some (take 1 (x ∷ stack), drop 1 (x ∷ stack))) None (le-leb 1 (length (x ∷ stack)) (omega arith))

popped_two : (x y : Value ℕ) (stack : List (Value ℕ)) → popped 2 (x ∷ y ∷ stack) ≡ Some (x ∷ y ∷ [], stack)
popped_two x y stack = cond-true (nat_le 2 (length (x ∷ y ∷ stack))) (Some (take 2 (x ∷ y ∷ stack), drop 2 (x ∷ y ∷ stack))) None (le-leb 2 (length (x ∷ y ∷ stack)) (omega arith))

-- ---- an operation that is no call, run

-- the top frame of a thread that has no other
abbrev pub frame_at : ℕ → ℕ → List (Option (Value ℕ)) → List (Value ℕ) → Frame
frame_at m pc locals stack = record { method = m; pc = pc; locals = locals; stack = stack }

abbrev pub executed_in : ℕ → ℕ → ℕ → Operation → List (Option (Value ℕ)) → List (Value ℕ) → (ℕ → Info) → Option (List Frame)
executed_in m pc next operation locals stack info = execute info (frame_at m pc locals stack) [] next operation (fetched operation (frame_at m pc locals stack))

-- the frame goes on to the next pc, and holds the ints of a store as a shape says
pub record GoesOn (store : Store) (t : Shape) (m pc next : ℕ) (operation : Operation) (locals : List (Option (Value ℕ))) (stack : List (Value ℕ)) : Type 0 where
  pub new_locals : List (Option (Value ℕ))
  pub new_stack : List (Value ℕ)
  pub runs : (info : ℕ → Info) → executed_in m pc next operation locals stack info ≡ Some (frame_at m next new_locals new_stack ∷ [])
  pub locals_hold : LocalsHold store t.locals new_locals
  pub stack_holds : StackHolds store t.stack new_stack

loaded_int : (o : Option Kind) (s t : Shape) → loaded o s ≡ Some t → (o ≡ Some Int) × (with_stack s (Int ∷ s.stack) ≡ t)
loaded_int None s t e = absurd (none-some t e)
loaded_int (Some Int) s t e = (refl, same_Some _ t e)
loaded_int (Some Null) s t e = absurd (none-some t e)
loaded_int (Some (Ref type)) s t e = absurd (none-some t e)
loaded_int (Some Unset) s t e = absurd (none-some t e)

stored_int : (k : ℕ) (s t : Shape) (kinds : List Kind) → stored k s (Int ∷ kinds) ≡ Some t → (k < length s.locals) × (record { locals = set s.locals k Int; stack = kinds } ≡ t)
stored_int k s t kinds e =
    let parts = cond_some (nat_lt k (length s.locals)) (record { locals = set s.locals k Int; stack = kinds }) t e in
    (ltb-true k (length s.locals) parts.0, parts.1)

module _ (store : Store) (m pc next : ℕ) (locals : List (Option (Value ℕ))) where
  -- an int is pushed
  pushed : (operation : Operation) (s t : Shape) (stack : List (Value ℕ)) (z : ℤ) → with_stack s (Int ∷ s.stack) ≡ t
      → ((info : ℕ → Info) → executed_in m pc next operation locals stack info ≡ Some (frame_at m next locals (int z ∷ stack) ∷ []))
      → LocalsHold store s.locals locals → StackHolds store s.stack stack → GoesOn (with_int store (Stack (length s.stack)) z) t m pc next operation locals stack
  pushed operation s t stack z made runs ls ss =
      subst (λ (u : Shape). GoesOn (with_int store (Stack (length s.stack)) z) u m pc next operation locals stack) made
      (record {
        new_locals = locals;
        new_stack = int z ∷ stack;
        runs = runs;
        locals_hold = locals_beside store (length s.stack) z s.locals locals ls;
        stack_holds = pushed_stack store s.stack stack z ss;
      })

  -- the locals behind a store
  stored_locals : (k : ℕ) (kinds : List Kind) (z w : ℤ) → k < length kinds → z ≡ w → LocalsHold store kinds locals → LocalsHold (with_int store (Local k) w) (set kinds k Int) (set locals k (Some (int z)))
  stored_locals k kinds z w below same ls = record {
    count = length-set locals k (Some (int z)) ∙ ls.count ∙ sym (length-set kinds k Int);
    each = λ j is. elim (cases_eq j k) [
      | inl here ↦ (let c = ls.count in
          ap (slice_get (set locals k (Some (int z)))) here ∙ slice_get-set_same locals k (Some (int z)) (omega arith)
          ∙ ap (λ v. Some (Some (int v))) (same ∙ sym (ap (λ b. cond b w (store (Local j))) (eq-eqb j k here))))
      | inr other ↦
          slice_get-set_other locals j k (Some (int z)) other ∙ ls.each j (sym (slice_get-set_other kinds j k Int other) ∙ is)
          ∙ ap (λ v. Some (Some (int v))) (sym (ap (λ b. cond b w (store (Local j))) (ne_eqb j k other)))
    ];
  }

  stores : (k : ℕ) (s t : Shape) (kinds : List Kind) (stack : List (Value ℕ)) → stored k s kinds ≡ Some t → LocalsHold store s.locals locals → StackHolds store kinds stack
      → GoesOn (with_int store (Local k) (store (Stack (length kinds - 1)))) t m pc next (StoreTo k) locals stack
  stores k s t kinds stack made ls empty = absurd (none-some t made)
  stores k s t kinds stack made ls (push rest below z is ss) =
      let into = stored_int k s t rest made in
      let top : length (Int ∷ rest) - 1 ≡ length rest = omega arith in
      let w = store (Stack (length (Int ∷ rest) - 1)) in
      subst (λ u. GoesOn (with_int store (Local k) w) u m pc next (StoreTo k) locals (int z ∷ below)) into.1
      (record {
        new_locals = set locals k (Some (int z));
        new_stack = below;
        runs = λ info. ap (λ o. execute info (frame_at m pc locals (int z ∷ below)) [] next (StoreTo k) o) (popped_one (int z) below);
        locals_hold = stored_locals k s.locals z w into.0 (is ∙ ap (λ i. store (Stack i)) (sym top)) ls;
        stack_holds = other_stack store (with_int store (Local k) w) rest below (λ i inside. refl) ss;
      })

  -- what an operation on two ints gives
  joins : (operation : Operation) (join : ℤ → ℤ → ℤ) (s t : Shape) (kinds : List Kind) (stack : List (Value ℕ))
      → ((x y : ℤ) (rest : List (Value ℕ)) (info : ℕ → Info) → executed_in m pc next operation locals (int y ∷ int x ∷ rest) info ≡ Some (frame_at m next locals (int (join x y) ∷ rest) ∷ []))
      → exchange 2 1 (record { locals = s.locals; stack = kinds }) ≡ Some t → LocalsHold store s.locals locals → StackHolds store kinds stack
      → GoesOn (with_int store (Stack (length kinds - 2)) (join (store (Stack (length kinds - 2))) (store (Stack (length kinds - 1))))) t m pc next operation locals stack
  joins operation join s t kinds stack runs made ls empty = absurd (none-some t made)
  joins operation join s t kinds stack runs made ls (push _ _ y is empty) = absurd (none-some t made)
  joins operation join s t kinds stack runs made ls (push _ _ y is (push rest below x under ss)) =
      let one_off : length (Int ∷ Int ∷ rest) - 1 ≡ suc (length rest) = omega arith in
      let two_off : length (Int ∷ Int ∷ rest) - 2 ≡ length rest = omega arith in
      let to = length (Int ∷ Int ∷ rest) - 2 in
      let z = join (store (Stack to)) (store (Stack (length (Int ∷ Int ∷ rest) - 1))) in
      let value : join x y ≡ z = ap (λ i. join i y) (under ∙ ap (λ i. store (Stack i)) (sym two_off)) ∙ ap (join (store (Stack to))) (is ∙ ap (λ i. store (Stack i)) (sym one_off)) in
      subst (λ u. GoesOn (with_int store (Stack to) z) u m pc next operation locals (int y ∷ int x ∷ below)) (same_Some (record { locals = s.locals; stack = Int ∷ rest }) t made)
      (record {
        new_locals = locals;
        new_stack = int (join x y) ∷ below;
        runs = runs x y below;
        locals_hold = locals_beside store to z s.locals locals ls;
        stack_holds = push rest below (join x y) (value ∙ sym (at_stack store to (length rest) z (sym two_off)))
            (other_stack store (with_int store (Stack to) z) rest below (λ i inside. sym (off_stack store to i z (λ e. (let none : ⊥ = omega arith in none)))) ss);
      })

  -- an operation that is no call, and behind which the code goes on
  pub operation_goes : (program : Program) (callee : Option ℕ) (operation : Operation) (s t : Shape) (stack : List (Value ℕ)) → falls_through operation ≡ true → shape_after program callee operation s ≡ Some t
      → LocalsHold store s.locals locals → StackHolds store s.stack stack
      → GoesOn (with_int store (written_at operation (length s.stack)) (value_from operation (map store (reads_of operation (length s.stack))))) t m pc next operation locals stack
  operation_goes program callee (Constant z) s t stack on made ls ss =
      pushed (Constant z) s t stack z (same_Some (with_stack s (Int ∷ s.stack)) t made) (λ info. ap (λ o. execute info (frame_at m pc locals stack) [] next (Constant z) o) (popped_none stack)) ls ss
  operation_goes program callee (Load k) s t stack on made ls ss =
      let is = loaded_int (slice_get s.locals k) s t made in
      pushed (Load k) s t stack (store (Local k)) is.1 (λ info. ap (λ o. execute info (frame_at m pc locals stack) [] next (Load k) (fetched_local o stack)) (ls.each k is.0)) ls ss
  operation_goes program callee (StoreTo k) s t stack on made ls ss = stores k s t s.stack stack made ls ss
  operation_goes program callee Add s t stack on made ls ss =
      joins Add (int_wrapping_add w32) s t s.stack stack (λ x y rest info. ap (λ o. execute info (frame_at m pc locals (int y ∷ int x ∷ rest)) [] next Add o) (popped_two (int y) (int x) rest)) made ls ss
  operation_goes program callee Subtract s t stack on made ls ss =
      joins Subtract (int_wrapping_sub w32) s t s.stack stack (λ x y rest info. ap (λ o. execute info (frame_at m pc locals (int y ∷ int x ∷ rest)) [] next Subtract o) (popped_two (int y) (int x) rest)) made ls ss
  operation_goes program callee (InvokeStatic k) s t stack on made ls ss = absurd (false≢true on)
  operation_goes program callee Return s t stack on made ls ss = absurd (false≢true on)
  operation_goes program callee Other s t stack on made ls ss = absurd (false≢true on)
