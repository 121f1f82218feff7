-- Plain code is typed as plain code where its method is typed: it can't be that its one path, which takes no row, is no typing path, and
-- a typing path meets no fault.
use Rattle.std.proofs.Common.{◌≡◌, ◌⊎◌, inl, inr, ◌∙◌, ℕ, zero, suc, ◌<◌, ◌≤◌, ◌^◌, ◌+◌, ◌-◌, Bool, true, false, not, ◌&&◌, ◌||◌, cond, nat_lt, List, [], ◌∷◌, ◌++◌, length, map, drop, take, replicate, Contains, Option, Some, None, refl, sym, ap, subst, arith, length-append, length-drop, length-set}
use Rattle.std.specs.Prelude.{◌==◌, ℤ, pos, nat_abs, ◌+ℤ◌, ◌-ℤ◌, is_some, Result, Ok, Err, IsSome, option_and_then, option_map, slice_get, slice_index_or, slice_set, codes, ⊤}
use Rattle.std.specs.List.{AllByRecursion, list_any}
use Rattle.std.specs.Str.{bytes_eq}
use Rattle.std.proofs.lemmas.Bool.{false≢true, and_parts, or_parts, or_from, not-false, false_from_ne_true, cases_order, cases_lt, eqb-true, ltb-true, ltb-false, or_cases}
use Rattle.std.proofs.lemmas.Bool.Decides.{nat_tests}
use Rattle.std.proofs.lemmas.List.{length-map, length-replicate, take-replicate}
use Rattle.std.proofs.lemmas.Option.{none-some, same_Some, some_pair_parts}
use Rattle.std.proofs.lemmas.Slice.Eq.{bytes_eq-Decides}
use Rattle.jo_insn.specs.Instructions.{decoded}
use Rattle.jo_insn.specs.Jumps.{jumps_of}
use Rattle.jo_insn.specs.AccessFlags.{has_flag, static_flag}
use Rattle.jo_insn.specs.declared.instructions.Insn.{Insn}
use Rattle.jo_insn.specs.declared.instructions.Insn.TheVariants.{Plain, Local, Iinc, Push, Pooled, Array, Jump, TableSwitch, LookupSwitch}
use Rattle.jo_insn.specs.declared.instructions.InsnFault.{InsnFault}
use Rattle.jo_insn.specs.declared.jumps.Placed.{Placed}
use Rattle.jo_text.specs.Scan.{names_on, read_field, read_base, read_class, letter_base}
use Rattle.jo_text.specs.declared.descriptors.Base.TheVariants.{Class as OfName}
use Rattle.jo_prog.specs.declared.program.Program.{Program}
use Rattle.jo_prog.specs.declared.program.Method.{Method}
use Rattle.jo_prog.specs.declared.program.Code.{Code}
use Rattle.jo_prog.specs.declared.program.Class.{Class}
use Rattle.jo_prog.specs.declared.program.TypeRef.{TypeRef}
use Rattle.jo_prog.specs.declared.program.TypeRef.TheVariants.{Class as OfClass, Array as OfArray}
use Rattle.jo_prog.specs.declared.program.MemberRef.{MemberRef}
use Rattle.jo_prog.specs.declared.program.Operand.{Operand}
use Rattle.jo_prog.specs.declared.program.Operand.TheVariants.{Unused, Int as IntOperand, Text, OfType, Member}
use Rattle.jo_prog.specs.declared.operations.Operation.{Operation}
use Rattle.jo_prog.specs.declared.operations.Operation.TheVariants.{Constant, Load, Store, Add, Subtract, InvokeStatic, Return, Other}
use Rattle.jo_prog.specs.declared.labels.Labels.{Labels}
use Rattle.jo_prog.specs.declared.labels.Label.{Label}
use Rattle.jo_prog.specs.declared.labels.Label.TheVariants.{Source, Sink, Release}
use Rattle.jo_prog.specs.declared.typed.TypeCode.{TypeCode}
use Rattle.jo_prog.specs.declared.typed.TypeCode.TheVariants.{Underflow, Overflow, HeightDiffers, WrongKind, FallsOff, LocalRange}
use Rattle.jo_prog.specs.Labels.{label_of, label_among}
use Rattle.jo_prog.specs.Operations.{within, operation_of}
use Rattle.jo_prog.specs.Program.{method_at, class_at, code_at, as_operation, operation_in, operation_at, callee_of, callee_at, operand_at, has_signature, first_with, resolve_owned, resolve_operand}
use Rattle.jo_prog.specs.Types.{array_of}
use Rattle.jo_prog.specs.MethodTypes.{method_desc_in, params_from}
use Rattle.jo_prog.specs.PlainCode.{IsLabelledNative, IsWellLabelled, desc_for, is_entry_desc, is_source_or_sink, calls_labelled, goes_on, IsPlainFrom, last, then}
use Rattle.jo_prog.specs.Shapes.{AnInt, Always, Effect, after, kind_from, passes, all_pass}
use Rattle.jo_prog.specs.InsnTyping.{stack_effect, wrong_effect, loads_int, stores_int, result_kind, plain_effect, named_effect, call_effect as call_effect_by, effect_of, as_placed, insn_at, falls_through, successors, is_inside, receiver_kinds, param_kinds, locals_at_start}
use Rattle.jo_prog.specs.Typing.{Kind, Int, Null, Ref, Unset, Shape, After, with_stack, pop_ints, push_ints, exchange, exchange_by, loaded, stored, call_effect, call_effect_of, shape_after, typed_at, Arrives, at_start, by_step, IsTypedCode}
use Rattle.jo_prog.specs.TypingPaths.{Typable, effect_in, effect_at, leads_outside, handler_outside, catches_wrong, successors_at, is_covered, underflows, height_after, overflows, falls_off, is_local, is_written_local, out_of_range, local_passes, wrong_kind, Step, arrives_at, shape_of, height_of, IsLess, IsPlainAlone, pcs_of, handlers_of, IsBefore, shorter, by_pcs, by_rows, IsFirst, ends_at, PathWithin, TypingPath, MeetsAtEnd, IsTypedMethod}
use Rattle.jo_prog.proofs.Decoding.{callee_at-found}
use Rattle.jo_prog.proofs.TypingPaths.{one_height, typed_at-leads, leads_on-return, leads_on-next_pc}

-- ---- tests

three_parts : (a b c : Bool) → (a || b || c) ≡ false → (a ≡ false) × (b ≡ false) × (c ≡ false)
three_parts a b c e =
    let last_one = or_parts (a || b) c e in
    let firsts = or_parts a b last_one.0 in
    (firsts.0, firsts.1, last_one.1)

-- a way into the code leads below its end
inside_below : (code : Code) (x : ℕ) → not (is_inside code (pos x)) ≡ false → x < length code.bytes
inside_below code x e = grind (arith, e)

contains_one : {X : Type 0} → (x y : X) → Contains (x ∷ []) y → x ≡ y
contains_one x y (zero, below, at) = at
contains_one x y (suc k, below, at) = absurd (omega arith)

contains_none : {X : Type 0} → (y : X) → Contains [] y → ⊥
contains_none y (k, below, at) = omega arith

pos_same : (a b : ℕ) → pos a ≡ pos b → a ≡ b
pos_same a b e = ap nat_abs e

-- ---- locals: where the typing of all opcodes has an int, that of plain code has one

abbrev IsIntToo : Kind → Kind → Type 0
IsIntToo plain Int = plain ≡ Int
IsIntToo plain _ = ⊤

abbrev AllIntToo : List Kind → List Kind → Type 0
AllIntToo [] [] = ⊤
AllIntToo (a ∷ plain) (b ∷ full) = IsIntToo a b × AllIntToo plain full
AllIntToo _ _ = ⊥

first_there : (program : Program) (a b : Kind) → IsIntToo a b → passes program AnInt b ≡ true → a ≡ Int
first_there program a Int is pass = is
first_there program a Null is pass = absurd (false≢true pass)
first_there program a (Ref (OfClass c)) is pass = absurd (false≢true pass)
first_there program a (Ref (OfArray desc)) is pass = absurd (false≢true pass)
first_there program a Unset is pass = absurd (false≢true pass)

int_there : (program : Program) (plain full : List Kind) (k : ℕ) → AllIntToo plain full → passes program AnInt (slice_index_or full k Unset) ≡ true → slice_get plain k ≡ Some Int
int_there program [] [] k alike pass = absurd (false≢true pass)
int_there program [] (b ∷ full) k alike pass = absurd alike
int_there program (a ∷ plain) [] k alike pass = absurd alike
int_there program (a ∷ plain) (b ∷ full) zero alike pass = ap (λ (kind : Kind). Some kind) (first_there program a b alike.0 pass)
int_there program (a ∷ plain) (b ∷ full) (suc k) alike pass = int_there program plain full k alike.1 pass

set_alike : (plain full : List Kind) (k : ℕ) → AllIntToo plain full → AllIntToo (slice_set plain k Int) (slice_set full k Int)
set_alike [] [] k alike = tt
set_alike [] (b ∷ full) k alike = absurd alike
set_alike (a ∷ plain) [] k alike = absurd alike
set_alike (a ∷ plain) (b ∷ full) zero alike = (refl, alike.1)
set_alike (a ∷ plain) (b ∷ full) (suc k) alike = (alike.0, set_alike plain full k alike.1)

same_count : (plain full : List Kind) → AllIntToo plain full → length plain ≡ length full
same_count [] [] alike = refl
same_count [] (b ∷ full) alike = absurd alike
same_count (a ∷ plain) [] alike = absurd alike
same_count (a ∷ plain) (b ∷ full) alike = ap suc (same_count plain full alike.1)

unset_alike : (n : ℕ) → AllIntToo (replicate n Unset) (replicate n Unset)
unset_alike zero = tt
unset_alike (suc n) = (tt, unset_alike n)

-- ---- at the start

no_params : (program : Program) → param_kinds program (method_desc_in (codes "()V")) ≡ []
unfolding method_desc_in params_from
no_params program = refl

abbrev texts : TypeRef
texts = OfArray (array_of 1 (OfName (codes "java/lang/String")))

one_param : (program : Program) → param_kinds program (method_desc_in (codes "([Ljava/lang/String;)V")) ≡ Ref texts ∷ []
unfolding method_desc_in params_from read_field read_base read_class letter_base names_on
one_param program = refl

behind_unset : (n : ℕ) → AllIntToo (replicate n Unset) (take n (replicate n Unset))
behind_unset n = let is = take-replicate n n Unset (omega arith) in rw is (unset_alike n)

behind_text : (type : TypeRef) (n : ℕ) → AllIntToo (replicate n Unset) (take n (Ref type ∷ replicate n Unset))
behind_text type zero = tt
behind_text type (suc n) =
    let is = take-replicate n (suc n) Unset (omega arith) in
    (tt, subst (λ (rest : List Kind). AllIntToo (replicate n Unset) rest) (sym is) (unset_alike n))

start_alike : (program : Program) (method : Method) (count : ℕ) → has_flag static_flag method.flags ≡ true → is_entry_desc method.desc ≡ true → AllIntToo (replicate count Unset) (locals_at_start program method count)
start_alike program method count is_static entry =
    let no_receiver : receiver_kinds method ≡ [] = ap (λ (b : Bool). cond {A = List Kind} b [] (Ref (OfClass method.class) ∷ [])) is_static in
    let P : List Kind → Type 0 = λ kinds. AllIntToo (replicate count Unset) (take count (kinds ++ param_kinds program (method_desc_in method.desc) ++ replicate count Unset)) in
    subst P (sym no_receiver) (by_desc (or_cases (bytes_eq method.desc (codes "()V")) (bytes_eq method.desc (codes "([Ljava/lang/String;)V")) entry))
  where
    by_params : (params : List Kind) → param_kinds program (method_desc_in method.desc) ≡ params → AllIntToo (replicate count Unset) (take count (params ++ replicate count Unset))
        → AllIntToo (replicate count Unset) (take count ([] ++ param_kinds program (method_desc_in method.desc) ++ replicate count Unset))
    by_params params is alike = subst (λ (kinds : List Kind). AllIntToo (replicate count Unset) (take count (kinds ++ replicate count Unset))) (sym is) alike

    by_desc : (bytes_eq method.desc (codes "()V") ≡ true) ⊎ (bytes_eq method.desc (codes "([Ljava/lang/String;)V") ≡ true)
        → AllIntToo (replicate count Unset) (take count ([] ++ param_kinds program (method_desc_in method.desc) ++ replicate count Unset))
    by_desc (inl e) =
        let is : method.desc ≡ codes "()V" = (bytes_eq-Decides method.desc (codes "()V")).0 e in
        by_params [] (ap (λ (desc : List ℕ). param_kinds program (method_desc_in desc)) is ∙ no_params program) (behind_unset count)
    by_desc (inr e) =
        let is : method.desc ≡ codes "([Ljava/lang/String;)V" = (bytes_eq-Decides method.desc (codes "([Ljava/lang/String;)V")).0 e in
        by_params (Ref texts ∷ []) (ap (λ (desc : List ℕ). param_kinds program (method_desc_in desc)) is ∙ one_param program) (behind_text texts count)

-- ---- what plain instructions do

data PlainOp (op : ℕ) : Operation → Type 0 where
  constant : within 2 8 op ≡ true → (z : ℤ) → PlainOp op (Constant z)
  load : within 26 29 op ≡ true → (k : ℕ) → op - 26 ≡ k → PlainOp op (Load k)
  store : within 59 62 op ≡ true → (k : ℕ) → op - 59 ≡ k → PlainOp op (Store k)
  add : op ≡ 96 → PlainOp op Add
  subtract : op ≡ 100 → PlainOp op Subtract
  leaves : op ≡ 177 → PlainOp op Return
  others : PlainOp op Other

plain_op : (op : ℕ) → PlainOp op (operation_of (Plain op))
unfolding operation_of
plain_op op = by (within 2 8 op) (within 26 29 op) (within 59 62 op) (op == 96) (op == 100) (op == 177) refl refl refl refl refl refl
  where
    by : (a b c d e f : Bool) → within 2 8 op ≡ a → within 26 29 op ≡ b → within 59 62 op ≡ c → (op == 96) ≡ d → (op == 100) ≡ e → (op == 177) ≡ f
        → PlainOp op (cond a (Constant (pos op -ℤ pos 3)) (cond b (Load (op - 26)) (cond c (Store (op - 59)) (cond d Add (cond e Subtract (cond f Return Other))))))
    by true b c d e f ha hb hc hd he hf = constant ha (pos op -ℤ pos 3)
    by false true c d e f ha hb hc hd he hf = load hb (op - 26) refl
    by false false true d e f ha hb hc hd he hf = store hc (op - 59) refl
    by false false false true e f ha hb hc hd he hf = add (eqb-true op 96 hd)
    by false false false false true f ha hb hc hd he hf = subtract (eqb-true op 100 he)
    by false false false false false true ha hb hc hd he hf = leaves (eqb-true op 177 hf)
    by false false false false false false ha hb hc hd he hf = others

data Does : Insn → Operation → Type 0 where
  plainly : (op : ℕ) (operation : Operation) → PlainOp op operation → Does (Plain op) operation
  puts : (op : ℕ) (z : ℤ) → Does (Push op z) (Constant z)
  loads : (op k : ℕ) → op ≡ 21 → Does (Local op k false) (Load k)
  stores : (op k : ℕ) → op ≡ 54 → Does (Local op k false) (Store k)
  calls : (op k : ℕ) → op ≡ 184 → Does (Pooled op k) (InvokeStatic k)
  none : (insn : Insn) → Does insn Other

does : (insn : Insn) → Does insn (operation_of insn)
unfolding operation_of
does (Plain op) = plainly op (operation_of (Plain op)) (plain_op op)
does (Push op z) = puts op z
does (Local op k true) = none (Local op k true)
does (Local op k false) = by (op == 21) (op == 54) refl refl
  where
    by : (a b : Bool) → (op == 21) ≡ a → (op == 54) ≡ b → Does (Local op k false) (cond a (Load k) (cond b (Store k) Other))
    by true b ha hb = loads op k (eqb-true op 21 ha)
    by false true ha hb = stores op k (eqb-true op 54 hb)
    by false false ha hb = none (Local op k false)
does (Pooled op k) = by (op == 184) refl
  where
    by : (a : Bool) → (op == 184) ≡ a → Does (Pooled op k) (cond a (InvokeStatic k) Other)
    by true ha = calls op k (eqb-true op 184 ha)
    by false ha = none (Pooled op k)
does (Iinc k z wide) = none (Iinc k z wide)
does (Array kind) = none (Array kind)
does (Jump op z) = none (Jump op z)
does (TableSwitch other low high at) = none (TableSwitch other low high at)
does (LookupSwitch other pairs at) = none (LookupSwitch other pairs at)

-- ---- where they lead

ways : (code : List ℕ) (callee : Option ℕ) (labels : Labels) (insn : Insn) (operation : Operation) → Does insn operation → goes_on labels callee operation ≡ true → (jumps_of code insn ≡ []) × (falls_through insn ≡ true)
ways code callee labels insn operation (plainly op does_so (constant is z)) goes = (refl, grind (arith, nat_tests, is))
ways code callee labels insn operation (plainly op does_so (load is k e)) goes = (refl, grind (arith, nat_tests, is))
ways code callee labels insn operation (plainly op does_so (store is k e)) goes = (refl, grind (arith, nat_tests, is))
ways code callee labels insn operation (plainly op does_so (add is)) goes = (refl, rw is refl)
ways code callee labels insn operation (plainly op does_so (subtract is)) goes = (refl, rw is refl)
ways code callee labels insn operation (plainly op does_so (leaves is)) goes = absurd (false≢true goes)
ways code callee labels insn operation (plainly op does_so others) goes = absurd (false≢true goes)
ways code callee labels insn operation (puts op z) goes = (refl, refl)
ways code callee labels insn operation (loads op k is) goes = (refl, refl)
ways code callee labels insn operation (stores op k is) goes = (refl, refl)
ways code callee labels insn operation (calls op k is) goes = (refl, refl)
ways code callee labels insn operation (none other) goes = absurd (false≢true goes)

no_way : (code : List ℕ) (insn : Insn) → Does insn Return → (jumps_of code insn ≡ []) × (falls_through insn ≡ false)
no_way code insn (plainly op does_so (leaves is)) = (refl, rw is refl)

-- ---- what they ask and make

-- a native method that plain code calls takes and gives ints
abbrev ints : ℕ → ℕ → Effect
ints pops pushes = stack_effect (replicate pops AnInt) (replicate pushes (Always Int))

abbrev effect_of_call : Option (ℕ × ℕ) → Effect
effect_of_call None = wrong_effect
effect_of_call (Some effect) = ints effect.0 effect.1

abbrev effect_for : Option (ℕ × ℕ) → Operation → Effect
effect_for call (Constant z) = ints 0 1
effect_for call (Load k) = loads_int k
effect_for call (Store k) = stores_int k
effect_for call Add = ints 2 1
effect_for call Subtract = ints 2 1
effect_for call (InvokeStatic k) = effect_of_call call
effect_for call Return = wrong_effect
effect_for call Other = wrong_effect

constant_is : (result : Option Kind) (op : ℕ) → within 2 8 op ≡ true → plain_effect result op ≡ ints 0 1
constant_is result op is =
    let no_nop : (op == 0) ≡ false = grind (arith, nat_tests, is) in
    let no_null : (op == 1) ≡ false = grind (arith, nat_tests, is) in
    rw no_nop (rw no_null (rw is refl))

load_is : (result : Option Kind) (op : ℕ) → within 26 29 op ≡ true → plain_effect result op ≡ loads_int (op - 26)
load_is result op is =
    let no_nop : (op == 0) ≡ false = grind (arith, nat_tests, is) in
    let no_null : (op == 1) ≡ false = grind (arith, nat_tests, is) in
    let no_constant : within 2 8 op ≡ false = grind (arith, nat_tests, is) in
    rw no_nop (rw no_null (rw no_constant (rw is refl)))

store_is : (result : Option Kind) (op : ℕ) → within 59 62 op ≡ true → plain_effect result op ≡ stores_int (op - 59)
store_is result op is =
    let no_nop : (op == 0) ≡ false = grind (arith, nat_tests, is) in
    let no_null : (op == 1) ≡ false = grind (arith, nat_tests, is) in
    let no_constant : within 2 8 op ≡ false = grind (arith, nat_tests, is) in
    let no_load : within 26 29 op ≡ false = grind (arith, nat_tests, is) in
    let no_reference : within 42 45 op ≡ false = grind (arith, nat_tests, is) in
    rw no_nop (rw no_null (rw no_constant (rw no_load (rw no_reference (rw is refl)))))

-- ---- calls

module _ (program : Program) (labels : Labels) (natives : AllByRecursion (IsLabelledNative program labels) labels.labelled) where
  first_item : (item : ℕ × Label) (rest : Option Label) (s : ℕ) (label : Label) (b : Bool) → (item.0 == s) ≡ b → IsLabelledNative program labels item → (rest ≡ Some label → IsLabelledNative program labels (s, label))
      → cond b (Some item.1) rest ≡ Some label → IsLabelledNative program labels (s, label)
  first_item item rest s label true is first others_too e =
      subst (λ l. IsLabelledNative program labels (s, l)) (same_Some item.1 label e) (subst (λ n. IsLabelledNative program labels (n, item.1)) (eqb-true item.0 s is) first)
  first_item item rest s label false is first others_too e = others_too e

  labelled_item : (items : List (ℕ × Label)) (s : ℕ) (label : Label) → AllByRecursion (IsLabelledNative program labels) items → label_among items s ≡ Some label → IsLabelledNative program labels (s, label)
  labelled_item [] s label all e = absurd (none-some label e)
  labelled_item (item ∷ items) s label all e = first_item item (label_among items s) s label (item.0 == s) refl all.0 (λ f. labelled_item items s label all.1 f) e

  -- what is resolved has the name and the descriptor that were looked for
  has_desc : (name desc : List ℕ) (o : Option Method) → has_signature name desc o ≡ true → (method : Method) × (o ≡ Some method) × (method.desc ≡ desc)
  has_desc name desc None e = absurd (false≢true e)
  has_desc name desc (Some method) e = (method, refl, (bytes_eq-Decides method.desc desc).0 (and_parts (bytes_eq method.name name) (bytes_eq method.desc desc) e).1)

  -- a method of this descriptor has that number
  abbrev HasDesc : ℕ → List ℕ → Type 0
  HasDesc s desc = (method : Method) × (method_at program s ≡ Some method) × (method.desc ≡ desc)

  first_desc : (name desc : List ℕ) (m s : ℕ) (rest : Option ℕ) (b : Bool) → has_signature name desc (method_at program m) ≡ b → (rest ≡ Some s → HasDesc s desc) → cond {A = Option ℕ} b (Some m) rest ≡ Some s → HasDesc s desc
  first_desc name desc m s rest true is others_too e = subst (λ (n : ℕ). HasDesc n desc) (same_Some m s e) (has_desc name desc (method_at program m) is)
  first_desc name desc m s rest false is others_too e = others_too e

  found_desc : (name desc : List ℕ) (ms : List ℕ) (s : ℕ) → first_with program name desc ms ≡ Some s → HasDesc s desc
  found_desc name desc [] s e = absurd (none-some s e)
  found_desc name desc (m ∷ ms) s e = first_desc name desc m s (first_with program name desc ms) (has_signature name desc (method_at program m)) refl (λ f. found_desc name desc ms s f) e

  resolved_desc : (owner : TypeRef) (name desc : List ℕ) (s : ℕ) → resolve_owned program owner name desc ≡ Some s → HasDesc s desc
  resolved_desc (OfArray type) name desc s e = absurd (none-some s e)
  resolved_desc (OfClass c) name desc s e = by (class_at program c) e
    where
      by : (o : Option Class) → option_and_then (λ (class : Class). first_with program name desc class.methods) o ≡ Some s → HasDesc s desc
      by None e = absurd (none-some s e)
      by (Some class) e = found_desc name desc class.methods s e

  label_there : (o : Option Label) → is_source_or_sink o ≡ true → (label : Label) × (o ≡ Some label) × (is_source_or_sink (Some label) ≡ true)
  label_there None e = absurd (false≢true e)
  label_there (Some label) e = (label, refl, e)

  source_or_sink : (c : ℕ) (ref : MemberRef) (label : Label) → is_source_or_sink (Some label) ≡ true → call_effect_by program 184 c ref (method_desc_in (desc_for label)) ≡ effect_of_call (call_effect (desc_for label))
  unfolding method_desc_in params_from read_field read_base read_class letter_base
  source_or_sink c ref (Source level) e = refl
  source_or_sink c ref (Sink level) e = refl
  source_or_sink c ref (Release from to) e = absurd (false≢true e)

  labelled_call : (c : ℕ) (ref : MemberRef) (callee : Option ℕ) → resolve_owned program ref.owner ref.name ref.desc ≡ callee → calls_labelled labels callee ≡ true
      → call_effect_by program 184 c ref (method_desc_in ref.desc) ≡ effect_of_call (call_effect_of program callee)
  labelled_call c ref None is goes = absurd (false≢true goes)
  labelled_call c ref (Some s) is goes =
      let named = label_there (label_of labels s) goes in
      let item = labelled_item labels.labelled s named.0 natives named.1 in
      let resolved = resolved_desc ref.owner ref.name ref.desc s is in
      let one : item.method ≡ resolved.0 = same_Some item.method resolved.0 (sym item.found ∙ resolved.1) in
      let desc : desc_for named.0 ≡ ref.desc = sym item.shape ∙ ap (λ (method : Method). method.desc) one ∙ resolved.2 in
      ap (λ (bytes : List ℕ). call_effect_by program 184 c ref (method_desc_in bytes)) (sym desc)
      ∙ source_or_sink c ref named.0 named.2
      ∙ ap (λ (bytes : List ℕ). effect_of_call (call_effect bytes)) (sym item.shape)
      ∙ ap (λ (o : Option Method). effect_of_call (option_and_then (λ (method : Method). call_effect method.desc) o)) (sym item.found)

  known_label : (label : Label) → is_source_or_sink (Some label) ≡ true → is_some (call_effect (desc_for label)) ≡ true
  known_label (Source level) e = refl
  known_label (Sink level) e = refl
  known_label (Release from to) e = absurd (false≢true e)

  known_effect : (callee : Option ℕ) → calls_labelled labels callee ≡ true → is_some (call_effect_of program callee) ≡ true
  known_effect None goes = absurd (false≢true goes)
  known_effect (Some s) goes =
      let named = label_there (label_of labels s) goes in
      let item = labelled_item labels.labelled s named.0 natives named.1 in
      ap (λ (o : Option Method). is_some (option_and_then (λ (method : Method). call_effect method.desc) o)) item.found
      ∙ ap (λ (bytes : List ℕ). is_some (call_effect bytes)) item.shape
      ∙ known_label named.0 named.2

  call_is : (c : ℕ) (operand : Option Operand) → calls_labelled labels (resolve_operand program operand) ≡ true → named_effect program c 184 operand ≡ effect_of_call (call_effect_of program (resolve_operand program operand))
  call_is c None goes = absurd (false≢true goes)
  call_is c (Some Unused) goes = absurd (false≢true goes)
  call_is c (Some (IntOperand z)) goes = absurd (false≢true goes)
  call_is c (Some (Text text)) goes = absurd (false≢true goes)
  call_is c (Some (OfType type)) goes = absurd (false≢true goes)
  call_is c (Some (Member ref)) goes = labelled_call c ref (resolve_owned program ref.owner ref.name ref.desc) refl goes

  effect_is : (m next : ℕ) (method : Method) (insn : Insn) (operation : Operation) → Does insn operation → goes_on labels (callee_of program m (Some (operation, next))) operation ≡ true
      → effect_of program m method insn ≡ effect_for (call_effect_of program (callee_of program m (Some (operation, next)))) operation
  unfolding effect_of
  effect_is m next method insn operation (plainly op does_so (constant is z)) goes = constant_is (result_kind program method) op is
  effect_is m next method insn operation (plainly op does_so (load is k e)) goes = load_is (result_kind program method) op is ∙ ap loads_int e
  effect_is m next method insn operation (plainly op does_so (store is k e)) goes = store_is (result_kind program method) op is ∙ ap stores_int e
  effect_is m next method insn operation (plainly op does_so (add is)) goes = rw is refl
  effect_is m next method insn operation (plainly op does_so (subtract is)) goes = rw is refl
  effect_is m next method insn operation (plainly op does_so (leaves is)) goes = absurd (false≢true goes)
  effect_is m next method insn operation (plainly op does_so others) goes = absurd (false≢true goes)
  effect_is m next method insn operation (puts op z) goes = refl
  effect_is m next method insn operation (loads op k is) goes = rw is refl
  effect_is m next method insn operation (stores op k is) goes = rw is refl
  effect_is m next method insn operation (calls op k is) goes = rw is (call_is method.class (operand_at program m k) goes)
  effect_is m next method insn operation (none other) goes = absurd (false≢true goes)

-- ---- a step of both

heights_after : (program : Program) (effect : Effect) (u : Shape) → length (after program effect u).stack ≡ height_after effect (length u.stack)
heights_after program effect u =
    length-append (map (kind_from program u) effect.pushes) (drop (length effect.pops) u.stack)
    ∙ ap (λ (n : ℕ). n + length (drop (length effect.pops) u.stack)) (length-map effect.pushes (kind_from program u))
    ∙ ap (λ (n : ℕ). length effect.pushes + n) (length-drop (length effect.pops) u.stack)

record Alike (s u : Shape) : Type 0 where
  stack : s.stack ≡ u.stack
  locals : AllIntToo s.locals u.locals

-- the places that an effect asks for are there and hold what it asks for
record Clean (program : Program) (code : Code) (effect : Effect) (u : Shape) : Type 0 where
  there : length effect.pops ≤ length u.stack
  pass : all_pass program effect.pops u.stack ≡ true
  local : is_local code effect.reads ≡ true
  reads : local_passes program u effect.reads ≡ true
  written : is_written_local code effect.writes ≡ true

-- the shape after an operation of plain code, and that after its effect
record Goes (program : Program) (callee : Option ℕ) (operation : Operation) (s u : Shape) : Type 0 where
  shape : Shape
  made : shape_after program callee operation s ≡ Some shape
  alike : Alike shape (after program (effect_for (call_effect_of program callee) operation) u)
  count : length shape.locals ≡ length s.locals

module _ (program : Program) where
  ints_there : (n : ℕ) (stack : List Kind) → n ≤ length stack → all_pass program (replicate n AnInt) stack ≡ true → pop_ints n stack ≡ Some (drop n stack)
  ints_there zero stack there pass = refl
  ints_there (suc n) [] there pass = absurd (omega (arith, there))
  ints_there (suc n) (Int ∷ stack) there pass = ints_there n stack (omega (arith, there)) pass
  ints_there (suc n) (Null ∷ stack) there pass = absurd (false≢true pass)
  ints_there (suc n) (Ref (OfClass c) ∷ stack) there pass = absurd (false≢true pass)
  ints_there (suc n) (Ref (OfArray desc) ∷ stack) there pass = absurd (false≢true pass)
  ints_there (suc n) (Unset ∷ stack) there pass = absurd (false≢true pass)

  pushed : (u : Shape) (n : ℕ) → map (kind_from program u) (replicate n (Always Int)) ≡ replicate n Int
  pushed u zero = refl
  pushed u (suc n) = ap (λ (kinds : List Kind). Int ∷ kinds) (pushed u n)

  exchanged : (s u : Shape) (pops pushes : ℕ) → Alike s u → length (ints pops pushes).pops ≤ length u.stack → all_pass program (replicate pops AnInt) u.stack ≡ true
      → (exchange pops pushes s ≡ Some (with_stack s (push_ints pushes (drop pops s.stack)))) × Alike (with_stack s (push_ints pushes (drop pops s.stack))) (after program (ints pops pushes) u)
  exchanged s u pops pushes alike there pass =
      let long = length-replicate pops AnInt in
      let same : length s.stack ≡ length u.stack = ap length alike.stack in
      let popped = ints_there pops s.stack (omega (arith, there, long, same)) (subst (λ (stack : List Kind). all_pass program (replicate pops AnInt) stack ≡ true) (sym alike.stack) pass) in (
        ap (λ (o : Option (List Kind)). option_map (λ (stack : List Kind). with_stack s (push_ints pushes stack)) o) popped,
        record {
          stack =
              ap (λ (stack : List Kind). replicate pushes Int ++ drop pops stack) alike.stack
              ∙ ap (λ (kinds : List Kind). kinds ++ drop pops u.stack) (sym (pushed u pushes))
              ∙ ap (λ (n : ℕ). map (kind_from program u) (replicate pushes (Always Int)) ++ drop n u.stack) (sym long);
          locals = alike.locals;
        },
      )

module _ (program : Program) (code : Code) (callee : Option ℕ) (s u : Shape) (alike : Alike s u) (count : length s.locals ≡ code.max_locals) where
  goes_ints : (operation : Operation) (pops pushes : ℕ) → shape_after program callee operation s ≡ exchange pops pushes s → effect_for (call_effect_of program callee) operation ≡ ints pops pushes
      → Clean program code (ints pops pushes) u → Goes program callee operation s u
  goes_ints operation pops pushes is effect clean =
      let step = exchanged program s u pops pushes alike clean.there clean.pass in
      record {
        shape = with_stack s (push_ints pushes (drop pops s.stack));
        made = is ∙ step.0;
        alike = subst (λ (e : Effect). Alike (with_stack s (push_ints pushes (drop pops s.stack))) (after program e u)) (sym effect) step.1;
        count = refl;
      }

  goes_load : (k : ℕ) → Clean program code (loads_int k) u → Goes program callee (Load k) s u
  goes_load k clean =
      let below : k < length u.locals = let l = ltb-true k code.max_locals clean.local in let same = same_count s.locals u.locals alike.locals in omega (arith, l, same, count) in
      let holds : passes program AnInt (slice_index_or u.locals k Unset) ≡ true = by (nat_lt k (length u.locals)) refl below clean.reads in
      record {
        shape = with_stack s (Int ∷ s.stack);
        made = ap (λ (o : Option Kind). loaded o s) (int_there program s.locals u.locals k alike.locals holds);
        alike = record { stack = ap (λ (kinds : List Kind). Int ∷ kinds) alike.stack; locals = alike.locals };
        count = refl;
      }
    where
      by : (b : Bool) → nat_lt k (length u.locals) ≡ b → k < length u.locals → (not b || passes program AnInt (slice_index_or u.locals k Unset)) ≡ true → passes program AnInt (slice_index_or u.locals k Unset) ≡ true
      by true is below e = e
      by false is below e = absurd (let past = ltb-false k (length u.locals) is in omega (arith, past, below))

  stores_there : (k : ℕ) (stack : List Kind) → 1 ≤ length stack → all_pass program (AnInt ∷ []) stack ≡ true → nat_lt k (length s.locals) ≡ true
      → stored k s stack ≡ Some (record { locals = slice_set s.locals k Int; stack = drop 1 stack })
  stores_there k [] there pass below = absurd (omega (arith, there))
  stores_there k (Int ∷ stack) there pass below = ap (λ (b : Bool). cond {A = Option Shape} b (Some (record { locals = slice_set s.locals k Int; stack = stack })) None) below
  stores_there k (Null ∷ stack) there pass below = absurd (false≢true pass)
  stores_there k (Ref (OfClass c) ∷ stack) there pass below = absurd (false≢true pass)
  stores_there k (Ref (OfArray desc) ∷ stack) there pass below = absurd (false≢true pass)
  stores_there k (Unset ∷ stack) there pass below = absurd (false≢true pass)

  goes_store : (k : ℕ) → Clean program code (stores_int k) u → Goes program callee (Store k) s u
  goes_store k clean =
      let below : nat_lt k (length s.locals) ≡ true = ap (λ (n : ℕ). nat_lt k n) count ∙ clean.written in
      let there : 1 ≤ length s.stack = let same : length s.stack ≡ length u.stack = ap length alike.stack in let l = clean.there in omega (arith, l, same) in
      let pass : all_pass program (AnInt ∷ []) s.stack ≡ true = subst (λ (stack : List Kind). all_pass program (AnInt ∷ []) stack ≡ true) (sym alike.stack) clean.pass in
      record {
        shape = record { locals = slice_set s.locals k Int; stack = drop 1 s.stack };
        made = stores_there k s.stack there pass below;
        alike = record { stack = ap (λ (stack : List Kind). drop 1 stack) alike.stack; locals = set_alike s.locals u.locals k alike.locals };
        count = length-set s.locals k Int;
      }

  goes_call : (k : ℕ) (call : Option (ℕ × ℕ)) → call_effect_of program callee ≡ call → is_some call ≡ true → Clean program code (effect_of_call call) u → Goes program callee (InvokeStatic k) s u
  goes_call k None is there clean = absurd (false≢true there)
  goes_call k (Some effect) is there clean =
      goes_ints (InvokeStatic k) effect.0 effect.1 (ap (λ (call : Option (ℕ × ℕ)). exchange_by call s) is) (ap effect_of_call is) clean

  goes : (labels : Labels) (operation : Operation) → goes_on labels callee operation ≡ true → (calls_labelled labels callee ≡ true → is_some (call_effect_of program callee) ≡ true)
      → Clean program code (effect_for (call_effect_of program callee) operation) u → Goes program callee operation s u
  goes labels (Constant z) on known clean = goes_ints (Constant z) 0 1 refl refl clean
  goes labels (Load k) on known clean = goes_load k clean
  goes labels (Store k) on known clean = goes_store k clean
  goes labels Add on known clean = goes_ints Add 2 1 refl refl clean
  goes labels Subtract on known clean = goes_ints Subtract 2 1 refl refl clean
  goes labels (InvokeStatic k) on known clean = goes_call k (call_effect_of program callee) refl (known on) clean
  goes labels Return on known clean = absurd (false≢true on)
  goes labels Other on known clean = absurd (false≢true on)

-- ---- what stands at a pc

record Stands (code : Code) (pc next : ℕ) (operation : Operation) : Type 0 where
  insn : Insn
  is : insn_at code pc ≡ Some (record { pc = pc; insn = insn; next = next })
  acts : Does insn operation

stands_in : (pc next : ℕ) (operation : Operation) (b : Bool) (r : Result (Insn × ℕ) InsnFault) → cond {A = Option (Operation × ℕ)} b (as_operation r) None ≡ Some (operation, next)
    → (insn : Insn) × (cond {A = Option Placed} b (as_placed pc r) None ≡ Some (record { pc = pc; insn = insn; next = next })) × Does insn operation
stands_in pc next operation false r e = absurd (none-some _ e)
stands_in pc next operation true (Err fault) e = absurd (none-some _ e)
stands_in pc next operation true (Ok (insn, behind)) e =
    let same = some_pair_parts (operation_of insn) operation behind next e in
    (insn, ap (λ (n : ℕ). Some (record { pc = pc; insn = insn; next = n })) same.1, subst (λ (o : Operation). Does insn o) same.0 (does insn))

stands : (code : Code) (pc next : ℕ) (operation : Operation) → operation_in (Some code) pc ≡ Some (operation, next) → Stands code pc next operation
stands code pc next operation e =
    let found = stands_in pc next operation (nat_lt (length code.bytes) (2 ^ 16)) (decoded code.bytes pc) e in
    record { insn = found.0; is = found.1; acts = found.2 }

-- ---- paths have a first one

-- what comes before it comes to an end
data Ends {A : Type 0} (R : A → A → Type 0) : A → Type 0 where
  ends_with : (y : A) → ((x : A) → R x y → Ends R x) → Ends R y

below_ends : (n k : ℕ) → k < n → Ends ◌<◌ k
below_ends zero k less = absurd (omega arith)
below_ends (suc n) k less = ends_with k (λ j lower. below_ends n j (omega (arith, less, lower)))

pcs_end : (n : ℕ) → Ends ◌<◌ n
pcs_end n = below_ends (suc n) n (omega arith)

plain_ends : Ends IsPlainAlone false
plain_ends = ends_with false (λ x less. absurd (false≢true less.1))

rows_end : (b : Bool) → Ends IsPlainAlone b
rows_end false = plain_ends
rows_end true = ends_with true (λ x less. subst (λ (b : Bool). Ends IsPlainAlone b) (sym less.0) plain_ends)

module _ {A : Type 0} (R : A → A → Type 0) (all : (x : A) → Ends R x) where
  with_head : (ys : List A) → ((zs : List A) → IsLess R zs ys → (z : A) → Ends (IsLess R) (z ∷ zs)) → (y : A) → Ends R y → Ends (IsLess R) (y ∷ ys)
  with_head ys tails y (ends_with _ heads) = ends_with (y ∷ ys) (λ zs less. by_case (λ z lower. with_head ys tails z (heads z lower)) zs less)
    where
      by_case : ((z : A) → R z y → Ends (IsLess R) (z ∷ ys)) → (zs : List A) → IsLess R zs (y ∷ ys) → Ends (IsLess R) zs
      by_case again [] less = absurd less
      by_case again (z ∷ zs) (inl less) = tails zs less z
      by_case again (z ∷ zs) (inr less) = subst (λ (rest : List A). Ends (IsLess R) (z ∷ rest)) (sym less.0) (again z less.1)

  with_tail : (ys : List A) → Ends (IsLess R) ys → (y : A) → Ends (IsLess R) (y ∷ ys)
  with_tail ys (ends_with _ tails) y = with_head ys (λ zs less z. with_tail zs (tails zs less) z) y (all y)

  lists_end : (ys : List A) → Ends (IsLess R) ys
  lists_end [] = ends_with [] (λ zs less. nothing zs less)
    where
      nothing : (zs : List A) → IsLess R zs [] → Ends (IsLess R) zs
      nothing [] less = absurd less
      nothing (z ∷ zs) less = absurd less
  lists_end (y ∷ ys) = with_tail ys (lists_end ys) y

module _ (n : ℕ) (shorter_end : (q : List Step) → length q < n → Ends IsBefore q) where
  by_handlers : (xs : List ℕ) → ((ys : List ℕ) → IsLess ◌<◌ ys xs → (q : List Step) → pcs_of q ≡ ys → length q < suc n → Ends IsBefore q)
      → (hs : List Bool) → Ends (IsLess IsPlainAlone) hs → (p : List Step) → pcs_of p ≡ xs → handlers_of p ≡ hs → length p < suc n → Ends IsBefore p
  by_handlers xs lower hs (ends_with _ handlers) p pcs_are hs_are less =
      ends_with p (λ q before. by_case (λ q lesser are long. by_handlers xs lower (handlers_of q) (handlers (handlers_of q) lesser) q are refl long) q before)
    where
      same_length : (q : List Step) → pcs_of q ≡ pcs_of p → length q ≡ length p
      same_length q same = sym (length-map q (λ (step : Step). step.pc)) ∙ ap length same ∙ length-map p (λ (step : Step). step.pc)

      by_case : ((q : List Step) → IsLess IsPlainAlone (handlers_of q) hs → pcs_of q ≡ xs → length q < suc n → Ends IsBefore q) → (q : List Step) → IsBefore q p → Ends IsBefore q
      by_case again q (shorter fewer) = shorter_end q (omega (arith, fewer, less))
      by_case again q (by_pcs same lesser) = lower (pcs_of q) (subst (λ (ys : List ℕ). IsLess ◌<◌ (pcs_of q) ys) pcs_are lesser) q refl (omega (arith, same, less))
      by_case again q (by_rows same lesser) =
          let long = same_length q same in
          again q (subst (λ (bs : List Bool). IsLess IsPlainAlone (handlers_of q) bs) hs_are lesser) (same ∙ pcs_are) (omega (arith, long, less))

  by_places : (xs : List ℕ) → Ends (IsLess ◌<◌) xs → (p : List Step) → pcs_of p ≡ xs → length p < suc n → Ends IsBefore p
  by_places xs (ends_with _ pcs) p pcs_are less =
      by_handlers xs (λ ys lesser q are below. by_places ys (pcs ys lesser) q are below) (handlers_of p) (lists_end IsPlainAlone rows_end (handlers_of p)) p pcs_are refl less

paths_below_end : (n : ℕ) (p : List Step) → length p < n → Ends IsBefore p
paths_below_end zero p less = absurd (omega arith)
paths_below_end (suc n) p less = by_places n (paths_below_end n) (pcs_of p) (lists_end ◌<◌ pcs_end (pcs_of p)) p refl less

paths_end : (p : List Step) → Ends IsBefore p
paths_end p = paths_below_end (suc (length p)) p (omega arith)

-- where there is a path of some sort, it can't be that none of that sort is first
never_none : (P : List Step → Type 0) (p : List Step) → Ends IsBefore p → P p → ((f : List Step) → P f → ((q : List Step) → P q → IsBefore q f → ⊥) → ⊥) → ⊥
never_none P p (ends_with _ before) is unmet = unmet p is (λ q is_q less. never_none P q (before q less) is_q unmet)

-- ---- the path of plain code

is_typing : (program : Program) (t : Typable) (n : ℕ) (p : List Step) → PathWithin program t n p → TypingPath program t p
is_typing program t zero p h = subst (λ (q : List Step). TypingPath program t q) (sym h) refl
is_typing program t (suc n) p (inl h) = is_typing program t n p h
is_typing program t (suc n) p (inr h) = subst (λ (k : ℕ). PathWithin program t k p) (sym h.0) (inr h)

within_more : (program : Program) (t : Typable) (p : List Step) (n : ℕ) → PathWithin program t n p → (more : ℕ) → PathWithin program t (more + n) p
within_more program t p n h zero = let same : n ≡ 0 + n = omega arith in subst (λ (k : ℕ). PathWithin program t k p) same h
within_more program t p n h (suc more) =
    let same : suc (more + n) ≡ suc more + n = omega arith in
    subst (λ (k : ℕ). PathWithin program t k p) same (one_more (more + n) (within_more program t p n h more))
  where
    one_more : (k : ℕ) → PathWithin program t k p → PathWithin program t (suc k) p
    one_more k is = inl is

module _ (program : Program) (labels : Labels) (m : ℕ) (method : Method) (code : Code) (found : method_at program m ≡ Some method) (has : method.code ≡ Some code)
    (natives : AllByRecursion (IsLabelledNative program labels) labels.labelled) (plain : IsPlainFrom program labels m code 0) (typed : IsTypedMethod program m) where
  abbrev subject : Typable
  subject = record { number = m; method = method; code = code }

  has_code : code_at program m ≡ Some code
  has_code = ap (option_and_then (λ (x : Method). x.code)) found ∙ has

  stands_at : (pc next : ℕ) (operation : Operation) → operation_at program m pc ≡ Some (operation, next) → Stands code pc next operation
  stands_at pc next operation e = stands code pc next operation (ap (λ (c : Option Code). operation_in c pc) (sym has_code) ∙ e)

  successors_are : (pc next : ℕ) (operation : Operation) (b : Bool) → (at : Stands code pc next operation) → jumps_of code.bytes at.insn ≡ [] → falls_through at.insn ≡ b
      → successors_at code pc ≡ cond b (pos next ∷ []) []
  successors_are pc next operation b at jumps falls =
      ap (λ (o : Option Placed). elim o [ Some placed ↦ successors code placed | None ↦ [] ]) at.is
      ∙ ap (λ (by : List ℤ). map (λ (z : ℤ). pos pc +ℤ z) by ++ cond (falls_through at.insn) (pos next ∷ []) []) jumps
      ∙ ap (λ (c : Bool). cond {A = List ℤ} c (pos next ∷ []) []) falls

  -- ---- it meets no fault

  no_fault_at : (path : List Step) → TypingPath program subject path → (fault : TypeCode) → MeetsAtEnd program subject path fault → ⊥
  no_fault_at path is fault meets = typed (arrives_at path) fault (record { typable = subject; is_typable = (refl, found, has); path = path; is_path = is; arrives = refl; meets = meets })

  steady : (path : List Step) → TypingPath program subject path → ends_at program subject (arrives_at path) (height_of program subject path) ≡ false
  steady path is =
      let under = false_from_ne_true (underflows program subject (arrives_at path) (height_of program subject path)) (no_fault_at path is Underflow) in
      let over = false_from_ne_true (overflows program subject (arrives_at path) (height_of program subject path)) (no_fault_at path is Overflow) in
      let off = false_from_ne_true (falls_off code (arrives_at path)) (no_fault_at path is FallsOff) in
      or_from _ _ (or_from _ _ under over) off

  first_below : (path f : List Step) → TypingPath program subject path → IsFirst (TypingPath program subject) (arrives_at path) f → length f ≤ length path
  first_below path f is first =
      elim (cases_lt (length path) (length f)) [
        | inl fewer ↦ absurd (first.first path is refl (shorter fewer))
        | inr low ↦ low
      ]

  first_within : (path f : List Step) → TypingPath program subject path → IsFirst (TypingPath program subject) (arrives_at path) f
      → IsFirst (PathWithin program subject (length path)) (arrives_at path) f
  first_within path f is first =
      let low = first_below path f is first in
      record {
        is_path = subst (λ (k : ℕ). PathWithin program subject k f) (omega (arith, low)) (within_more program subject f (length f) first.is_path (length path - length f));
        arrives = first.arrives;
        first = λ other within to before. first.first other (is_typing program subject (length path) other within) to before;
      }

  -- the first path that arrives there does with the same height
  same_height : (path f : List Step) → TypingPath program subject path → IsFirst (TypingPath program subject) (arrives_at path) f → height_of program subject f ≡ height_of program subject path
  same_height path f is first =
      elim (cases_order (height_of program subject f) (height_of program subject path)) [
        | inl same ↦ same
        | inr apart ↦ absurd (no_fault_at path is HeightDiffers (record { first = f; is_first = first; other_height = λ same. unequal (height_of program subject f) (height_of program subject path) apart same }))
      ]
    where
      unequal : (a b : ℕ) → (a < b) ⊎ (b < a) → a ≡ b → ⊥
      unequal a b (inl less) same = omega (arith, less, same)
      unequal a b (inr more) same = omega (arith, more, same)

  -- it goes on, as it can't be that no path arrives there first
  prolonged : (path : List Step) (next : ℕ) → TypingPath program subject path → Contains (successors_at code (arrives_at path)) (pos next)
      → (TypingPath program subject (record { pc = next; row = None } ∷ path) → ⊥) → ⊥
  prolonged path next is takes never =
      never_none (λ (q : List Step). TypingPath program subject q × (arrives_at q ≡ arrives_at path)) path (paths_end path) (is, refl)
      (λ f of nothing. never (goes f (record { is_path = of.0; arrives = of.1; first = λ other within to before. nothing other (within, to) before })))
    where
      goes : (f : List Step) → IsFirst (TypingPath program subject) (arrives_at path) f → TypingPath program subject (record { pc = next; row = None } ∷ path)
      goes f first = inr (
        refl,
        record {
          is_path = is;
          goes_on = record {
            steady = steady path is;
            first = f;
            is_first = first_within path f is first;
            same_height = same_height path f is first;
          };
          takes = takes;
        },
      )

  -- ---- it goes on as plain code does

  record Stepped (path : List Step) (next : ℕ) (s : Shape) : Type 0 where
    shape : Shape
    typed_is : typed_at program m code (arrives_at path) s ≡ Some (record { next = Some next; shape = shape })
    on_path : (TypingPath program subject (record { pc = next; row = None } ∷ path) → ⊥) → ⊥
    alike : Alike shape (shape_of program subject (record { pc = next; row = None } ∷ path))
    count : length shape.locals ≡ code.max_locals

  module _ (path : List Step) (is : TypingPath program subject path) (next : ℕ) (operation : Operation) (at : operation_at program m (arrives_at path) ≡ Some (operation, next))
      (on : goes_on labels (callee_at program m (arrives_at path)) operation ≡ true) where
    abbrev callee : Option ℕ
    callee = callee_of program m (Some (operation, next))

    abbrev effect : Effect
    effect = effect_for (call_effect_of program callee) operation

    named : callee_at program m (arrives_at path) ≡ callee
    named = callee_at-found program m (arrives_at path) (Some (operation, next)) at

    goes_there : goes_on labels callee operation ≡ true
    goes_there = subst (λ (c : Option ℕ). goes_on labels c operation ≡ true) named on

    there : Stands code (arrives_at path) next operation
    there = stands_at (arrives_at path) next operation at

    effect_there : effect_at program subject (arrives_at path) ≡ effect
    effect_there = ap (λ (o : Option Placed). effect_in program subject o) there.is ∙ effect_is program labels natives m next method there.insn operation there.acts goes_there

    clean : Clean program code effect (shape_of program subject path)
    clean =
        let u = shape_of program subject path in
        let Under : Effect → Type 0 = λ e. nat_lt (length u.stack) (length e.pops) ≡ false in
        let Wrong : Effect → Type 0 = λ e. (e.wrong || not (all_pass program e.pops u.stack) || not (local_passes program u e.reads) || list_any (catches_wrong program (arrives_at path)) code.rows) ≡ false in
        let Outside : Effect → Type 0 = λ e. (not (is_local code e.reads) || not (is_written_local code e.writes)) ≡ false in
        let under = subst Under effect_there (false_from_ne_true (underflows program subject (arrives_at path) (height_of program subject path)) (no_fault_at path is Underflow)) in
        let wrong = subst Wrong effect_there (false_from_ne_true (wrong_kind program subject (arrives_at path) u) (no_fault_at path is WrongKind)) in
        let outside = subst Outside effect_there (false_from_ne_true (out_of_range program subject (arrives_at path)) (no_fault_at path is LocalRange)) in
        let first_parts = or_parts (effect.wrong || not (all_pass program effect.pops u.stack) || not (local_passes program u effect.reads)) (list_any (catches_wrong program (arrives_at path)) code.rows) wrong in
        let parts = three_parts effect.wrong (not (all_pass program effect.pops u.stack)) (not (local_passes program u effect.reads)) first_parts.0 in
        let ranges = or_parts (not (is_local code effect.reads)) (not (is_written_local code effect.writes)) outside in
        record {
          there = ltb-false (length u.stack) (length effect.pops) under;
          pass = not-false (all_pass program effect.pops u.stack) parts.1;
          local = not-false (is_local code effect.reads) ranges.0;
          reads = not-false (local_passes program u effect.reads) parts.2;
          written = not-false (is_written_local code effect.writes) ranges.1;
        }

    leads_to : successors_at code (arrives_at path) ≡ pos next ∷ []
    leads_to =
        let way = ways code.bytes callee labels there.insn operation there.acts goes_there in
        successors_are (arrives_at path) next operation true there way.0 way.1

    inside : next < length code.bytes
    inside =
        let off = false_from_ne_true (falls_off code (arrives_at path)) (no_fault_at path is FallsOff) in
        let parts = three_parts (not (is_some (insn_at code (arrives_at path)))) (leads_outside code (successors_at code (arrives_at path))) (list_any (handler_outside code (arrives_at path)) code.rows) off in
        let here : leads_outside code (pos next ∷ []) ≡ false = subst (λ (ways : List ℤ). leads_outside code ways ≡ false) leads_to parts.1 in
        inside_below code next (or_parts (not (is_inside code (pos next))) false here).0

    low : length (after program effect (shape_of program subject path)).stack ≤ code.max_stack
    low =
        let u = shape_of program subject path in
        let Over : Effect → Type 0 = λ e. (nat_lt code.max_stack (height_after e (length u.stack)) || (is_covered code (arrives_at path) && code.max_stack == 0)) ≡ false in
        let over = subst Over effect_there (false_from_ne_true (overflows program subject (arrives_at path) (height_of program subject path)) (no_fault_at path is Overflow)) in
        let below = ltb-false code.max_stack (height_after effect (length u.stack)) (or_parts (nat_lt code.max_stack (height_after effect (length u.stack))) (is_covered code (arrives_at path) && code.max_stack == 0) over).0 in
        let same = heights_after program effect u in
        omega (arith, below, same)

    takes_next : Contains (successors_at code (arrives_at path)) (pos next)
    takes_next = subst (λ (ways : List ℤ). Contains ways (pos next)) (sym leads_to) (0, omega arith, refl)

    stepped : (s : Shape) → Alike s (shape_of program subject path) → length s.locals ≡ code.max_locals → Stepped path next s
    stepped s alike count =
        let u = shape_of program subject path in
        let g = goes program code callee s u alike count labels operation goes_there (known_effect program labels natives callee) clean in
        let high : length g.shape.stack ≤ code.max_stack = let same : length g.shape.stack ≡ length (after program effect u).stack = ap length g.alike.stack in let l = low in omega (arith, l, same) in
        let returns_not : operation ≡ Return → ⊥ = λ e. false≢true (subst (λ (o : Operation). goes_on labels callee o ≡ true) e goes_there) in
        record {
          shape = g.shape;
          typed_is = typed_at-leads program m code (arrives_at path) next operation callee s at named g.shape g.made ∙ leads_on-next_pc code operation next g.shape returns_not inside high;
          on_path = prolonged path next is takes_next;
          alike = subst (λ (e : Effect). Alike g.shape (after program e u)) (sym effect_there) g.alike;
          count = g.count ∙ count;
        }

  ends : (pc next : ℕ) (s : Shape) → operation_at program m pc ≡ Some (Return, next) → typed_at program m code pc s ≡ Some (record { next = None; shape = s })
  ends pc next s at =
      typed_at-leads program m code pc next Return (callee_of program m (Some (Return, next))) s at (callee_at-found program m pc (Some (Return, next)) at) s refl ∙ leads_on-return code Return next s refl

  -- a typing path that comes where a path of plain code does
  record Followed (pc : ℕ) (s : Shape) : Type 0 where
    path : List Step
    is_path : TypingPath program subject path
    arrives : arrives_at path ≡ pc
    on : IsPlainFrom program labels m code pc
    alike : Alike s (shape_of program subject path)
    count : length s.locals ≡ code.max_locals

  goes_along : (path : List Step) (pc next : ℕ) (s : Shape) (then_at : After) → TypingPath program subject path → arrives_at path ≡ pc → Alike s (shape_of program subject path) → length s.locals ≡ code.max_locals
      → IsPlainFrom program labels m code pc → typed_at program m code pc s ≡ Some then_at → then_at.next ≡ Some next → (Followed next then_at.shape → ⊥) → ⊥
  goes_along path pc next s then_at is to alike count (last here end at stop) e f never =
      absurd (none-some next (ap (λ (a : After). a.next) (same_Some _ then_at (sym (ends pc end s at) ∙ e)) ∙ f))
  goes_along path pc next s then_at is to alike count (then here end operation at on more) e f never =
      let at_path : operation_at program m (arrives_at path) ≡ Some (operation, end) = ap (operation_at program m) to ∙ at in
      let on_there : goes_on labels (callee_at program m (arrives_at path)) operation ≡ true = ap (λ (n : ℕ). goes_on labels (callee_at program m n) operation) to ∙ on in
      let step = stepped path is end operation at_path on_there s alike count in
      let same : record { next = Some end; shape = step.shape } ≡ then_at = same_Some _ then_at (sym step.typed_is ∙ ap (λ (n : ℕ). typed_at program m code n s) to ∙ e) in
      let shapes : step.shape ≡ then_at.shape = ap (λ (a : After). a.shape) same in
      let there : end ≡ next = same_Some end next (ap (λ (a : After). a.next) same ∙ f) in
      step.on_path (λ longer. never (record {
        path = record { pc = end; row = None } ∷ path;
        is_path = longer;
        arrives = there;
        on = subst (λ (n : ℕ). IsPlainFrom program labels m code n) there more;
        alike = subst (λ (x : Shape). Alike x (shape_of program subject (record { pc = end; row = None } ∷ path))) shapes step.alike;
        count = subst (λ (x : Shape). length x.locals ≡ code.max_locals) shapes step.count;
      }))

  module _ (is_static : has_flag static_flag method.flags ≡ true) (entry : is_entry_desc method.desc ≡ true) where
    follow : {pc : ℕ} {s : Shape} → Arrives program m code pc s → (Followed pc s → ⊥) → ⊥
    follow at_start never = never (record {
      path = [];
      is_path = refl;
      arrives = refl;
      on = plain;
      alike = record { stack = refl; locals = start_alike program method code.max_locals is_static entry };
      count = length-replicate code.max_locals Unset;
    })
    follow (by_step pc next s then_at h e f) never =
        follow h (λ before. goes_along before.path pc next s then_at before.is_path before.arrives before.alike before.count before.on e f never)

    goes_or_ends : (path : List Step) (pc : ℕ) (s : Shape) → TypingPath program subject path → arrives_at path ≡ pc → Alike s (shape_of program subject path) → length s.locals ≡ code.max_locals
        → IsPlainFrom program labels m code pc → IsSome (typed_at program m code pc s)
    goes_or_ends path pc s is to alike count (last here end at stop) = ap is_some (ends pc end s at)
    goes_or_ends path pc s is to alike count (then here end operation at on more) =
        let at_path : operation_at program m (arrives_at path) ≡ Some (operation, end) = ap (operation_at program m) to ∙ at in
        let on_there : goes_on labels (callee_at program m (arrives_at path)) operation ≡ true = ap (λ (n : ℕ). goes_on labels (callee_at program m n) operation) to ∙ on in
        let step = stepped path is end operation at_path on_there s alike count in
        ap is_some (ap (λ (n : ℕ). typed_at program m code n s) (sym to) ∙ step.typed_is)

    no_fault_there : (pc : ℕ) (s : Shape) → ((Followed pc s → ⊥) → ⊥) → IsSome (typed_at program m code pc s)
    no_fault_there pc s followed = by_test (is_some (typed_at program m code pc s)) refl
      where
        by_test : (b : Bool) → is_some (typed_at program m code pc s) ≡ b → b ≡ true
        by_test true e = refl
        by_test false e = absurd (followed (λ f. false≢true (sym e ∙ goes_or_ends f.path pc s f.is_path f.arrives f.alike f.count f.on)))

    typed_code : IsTypedCode program m code
    typed_code = record { no_fault = λ pc s h. no_fault_there pc s (follow h); one_height = λ pc s t h i. one_height program m code h i }

-- The entry's code is typed as plain code where it is plain and its method is typed.
pub plain_typed : (program : Program) (labels : Labels) (code : Code) → IsWellLabelled program labels → code_at program labels.entry ≡ Some code → IsPlainFrom program labels labels.entry code 0
    → IsTypedMethod program labels.entry → IsTypedCode program labels.entry code
plain_typed program labels code well at plain typed =
    let entry = well.entry in
    let has : entry.method.code ≡ Some code = sym (ap (option_and_then (λ (x : Method). x.code)) entry.found) ∙ at in
    typed_code program labels labels.entry entry.method code entry.found has well.natives plain typed entry.is_static entry.shape
