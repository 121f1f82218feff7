-- An instruction goes on where typing's paths do.
use Rattle.std.proofs.Common.{◌≡◌, ◌⊎◌, ◌∙◌, ℕ, Bool, true, false, not, ◌||◌, ℤ, pos, negsuc, List, [], ◌∷◌, ◌++◌, map, Option, Some, None, refl, sym, ap, subst, inl, inr, arith}
use Rattle.std.specs.Prelude.{◌==◌, nat_le, ◌+◌, drop, if◌then◌else◌, ◌-ℤ◌, ◌+ℤ◌, ◌-◌, int_le, unsigned_abs, zip, option_map, option_and_then, Contains}
use Rattle.std.specs.List.{list_any}
use Rattle.std.proofs.lemmas.Bool.{cases_eq, and_parts, or_parts, or_cases, not-false, eqb-true, leb-true}
use Rattle.std.proofs.lemmas.List.Elements.{Contains-append_left, Contains-append_right}
use Rattle.jo_text.specs.declared.descriptors.FieldDesc.{FieldDesc}
use Rattle.jo_text.specs.declared.descriptors.MethodDesc.{MethodDesc}
use Rattle.jo_insn.specs.declared.instructions.Insn.{Insn}
use Rattle.jo_insn.specs.declared.instructions.Insn.TheVariants.{Plain, Local, Iinc, Push, Pooled, Array, Jump, TableSwitch, LookupSwitch}
use Rattle.jo_insn.specs.declared.jumps.Placed.{Placed}
use Rattle.jo_insn.specs.Instructions.{offsets_between, keys_of}
use Rattle.jo_insn.specs.Jumps.{offsets_of, jumps_of, targets_of}
use Rattle.jo_prog.specs.declared.program.Program.{Program}
use Rattle.jo_prog.specs.declared.program.Code.{Code}
use Rattle.jo_prog.specs.declared.program.TypeRef.{TypeRef}
use Rattle.jo_prog.specs.declared.program.TypeRef.TheVariants.{Class as OfClass, Array as OfArray}
use Rattle.jo_prog.specs.declared.program.MemberRef.{MemberRef}
use Rattle.jo_prog.specs.declared.program.Operand.{Operand}
use Rattle.jo_prog.specs.declared.program.Operand.TheVariants.{Unused, Int as IntOperand, Text, OfType, Member}
use Rattle.jo_prog.specs.Program.{method_at, operand_at}
use Rattle.jo_prog.specs.MethodTypes.{field_desc_in, method_desc_in}
use Rattle.jo_prog.specs.Operations.{within}
use Rattle.jo_prog.specs.InsnTyping.{insn_at, falls_through, successors, is_inside}
use Rattle.jo_prog.specs.TypingPaths.{successors_of, successors_at, leads_outside}
use Rattle.jo_prog.proofs.WalkLemmas.{here, behind, head_or_behind, none_there}
use Rattle.machine.specs.Instructions as code
use Rattle.machine.specs.Instructions.{Instruction, result_of, returned, is_element_load, is_element_store, plain_instruction, local_instruction, pc_behind, jump_instruction, keys_from, cases_of, element_type, field_named, method_named, field_instruction, values_taken, names_field, names_method, names_member, names_type, pooled_instruction, method_desc, instruction_of}
use Rattle.step_laws.specs.Effects.{JumpsTo}
use Rattle.step_laws.proofs.TypeLemmas.{never, same_some}
use Rattle.kept_laws.specs.Going.{goes_elsewhere, LeadsOn}

-- ---- lists

none_of : {X : Type 0} (P : X → Bool) (xs : List X) (x : X) → list_any P xs ≡ false → Contains xs x → P x ≡ false
none_of P [] x h c = absurd (none_there x c)
none_of P (y ∷ ys) x h c = elim (head_or_behind y ys x c) [
  | inl e ↦ subst (λ z. P z ≡ false) e (or_parts (P y) (list_any P ys) h).0
  | inr more ↦ none_of P ys x (or_parts (P y) (list_any P ys) h).1 more
]

mapped : {X Y : Type 0} (f : X → Y) (xs : List X) (x : X) → Contains xs x → Contains (map f xs) (f x)
mapped f [] x c = absurd (none_there x c)
mapped f (y ∷ ys) x c = elim (head_or_behind y ys x c) [
  | inl e ↦ subst (λ z. Contains (f y ∷ map f ys) (f z)) e (here (f y) (map f ys))
  | inr more ↦ behind (f y) (map f ys) (f x) (mapped f ys x more)
]

mapped_from : {X Y : Type 0} (f : X → Y) (xs : List X) (y : Y) → Contains (map f xs) y → (x : X) × Contains xs x × (f x ≡ y)
mapped_from f [] y c = absurd (none_there y c)
mapped_from f (x ∷ xs) y c = elim (head_or_behind (f x) (map f xs) y c) [
  | inl e ↦ (x, here x xs, e)
  | inr more ↦ let found = mapped_from f xs y more in (found.0, behind x xs found.0 found.1, found.2)
]

second_of : {X Y : Type 0} (xs : List X) (ys : List Y) (y : Y) → Contains (map (λ (row : X × Y). row.1) (zip xs ys)) y → Contains ys y
second_of [] ys y c = absurd (none_there y c)
second_of (x ∷ xs) [] y c = absurd (none_there y c)
second_of {X = X} {Y = Y} (x ∷ xs) (z ∷ zs) y c = elim (head_or_behind z (map (λ (row : X × Y). row.1) (zip xs zs)) y c) [
  | inl e ↦ subst (λ w. Contains (z ∷ zs) w) e (here z zs)
  | inr more ↦ behind z zs y (second_of xs zs y more)
]

-- ---- the instruction by its opcode

pub by_if : {Q : Type 0} {i : Instruction} (b : Bool) {x rest : Option Instruction} → (if b then x else rest) ≡ Some i → (x ≡ Some i → Q) → (rest ≡ Some i → Q) → Q
by_if true e f g = f e
by_if false e f g = g e

-- it jumps nowhere
abbrev NoJump : Instruction → Type 0
NoJump i = (at : ℕ) → JumpsTo i at → ⊥

quiet : (x i : Instruction) → NoJump x → Some x ≡ Some i → NoJump i
quiet x i h e = subst NoJump (same_some e) h

returned_quiet : (o : Option FieldDesc) (i : Instruction) → returned o ≡ Some i → NoJump i
returned_quiet None i e = absurd (cc)
returned_quiet (Some type) i e = quiet (code.returns_value type) i (λ at h. h) e

plain_quiet : (type : Option MethodDesc) (op : ℕ) (i : Instruction) → plain_instruction type op ≡ Some i → NoJump i
plain_quiet type op i e =
    by_if (op == 0) e (quiet code.passes i (λ at h. h)) (λ e1.
    by_if (op == 1) e1 (quiet code.pushes_null i (λ at h. h)) (λ e2.
    by_if (within 2 8 op) e2 (quiet (code.pushes_int (pos op -ℤ pos 3)) i (λ at h. h)) (λ e3.
    by_if (within 26 29 op) e3 (quiet (code.loads (op - 26)) i (λ at h. h)) (λ e4.
    by_if (within 42 45 op) e4 (quiet (code.loads (op - 42)) i (λ at h. h)) (λ e5.
    by_if (is_element_load op) e5 (quiet code.loads_element i (λ at h. h)) (λ e6.
    by_if (within 59 62 op) e6 (quiet (code.stores (op - 59)) i (λ at h. h)) (λ e7.
    by_if (within 75 78 op) e7 (quiet (code.stores (op - 75)) i (λ at h. h)) (λ e8.
    by_if (is_element_store op) e8 (quiet code.stores_element i (λ at h. h)) (λ e9.
    by_if (within 87 95 op) e9 (quiet (code.shuffles op) i (λ at h. h)) (λ e10.
    by_if (op == 116) e10 (quiet code.negates i (λ at h. h)) (λ e11.
    by_if (within 96 130 op) e11 (quiet (code.computes op) i (λ at h. h)) (λ e12.
    by_if (within 145 147 op) e12 (quiet (code.narrows op) i (λ at h. h)) (λ e13.
    by_if (op == 172 || op == 176) e13 (returned_quiet (result_of type) i) (λ e14.
    by_if (op == 177) e14 (quiet code.returns_nothing i (λ at h. h)) (λ e15.
    by_if (op == 190) e15 (quiet code.measures i (λ at h. h)) (λ e16.
    by_if (op == 191) e16 (quiet code.throws i (λ at h. h)) (λ e17. absurd (cc))))))))))))))))))

local_quiet : (op k : ℕ) (i : Instruction) → local_instruction op k ≡ Some i → NoJump i
local_quiet op k i e = by_if (op == 21 || op == 25) e (quiet (code.loads k) i (λ at h. h)) (quiet (code.stores k) i (λ at h. h))

-- ---- what the pool names doesn't jump

mapped_quiet : {X : Type 0} (o : Option X) (f : X → Instruction) (i : Instruction) → ((x : X) → NoJump (f x)) → option_map f o ≡ Some i → NoJump i
mapped_quiet None f i h e = absurd (cc)
mapped_quiet (Some x) f i h e = quiet (f x) i (h x) e

then_quiet : {X : Type 0} (o : Option X) (f : X → Option Instruction) (i : Instruction) → ((x : X) → f x ≡ Some i → NoJump i) → option_and_then f o ≡ Some i → NoJump i
then_quiet None f i h e = absurd (cc)
then_quiet (Some x) f i h e = h x e

field_quiet : (op field : ℕ) (type : FieldDesc) → NoJump (field_instruction op field type)
field_quiet op field type = by_tests (op == 178) (op == 179) (op == 180)
  where
    by_tests : (a b c : Bool) → NoJump (if a then code.gets_static field else if b then code.puts_static field type else if c then code.gets_field field else code.puts_field field type)
    by_tests true b c = λ at h. h
    by_tests false true c = λ at h. h
    by_tests false false true = λ at h. h
    by_tests false false false = λ at h. h

module _ (program : Program) where
  member_quiet : (op : ℕ) (ref : MemberRef) (i : Instruction) → names_member program op ref ≡ Some i → NoJump i
  member_quiet op ref i e = by_if (within 178 181 op) e
      (then_quiet (field_named program ref) (λ field. option_map (λ type. field_instruction op field type) (field_desc_in ref.desc)) i
      (λ field. mapped_quiet (field_desc_in ref.desc) (λ type. field_instruction op field type) i (λ type. field_quiet op field type)))
      (then_quiet (method_named program ref) (λ method. option_map (λ (type : MethodDesc). code.calls op ref.owner method (values_taken op type)) (method_desc_in ref.desc)) i
      (λ method. mapped_quiet (method_desc_in ref.desc) (λ (type : MethodDesc). code.calls op ref.owner method (values_taken op type)) i (λ type at h. h)))

  type_quiet : (op : ℕ) (type : TypeRef) (i : Instruction) → names_type program op type ≡ Some i → NoJump i
  type_quiet op (OfClass c) i e =
      by_if (op == 187) e (quiet (code.creates c) i (λ at h. h)) (λ e1.
      by_if (op == 189) e1 (quiet (code.creates_array (element_type program (OfClass c))) i (λ at h. h)) (λ e2.
      by_if (op == 192) e2 (quiet (code.casts (OfClass c)) i (λ at h. h)) (λ e3.
      by_if (op == 193) e3 (quiet (code.checks (OfClass c)) i (λ at h. h)) (λ e4. absurd (cc)))))
  type_quiet op (OfArray desc) i e =
      by_if (op == 187) e (λ e0. absurd (cc)) (λ e1.
      by_if (op == 189) e1 (quiet (code.creates_array (element_type program (OfArray desc))) i (λ at h. h)) (λ e2.
      by_if (op == 192) e2 (quiet (code.casts (OfArray desc)) i (λ at h. h)) (λ e3.
      by_if (op == 193) e3 (quiet (code.checks (OfArray desc)) i (λ at h. h)) (λ e4. absurd (cc)))))

  pooled_quiet : (op : ℕ) (operand : Option Operand) (i : Instruction) → pooled_instruction program op operand ≡ Some i → NoJump i
  pooled_quiet op None i e = absurd (cc)
  pooled_quiet op (Some Unused) i e = absurd (cc)
  pooled_quiet op (Some (IntOperand z)) i e = quiet (code.pushes_int z) i (λ at h. h) e
  pooled_quiet op (Some (Text text)) i e = quiet (code.pushes_text text) i (λ at h. h) e
  pooled_quiet op (Some (OfType type)) i e = type_quiet op type i e
  pooled_quiet op (Some (Member ref)) i e = member_quiet op ref i e

-- ---- jumps

jump_at : (op target : ℕ) (i : Instruction) (at : ℕ) → jump_instruction op target ≡ Some i → JumpsTo i at → at ≡ target
jump_at op target i at e =
    by_if (within 153 158 op) e (along (code.tests op target) (λ h. h)) (λ e1.
    by_if (within 159 164 op) e1 (along (code.compares op target) (λ h. h)) (λ e2.
    by_if (within 165 166 op) e2 (along (code.compares_references op target) (λ h. h)) (λ e3.
    by_if (within 198 199 op) e3 (along (code.tests_null op target) (λ h. h)) (along (code.jumps_to target) (λ h. h)))))
  where
    along : (x : Instruction) → (JumpsTo x at → at ≡ target) → Some x ≡ Some i → JumpsTo i at → at ≡ target
    along x h e = subst (λ (y : Instruction). JumpsTo y at → at ≡ target) (same_some e) h

-- a jump leads to one of the distances
abbrev IsAmong : ℕ → List ℤ → ℕ → Type 0
IsAmong pc distances at = (by : ℤ) × Contains distances by × (pc_behind pc by ≡ at)

switched_at : (pc : ℕ) (keys offsets : List ℤ) (other : ℤ) (i : Instruction) (at : ℕ) → Some (code.switches (cases_of pc keys offsets) (pc_behind pc other)) ≡ Some i → JumpsTo i at
    → IsAmong pc (other ∷ offsets) at
switched_at pc keys offsets other i at e =
    subst (λ (y : Instruction). JumpsTo y at → IsAmong pc (other ∷ offsets) at) (same_some e) by_target
  where
    by_target : Contains (map (λ (row : ℤ × ℕ). row.1) (cases_of pc keys offsets)) at ⊎ (at ≡ pc_behind pc other) → IsAmong pc (other ∷ offsets) at
    by_target (inl c) =
        let found = mapped_from (pc_behind pc) offsets at (second_of keys (map (pc_behind pc) offsets) at c) in
        (found.0, behind other offsets found.0 found.1, found.2)
    by_target (inr e) = (other, here other offsets, sym e)

module _ (program : Program) (m : ℕ) (bytes : List ℕ) (pc : ℕ) where
  jumps_among : (insn : Insn) (i : Instruction) → instruction_of program m bytes pc insn ≡ Some i → (at : ℕ) → JumpsTo i at → IsAmong pc (jumps_of bytes insn) at
  jumps_among (Plain op) i e at h = absurd (plain_quiet (method_desc (method_at program m)) op i e at h)
  jumps_among (Local op k wide) i e at h = absurd (local_quiet op k i e at h)
  jumps_among (Iinc k by wide) i e at h = absurd (quiet (code.increments k by) i (λ x g. g) e at h)
  jumps_among (Push op value) i e at h = absurd (quiet (code.pushes_int value) i (λ x g. g) e at h)
  jumps_among (Pooled op index) i e at h = absurd (pooled_quiet program op (operand_at program m index) i e at h)
  jumps_among (Array kind) i e at h = absurd (quiet (code.creates_array (code.kind_type kind)) i (λ x g. g) e at h)
  jumps_among (Jump op by) i e at h = (by, here by [], sym (jump_at op (pc_behind pc by) i at e h))
  jumps_among (TableSwitch other low high table) i e at h =
      switched_at pc (keys_from low (offsets_between low high)) (offsets_of (offsets_between low high) 4 (drop table bytes)) other i at e h
  jumps_among (LookupSwitch other pairs table) i e at h =
      switched_at pc (keys_of pairs (drop table bytes)) (offsets_of pairs 8 (drop (table + 4) bytes)) other i at e h

  -- ---- what goes on behind itself

  away : (x i : Instruction) → goes_elsewhere x ≡ true → Some x ≡ Some i → goes_elsewhere i ≡ true
  away x i h e = subst (λ (y : Instruction). goes_elsewhere y ≡ true) (same_some e) h

  returned_away : (o : Option FieldDesc) (i : Instruction) → returned o ≡ Some i → goes_elsewhere i ≡ true
  returned_away None i e = absurd (cc)
  returned_away (Some type) i e = away (code.returns_value type) i refl e

  plain_away : (type : Option MethodDesc) (op : ℕ) (i : Instruction) → plain_instruction type op ≡ Some i → (op == 172 || within 176 177 op || op == 191) ≡ true → goes_elsewhere i ≡ true
  plain_away type op i e h = elim (or_cases (op == 172 || within 176 177 op) (op == 191) h) [
    | inl early ↦ elim (or_cases (op == 172) (within 176 177 op) early) [
      | inl is ↦ returned_away (result_of type) i (subst (λ (n : ℕ). plain_instruction type n ≡ Some i) (eqb-true op 172 is) e)
      | inr is ↦ by_two (within_two is)
    ]
    | inr is ↦ away code.throws i refl (subst (λ (n : ℕ). plain_instruction type n ≡ Some i) (eqb-true op 191 is) e)
  ]
    where
      within_two : within 176 177 op ≡ true → (op ≡ 176) ⊎ (op ≡ 177)
      within_two is =
          let both = and_parts (nat_le 176 op) (nat_le op 177) is in
          let low = leb-true 176 op both.0 in
          let high = leb-true op 177 both.1 in
          elim (cases_eq op 176) [ inl same ↦ inl same | inr other ↦ inr (omega (arith, low, high, other)) ]

      by_two : (op ≡ 176) ⊎ (op ≡ 177) → goes_elsewhere i ≡ true
      by_two (inl is) = returned_away (result_of type) i (subst (λ (n : ℕ). plain_instruction type n ≡ Some i) is e)
      by_two (inr is) = away code.returns_nothing i refl (subst (λ (n : ℕ). plain_instruction type n ≡ Some i) is e)

  jump_away : (op target : ℕ) (i : Instruction) → jump_instruction op target ≡ Some i → (op == 167 || op == 200) ≡ true → goes_elsewhere i ≡ true
  jump_away op target i e h = elim (or_cases (op == 167) (op == 200) h) [
    | inl is ↦ away (code.jumps_to target) i refl (subst (λ (n : ℕ). jump_instruction n target ≡ Some i) (eqb-true op 167 is) e)
    | inr is ↦ away (code.jumps_to target) i refl (subst (λ (n : ℕ). jump_instruction n target ≡ Some i) (eqb-true op 200 is) e)
  ]

  -- where a test means that it goes elsewhere, it fails
  by_stay : (b : Bool) (i : Instruction) → (b ≡ true → goes_elsewhere i ≡ true) → goes_elsewhere i ≡ false → not b ≡ true
  by_stay true i h stays = never (sym stays ∙ h refl)
  by_stay false i h stays = refl

  falls : (insn : Insn) (i : Instruction) → instruction_of program m bytes pc insn ≡ Some i → goes_elsewhere i ≡ false → falls_through insn ≡ true
  falls (Plain op) i e stays = by_stay (op == 172 || within 176 177 op || op == 191) i (plain_away (method_desc (method_at program m)) op i e) stays
  falls (Local op k wide) i e stays = refl
  falls (Iinc k by wide) i e stays = refl
  falls (Push op value) i e stays = refl
  falls (Pooled op index) i e stays = refl
  falls (Array kind) i e stays = refl
  falls (Jump op by) i e stays = by_stay (op == 167 || op == 200) i (jump_away op (pc_behind pc by) i e) stays
  falls (TableSwitch other low high table) i e stays = never (sym stays ∙ away _ i refl e)
  falls (LookupSwitch other pairs table) i e stays = never (sym stays ∙ away _ i refl e)

-- ---- the successors

not_negative : (z : ℤ) → int_le (pos 0) z ≡ true → pos (unsigned_abs z) ≡ z
not_negative (pos n) h = refl
not_negative (negsuc n) h = never h

pub leads_on : (program : Program) (m : ℕ) (of : Code) (placed : Placed) → insn_at of placed.pc ≡ Some placed → leads_outside of (successors_at of placed.pc) ≡ false
    → (i : Instruction) → instruction_of program m of.bytes placed.pc placed.insn ≡ Some i → LeadsOn of placed.pc placed.next i
leads_on program m of placed at inside i e = record { behind = goes_behind; jumps = jumps_there }
  where
    are : successors_at of placed.pc ≡ successors of placed
    are = ap (successors_of of) at

    goes_behind : goes_elsewhere i ≡ false → Contains (successors_at of placed.pc) (pos placed.next)
    goes_behind stays =
        let targets = targets_of of.bytes placed.pc placed.insn in
        subst (λ (zs : List ℤ). Contains zs (pos placed.next)) (sym are)
        (subst (λ (b : Bool). Contains (targets ++ (if b then pos placed.next ∷ [] else [])) (pos placed.next)) (sym (falls program m of.bytes placed.pc placed.insn i e stays))
        (Contains-append_right targets (pos placed.next ∷ []) (pos placed.next) (here (pos placed.next) [])))

    jumps_there : (target : ℕ) → JumpsTo i target → Contains (successors_at of placed.pc) (pos target)
    jumps_there target jumps =
        let found = jumps_among program m of.bytes placed.pc placed.insn i e target jumps in
        let z : ℤ = pos placed.pc +ℤ found.0 in
        let targets = targets_of of.bytes placed.pc placed.insn in
        let among : Contains (successors_at of placed.pc) z =
        subst (λ (zs : List ℤ). Contains zs z) (sym are)
        (Contains-append_left targets (if falls_through placed.insn then pos placed.next ∷ [] else []) z (mapped (λ by. pos placed.pc +ℤ by) (jumps_of of.bytes placed.insn) found.0 found.1)) in
        let within_code : is_inside of z ≡ true = not-false (is_inside of z) (none_of (λ target. not (is_inside of target)) (successors_at of placed.pc) z inside among) in
        let same : pos (unsigned_abs z) ≡ z = not_negative z (and_parts (int_le (pos 0) z) _ within_code).0 in
        subst (λ (y : ℤ). Contains (successors_at of placed.pc) y) (sym (ap (λ (n : ℕ). pos n) (sym found.2) ∙ same)) among
