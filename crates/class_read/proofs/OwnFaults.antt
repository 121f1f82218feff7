-- Reading fails with codes of its own, never with Memory, which says that a reader ran out of it.
use Rattle.std.proofs.Common.{◌≡◌, ℕ, zero, suc, ◌+◌, ◌==◌, nat_lt, Bool, true, false, ◌&&◌, ◌||◌, not, if◌then◌else◌, List, [], ◌∷◌, length, drop, Option, Some, None, Result, Ok, Err, refl, sym, subst}
use Rattle.byteorder.specs.Endian.{twos_complement}
use Rattle.jo_insn.specs.declared.instructions.Insn.{Insn}
use Rattle.jo_insn.specs.declared.instructions.Insn.TheVariants.{Pooled}
use Rattle.jo_insn.specs.declared.instructions.InsnFault.{InsnFault}
use Rattle.jo_insn.specs.declared.instructions.InsnFault.TheVariants as insn_faults
use Rattle.jo_insn.specs.Instructions.{decoded}
use Rattle.class_pool.specs.declared.entries.PoolEntry.{PoolEntry}
use Rattle.class_pool.specs.declared.entries.PoolEntry.TheVariants.{Integer, Float, Long, Double, Class, Text, FieldRef, MethodRef, InterfaceMethodRef, NameAndType, MethodHandle, MethodType, InvokeDynamic}
use Rattle.class_pool.specs.declared.classes.MemberKind.{MemberKind}
use Rattle.class_pool.specs.declared.classes.CodeInfo.{CodeInfo}
use Rattle.class_pool.specs.declared.classes.RowInfo.{RowInfo}
use Rattle.class_pool.specs.declared.faults.ClassCode.{ClassCode}
use Rattle.class_pool.specs.declared.faults.ClassCode.TheVariants.{Memory}
use Rattle.class_pool.specs.declared.faults.ClassFault.{ClassFault}
use Rattle.class_pool.specs.Items.{◌>>=◌, place_of, number, bytes_of, two_numbers, many}
use Rattle.class_pool.specs.Pool.{entry_size, entry_at, utf8_at, first_failing, questions, unless_fault, read_utf8, read_one, read_pair, read_handle, read_indices, read_tagged, read_entry, read_entries, reference_fault, read_pool_from}
use Rattle.jo_insn.specs.declared.jumps.Placed.{Placed}
use Rattle.class_pool.specs.Code.{is_wide_desc, code_for, constant_fault, wide_member, field_fault, method_fault, interface_fault, or_else, class_method_fault, index_unless, pooled_fault, insn_fault, placed_at, insns_from, first_bad_jump, row_questions, row_fault}
use Rattle.jo_insn.specs.AccessFlags.{has_flag, native_flag, abstract_flag, synchronized_flag}
use Rattle.class_pool.specs.ClassOrder.{class_index, text_index, read_head, skip_attribute, skip_attributes, constant_value, field_attribute, field_attributes, read_field, read_row, Spelled, read_spelled, jump_checked, row_checked, code_checked, read_code, method_attributes, method_questions, read_method, read_behind, class_of}
use Rattle.class_read.specs.Methods.{code_or_other, method_attribute}
use Rattle.class_pool.proofs.GrammarNumbers.{by_answer}
use Rattle.class_read.proofs.MethodSteps.{first_attribute}

abbrev pub IsOwn : ClassCode → Type 0
IsOwn Memory = ⊥
IsOwn _ = Unit {0}

-- where it fails, P holds of how
pub record ErrIs {A E : Type 0} (P : E → Type 0) (read : Result A E) : Type 0 where
  pub failed : (e : E) → read ≡ Err e → P e

-- where there is one, P holds of it
record SomeIs {X : Type 0} (P : X → Type 0) (found : Option X) : Type 0 where
  there : (x : X) → found ≡ Some x → P x

abbrev pub Owns : {A : Type 0} → Result A ClassFault → Type 0
Owns read = ErrIs (λ (f : ClassFault). IsOwn f.code) read

abbrev OwnsPlaced : {A : Type 0} → Result A (ClassCode × ℕ) → Type 0
OwnsPlaced read = ErrIs (λ (e : ClassCode × ℕ). IsOwn e.0) read

goes_well : {A E : Type 0} {P : E → Type 0} {x : A} → ErrIs P (Ok x)
goes_well = record { failed = λ e is. absurd (cc) }

fails_so : {A E : Type 0} {P : E → Type 0} {e : E} → P e → ErrIs {A = A} P (Err e)
fails_so {P = P} holds = record { failed = λ e is. subst P (cc is) holds }

is_none : {X : Type 0} {P : X → Type 0} → SomeIs P None
is_none = record { there = λ x is. absurd (cc) }

is_some : {X : Type 0} {P : X → Type 0} {x : X} → P x → SomeIs P (Some x)
is_some {P = P} holds = record { there = λ x is. subst P (cc is) holds }

either : {A E : Type 0} {P : E → Type 0} (test : Bool) {this other : Result A E} → ErrIs P this → ErrIs P other → ErrIs P (if test then this else other)
either true this_one other_one = this_one
either false this_one other_one = other_one

either_some : {X : Type 0} {P : X → Type 0} (test : Bool) {this other : Option X} → SomeIs P this → SomeIs P other → SomeIs P (if test then this else other)
either_some true this_one other_one = this_one
either_some false this_one other_one = other_one

after : {A B : Type 0} {read : Result A ClassFault} (more : A → Result B ClassFault) → Owns read → ((a : A) → Owns (more a)) → Owns (read >>= more)
after {read = Err f} more first goes = fails_so (first.failed f refl)
after {read = Ok a} more first goes = goes a

by_option : {X P : Type 0} (found : Option X) → (found ≡ None → P) → ((x : X) → found ≡ Some x → P) → P
by_option None none some = none refl
by_option (Some x) none some = some x refl

-- ---- items

number_owns : (size count : ℕ) (rest : List ℕ) → Owns (number size count rest)
number_owns size count rest = either _ (fails_so tt) goes_well

bytes_own : (size count : ℕ) (rest : List ℕ) → Owns (bytes_of size count rest)
bytes_own size count rest = either _ (fails_so tt) goes_well

two_own : (size : ℕ) (rest : List ℕ) → Owns (two_numbers size rest)
two_own size rest = after _ (number_owns size 2 rest) (λ first. after _ (number_owns size 2 first.1) (λ second. goes_well))

many_own : {X : Type 0} (read : List ℕ → Result (X × List ℕ) ClassFault) → ((rest : List ℕ) → Owns (read rest)) → (n : ℕ) (rest : List ℕ) → Owns (many read n rest)
unfolding many
many_own read each zero rest = goes_well
many_own read each (suc n) rest = after _ (each rest) (λ first. after _ (many_own read each n first.1) (λ others. goes_well))

-- ---- the pool

one_owns : (size count : ℕ) (made : ℕ → PoolEntry) (rest : List ℕ) → Owns (read_one size count made rest)
one_owns size count made rest = after _ (number_owns size count rest) (λ n. goes_well)

pair_owns : (size : ℕ) (made : ℕ → ℕ → PoolEntry) (rest : List ℕ) → Owns (read_pair size made rest)
pair_owns size made rest = after _ (two_own size rest) (λ parts. goes_well)

indices_own : (size place tag : ℕ) (rest : List ℕ) → Owns (read_indices size place tag rest)
unfolding read_indices
indices_own size place tag rest =
    either _ (one_owns size 2 Class rest) (either _ (one_owns size 2 Text rest) (either _ (pair_owns size FieldRef rest) (either _ (pair_owns size MethodRef rest)
    (either _ (pair_owns size InterfaceMethodRef rest) (either _ (pair_owns size NameAndType rest) (either _ (one_owns size 2 MethodType rest)
    (either _ (pair_owns size InvokeDynamic rest) (fails_so tt))))))))

utf8_owns : (size place : ℕ) (rest : List ℕ) → Owns (read_utf8 size place rest)
utf8_owns size place rest = after _ (number_owns size 2 rest) (λ count. after _ (bytes_own size count.0 count.1) (λ text. either _ goes_well (fails_so tt)))

handle_owns : (size : ℕ) (rest : List ℕ) → Owns (read_handle size rest)
handle_owns size rest = after _ (number_owns size 1 rest) (λ kind. after _ (number_owns size 2 kind.1) (λ target. goes_well))

tagged_owns : (size place tag : ℕ) (rest : List ℕ) → Owns (read_tagged size place tag rest)
unfolding read_tagged
tagged_owns size place tag rest =
    either _ (utf8_owns size place rest) (either _ (one_owns size 4 (λ n. Integer (twos_complement 4 n)) rest) (either _ (one_owns size 4 Float rest) (either _ (one_owns size 8 Long rest)
    (either _ (one_owns size 8 Double rest) (either _ (handle_owns size rest) (indices_own size place tag rest))))))

entry_owns : (size : ℕ) (rest : List ℕ) → Owns (read_entry size rest)
unfolding read_entry
entry_owns size rest = after _ (number_owns size 1 rest) (λ tag. tagged_owns size _ tag.0 tag.1)

entries_own : (size : ℕ) (owed : Option ℕ) (n : ℕ) (rest : List ℕ) → Owns (read_entries size owed n rest)
unfolding read_entries
entries_own size None zero rest = goes_well
entries_own size (Some place) zero rest = fails_so tt
entries_own size (Some place) (suc n) rest = after _ (entries_own size None n rest) (λ others. goes_well)
entries_own size None (suc n) rest = after _ (entry_owns size rest) (λ entry. after _ (entries_own size _ n entry.1) (λ others. goes_well))

questions_own : (pool : List PoolEntry) (entry : PoolEntry) → SomeIs IsOwn (first_failing (questions pool entry))
questions_own pool (Class name) = either_some _ (either_some _ is_none (is_some tt)) (is_some tt)
questions_own pool (Text text) = either_some _ is_none (is_some tt)
questions_own pool (FieldRef class type) = either_some _ (either_some _ is_none (is_some tt)) (is_some tt)
questions_own pool (MethodRef class type) = either_some _ (either_some _ is_none (is_some tt)) (is_some tt)
questions_own pool (InterfaceMethodRef class type) = either_some _ (either_some _ is_none (is_some tt)) (is_some tt)
questions_own pool (NameAndType name desc) = either_some _ (either_some _ is_none (is_some tt)) (is_some tt)
questions_own pool _ = is_none

abbrev OwnsFault : Option ClassFault → Type 0
OwnsFault found = SomeIs (λ (f : ClassFault). IsOwn f.code) found

references_own : (size : ℕ) (pool : List PoolEntry) (rest : List ℕ) (entries : List PoolEntry) → OwnsFault (reference_fault size pool rest entries)
unfolding reference_fault
references_own size pool rest [] = is_none
references_own size pool rest (entry ∷ more) = by_option (first_failing (questions pool entry)) (λ none. rw none (references_own size pool (drop (entry_size entry) rest) more)) (λ code is. rw is (is_some ((questions_own pool entry).there code is)))

unless_owns : {A : Type 0} (found : Option ClassFault) {next : Result A ClassFault} → OwnsFault found → Owns next → Owns (unless_fault found next)
unless_owns None found next = next
unless_owns (Some f) found next = fails_so (found.there f refl)

pool_owns : (size : ℕ) (rest : List ℕ) → Owns (read_pool_from size rest)
unfolding read_pool_from
pool_owns size rest = after _ (number_owns size 2 rest) (λ count. after _ (either _ (entries_own size None _ count.1) (fails_so tt)) (λ entries. unless_owns _ (references_own size entries.0 count.1 entries.0) goes_well))

-- ---- parts

module _ (size : ℕ) (pool : List PoolEntry) where
  class_index_owns : (rest : List ℕ) → Owns (class_index size pool rest)
  class_index_owns rest = after _ (number_owns size 2 rest) (λ index. either _ goes_well (fails_so tt))

  text_index_owns : (rest : List ℕ) → Owns (text_index size pool rest)
  text_index_owns rest = after _ (number_owns size 2 rest) (λ index. either _ goes_well (fails_so tt))

  head_owns : (kind : MemberKind) (rest : List ℕ) → Owns (read_head size pool kind rest)
  unfolding read_head
  head_owns kind rest = after _ (number_owns size 2 rest) (λ flags. after _ (text_index_owns flags.1) (λ name. after _ (text_index_owns name.1) (λ desc. either _ (either _ goes_well (fails_so tt)) (fails_so tt))))

  skipped_owns : (rest : List ℕ) → Owns (skip_attribute size pool rest)
  unfolding skip_attribute
  skipped_owns rest = after _ (after _ (text_index_owns rest) (λ name. after _ (number_owns size 4 name.1) (λ count. goes_well))) (λ head. after _ (bytes_own size head.0.1 head.1) (λ content. goes_well))

  all_skipped_own : (rest : List ℕ) → Owns (skip_attributes size pool rest)
  all_skipped_own rest = after _ (number_owns size 2 rest) (λ count. after _ (many_own _ skipped_owns count.0 count.1) (λ others. goes_well))

  -- ---- fields

  constant_owns : (desc : ℕ) (known : Option ℕ) (place count : ℕ) (rest : List ℕ) → Owns (constant_value size pool desc known place count rest)
  constant_owns desc known place count rest =
      by_answer (number size 2 rest) (λ f failed. rw failed (either _ (fails_so ((number_owns size 2 rest).failed f failed)) (fails_so tt)))
      (λ index is. rw is (either _ (either _ goes_well (fails_so tt)) (fails_so tt)))

  field_attribute_owns : (head : ℕ × ℕ × ℕ) (known : Option ℕ) (rest : List ℕ) → Owns (field_attribute size pool head known rest)
  unfolding field_attribute
  field_attribute_owns head known rest = after _ (text_index_owns rest) (λ name. after _ (number_owns size 4 name.1) (λ count.
      let constant = constant_owns head.2 known (place_of size name.1) count.0 count.1 in
      by_answer (bytes_of size count.0 count.1) (λ f failed. rw failed (either _ constant (fails_so ((bytes_own size count.0 count.1).failed f failed)))) (λ content is. rw is (either _ constant goes_well))))

  field_attributes_own : (head : ℕ × ℕ × ℕ) (n : ℕ) (known : Option ℕ) (rest : List ℕ) → Owns (field_attributes size pool head n known rest)
  unfolding field_attributes
  field_attributes_own head zero known rest = goes_well
  field_attributes_own head (suc n) known rest = after _ (field_attribute_owns head known rest) (λ first. field_attributes_own head n first.0 first.1)

  field_owns : (rest : List ℕ) → Owns (read_field size pool rest)
  unfolding read_field
  field_owns rest = after _ (head_owns _ rest) (λ head. after _ (number_owns size 2 head.1) (λ count. after _ (field_attributes_own head.0 count.0 None count.1) (λ constant. goes_well)))

  -- ---- code

  row_owns : (rest : List ℕ) → Owns (read_row size rest)
  row_owns rest = after _ (two_own size rest) (λ bounds. after _ (two_own size bounds.1) (λ handling. goes_well))

  spelled_owns : (place count : ℕ) (rest : List ℕ) → Owns (read_spelled size pool place count rest)
  unfolding read_spelled
  spelled_owns place count rest =
      after _ (two_own size rest) (λ limits. after _ (number_owns size 4 limits.1) (λ code_count. after _ (either _ (bytes_own size code_count.0 code_count.1) (fails_so tt)) (λ code.
      after _ (number_owns size 2 code.1) (λ row_count. after _ (many_own _ row_owns row_count.0 row_count.1) (λ rows. after _ (all_skipped_own rows.1) (λ others. either _ goes_well (fails_so tt)))))))

  constant_fault_owns : (index : ℕ) (entry : Option PoolEntry) → SomeIs IsOwn (constant_fault index entry)
  constant_fault_owns index (Some (Integer n)) = is_none
  constant_fault_owns index (Some (Text text)) = is_none
  constant_fault_owns index (Some (Float bits)) = is_some tt
  constant_fault_owns index (Some (Class name)) = is_some tt
  constant_fault_owns index (Some (MethodHandle kind target)) = is_some tt
  constant_fault_owns index (Some (MethodType desc)) = is_some tt
  constant_fault_owns index _ = is_some tt

  field_fault_owns : (entry : Option PoolEntry) → SomeIs IsOwn (field_fault pool entry)
  field_fault_owns (Some (FieldRef class type)) = either_some _ (is_some tt) is_none
  field_fault_owns _ = is_some tt

  method_fault_owns : (entry : Option PoolEntry) → SomeIs IsOwn (method_fault pool entry)
  method_fault_owns (Some (MethodRef class type)) = either_some _ (is_some tt) is_none
  method_fault_owns _ = is_some tt

  interface_fault_owns : (entry : Option PoolEntry) → SomeIs IsOwn (interface_fault pool entry)
  interface_fault_owns (Some (InterfaceMethodRef class type)) = either_some _ (is_some tt) is_none
  interface_fault_owns _ = is_some tt

  or_else_owns : (code other : Option ClassCode) → SomeIs IsOwn code → SomeIs IsOwn other → SomeIs IsOwn (or_else code other)
  or_else_owns None other code_owns other_owns = other_owns
  or_else_owns (Some code) other code_owns other_owns = code_owns

  class_method_owns : (op : ℕ) (entry : Option PoolEntry) → SomeIs IsOwn (class_method_fault op pool entry)
  class_method_owns op (Some (MethodRef class type)) = either_some _ (is_some tt) is_none
  class_method_owns op (Some (InterfaceMethodRef class type)) = or_else_owns (wide_member pool type) _ (either_some _ (is_some tt) is_none) (is_some tt)
  class_method_owns op _ = is_some tt

  index_owns : (test : Bool) → SomeIs IsOwn (index_unless test)
  index_owns test = either_some test is_none (is_some tt)

  pooled_owns : (op index : ℕ) → SomeIs IsOwn (pooled_fault pool op index)
  pooled_owns op index =
      let entry : Option PoolEntry = entry_at pool index in
      either_some (nat_lt op 20) (constant_fault_owns index entry) (either_some (nat_lt op 182) (field_fault_owns entry) (either_some (op == 182) (method_fault_owns entry)
      (either_some (nat_lt op 185) (class_method_owns op entry) (either_some (op == 185) (interface_fault_owns entry)
      (either_some (op == 187) (index_owns _) (either_some (op == 189) (index_owns _) (index_owns _)))))))

  insn_owns : (insn : Insn) → SomeIs IsOwn (insn_fault pool insn)
  insn_owns (Pooled op index) = pooled_owns op index
  insn_owns _ = is_none

  code_for_owns : (e : InsnFault) → IsOwn (code_for e)
  code_for_owns insn_faults.Cut = tt
  code_for_owns (insn_faults.Unknown op) = tt
  code_for_owns (insn_faults.Outside op) = tt
  code_for_owns insn_faults.Malformed = tt

  placed_owns : (pc : ℕ) (read : Result (Insn × ℕ) InsnFault) → OwnsPlaced (placed_at pool pc read)
  placed_owns pc (Err e) = fails_so (code_for_owns e)
  placed_owns pc (Ok found) = by_option (insn_fault pool found.0) (λ none. rw none goes_well) (λ code is. rw is (fails_so ((insn_owns found.0).there code is)))

  insns_own : (k : ℕ) (code : List ℕ) (pc : ℕ) → OwnsPlaced (insns_from k pool code pc)
  unfolding insns_from
  insns_own zero code pc = goes_well
  insns_own (suc k) code pc = by_placed (placed_at pool pc (decoded code pc)) (λ e failed. rw failed (either _ goes_well (fails_so ((placed_owns pc (decoded code pc)).failed e failed))))
      (λ placed is. by_placed (insns_from k pool code placed.next) (λ e failed. rw (is, failed) (either _ goes_well (fails_so ((insns_own k code placed.next).failed e failed)))) (λ others more. rw (is, more) (either _ goes_well goes_well)))
    where
      by_placed : {A P : Type 0} (read : Result A (ClassCode × ℕ)) → ((e : ClassCode × ℕ) → read ≡ Err e → P) → ((a : A) → read ≡ Ok a → P) → P
      by_placed (Err e) failed goes = failed e refl
      by_placed (Ok a) failed goes = goes a refl

  rows_own : (code_size : ℕ) (insns : List Placed) (k : ℕ) (rows : List RowInfo) → SomeIs (λ (e : ClassCode × ℕ). IsOwn e.0) (row_fault pool code_size insns k rows)
  rows_own code_size insns k [] = is_none
  rows_own code_size insns k (row ∷ more) = by_option (first_failing (row_questions pool code_size insns row)) (λ none. rw none (rows_own code_size insns (suc k) more))
      (λ code is. rw is (is_some ((either_some {P = IsOwn} _ (either_some _ is_none (is_some tt)) (is_some tt)).there code is)))

  checked_owns : (s : Spelled) (read : Result (List Placed) (ClassCode × ℕ)) → OwnsPlaced read → Owns (code_checked pool s read)
  checked_owns s (Err e) owns = fails_so (owns.failed e refl)
  checked_owns s (Ok insns) owns = jump_owns (first_bad_jump s.code insns insns) (row_owns_checked (row_fault pool (length s.code) insns 0 s.rows) (rows_own (length s.code) insns 0 s.rows) goes_well)
    where
      jump_owns : (bad : Option ℕ) {next : Result (List ℕ) ClassFault} → Owns next → Owns (jump_checked s.code_place bad next)
      jump_owns None next = next
      jump_owns (Some pc) next = fails_so tt

      row_owns_checked : (bad : Option (ClassCode × ℕ)) {next : Result (List ℕ) ClassFault} → SomeIs (λ (e : ClassCode × ℕ). IsOwn e.0) bad → Owns next → Owns (row_checked s.rows_place bad next)
      row_owns_checked None bad next = next
      row_owns_checked (Some e) bad next = fails_so (bad.there e refl)

  code_owns : (place count : ℕ) (rest : List ℕ) → Owns (read_code size pool place count rest)
  unfolding read_code
  code_owns place count rest = after _ (spelled_owns place count rest) (λ s. after _ (checked_owns s.0 _ (insns_own (length s.0.code) s.0.code 0)) (λ bytes. goes_well))

  -- ---- methods

  either_attribute : (is_code : Bool) {code : Result (CodeInfo × List ℕ) ClassFault} {skipped : Result (List ℕ × List ℕ) ClassFault} → Owns code → Owns skipped → Owns (code_or_other is_code code skipped)
  either_attribute true code skipped = after _ code (λ x. goes_well)
  either_attribute false code skipped = after _ skipped (λ x. goes_well)

  method_attribute_owns : (rest : List ℕ) → Owns (method_attribute size pool rest)
  unfolding method_attribute
  method_attribute_owns rest = after _ (text_index_owns rest) (λ name. after _ (number_owns size 4 name.1) (λ count.
      either_attribute _ (code_owns _ count.0 count.1) (bytes_own size count.0 count.1)))

  method_attributes_own : (n : ℕ) (rest : List ℕ) → Owns (method_attributes size pool n rest)
  unfolding method_attributes
  method_attributes_own zero rest = goes_well
  method_attributes_own (suc n) rest = let P : Result (List CodeInfo × List ℕ) ClassFault → Type 0 = λ read. Owns read in
      subst P (sym (first_attribute size pool n rest)) (after _ (method_attribute_owns rest) (λ x. after _ (method_attributes_own n x.1) (λ others. goes_well)))

  method_questions_own : (wide : Bool) (flags : ℕ) (found : List CodeInfo) → SomeIs IsOwn (first_failing (method_questions wide flags found))
  method_questions_own wide flags found =
      let marked : Bool = has_flag native_flag flags || has_flag abstract_flag flags in
      either_some (not (wide && (has_flag native_flag flags || nat_lt 0 (length found)))) (either_some (not (has_flag synchronized_flag flags))
      (either_some (length found + (if marked then 1 else 0) == 1) is_none (is_some tt)) (is_some tt)) (is_some tt)

  method_owns : (rest : List ℕ) → Owns (read_method size pool rest)
  unfolding read_method
  method_owns rest = after _ (head_owns _ rest) (λ head. after _ (number_owns size 2 head.1) (λ count. after _ (method_attributes_own count.0 count.1) (λ codes.
      let wide : Bool = is_wide_desc (utf8_at pool head.0.2) in
      by_option (first_failing (method_questions wide head.0.0 codes.0)) (λ none. rw none goes_well)
      (λ code is. rw is (fails_so ((method_questions_own wide head.0.0 codes.0).there code is))))))

  -- ---- the class

  behind_owns : (version : ℕ × ℕ) (rest : List ℕ) → Owns (read_behind size version pool rest)
  unfolding read_behind
  behind_owns version rest =
      after _ (number_owns size 2 rest) (λ flags. after _ (class_index_owns flags.1) (λ this_class. after _ (class_index_owns this_class.1) (λ super_class.
      after _ (number_owns size 2 super_class.1) (λ interface_count. after _ (many_own _ class_index_owns interface_count.0 interface_count.1) (λ interfaces.
      after _ (number_owns size 2 interfaces.1) (λ field_count. after _ (many_own _ field_owns field_count.0 field_count.1) (λ fields.
      after _ (number_owns size 2 fields.1) (λ method_count. after _ (many_own _ method_owns method_count.0 method_count.1) (λ methods.
      after _ (all_skipped_own methods.1) (λ end. either _ goes_well (fails_so tt)))))))))))

pub class_owns : (file : List ℕ) → Owns (class_of file)
unfolding class_of
class_owns file = after _ (number_owns (length file) 4 file) (λ magic. after _ (either _ (after _ (number_owns (length file) 2 magic.1) (λ minor. after _ (number_owns (length file) 2 minor.1) (λ major. either _ goes_well (fails_so tt)))) (fails_so tt))
    (λ version. after _ (pool_owns (length file) version.1) (λ pool. behind_owns (length file) pool.0 version.0 pool.1)))
