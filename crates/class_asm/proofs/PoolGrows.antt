-- What a text needs of the pool keeps it one that a class file can spell, with all texts that it had.
use Rattle.std.proofs.Common.{◌≡◌, ℕ, zero, suc, ◌+◌, ◌^◌, ◌<◌, Bool, true, false, nat_lt, ◌==◌, List, [], ◌∷◌, ◌++◌, length, drop, get_or, add-one, Option, Some, None, refl, sym, ap, ◌∙◌, arith, length-append}
use Rattle.std.specs.Prelude.{if◌then◌else◌, codes, IfSome, position, slice_get}
use Rattle.std.specs.List.{AllByRecursion}
use Rattle.std.specs.Result.{IfOk}
use Rattle.std.proofs.lemmas.Bool.Decides.{nat_tests}
use Rattle.std.proofs.lemmas.List.{get_or_append_left}
use Rattle.std.proofs.lemmas.List.Quantifiers.{position-Some}
use Rattle.std.proofs.lemmas.Option.{slice_get_within, get_or_from_slice_get, slice_get_read, slice_get-get_or}
use Rattle.std.proofs.lemmas.Slice.Eq.{bytes_eq-Decides}
use Rattle.std.proofs.Math.Seq.{get_or-append_seam}
use Rattle.class_pool.specs.declared.entries.PoolEntry.{PoolEntry}
use Rattle.class_pool.specs.declared.entries.PoolEntry.TheVariants.{Second, Utf8, Integer, Float, Long, Double, Class, Text, FieldRef, MethodRef, InterfaceMethodRef, NameAndType, MethodHandle, MethodType, InvokeDynamic}
use Rattle.class_pool.specs.Pool.{is_double, entry_at, utf8_of, utf8_at}
use Rattle.class_pool.specs.Writing.{spelled_entry, is_second, FitsEntry, AreSpaced, FitsPool}
use Rattle.class_pool.specs.Fitting.{HasText, FitsConstant}
use Rattle.asm_text.specs.declared.statements.Number.{Number}
use Rattle.asm_text.specs.declared.statements.Number.TheVariants.{Of, TooLarge}
use Rattle.asm_text.specs.declared.statements.Constant as constants
use Rattle.asm_text.specs.declared.statements.Constant.TheVariants as constant
use Rattle.asm_text.specs.declared.statements.Member.{Member}
use Rattle.asm_text.specs.declared.statements.Operation.{Operation}
use Rattle.asm_text.specs.declared.statements.Operation.TheVariants as operation
use Rattle.class_asm.specs.Needs.{is_same, Needed, need_at, need, need_text, need_class, need_number, need_string, need_constant, reference_by, need_member, need_head, need_value, need_caught}
use Rattle.class_asm.specs.Encoding.{or_range, need_operand}
use Rattle.class_asm.proofs.StatementNumbers.{and_then, FitsNumber, FitsValue, FitsOptional, FitsOperation}

-- ---- pools that keep the texts of others

pub record Keeps (old new : List PoolEntry) : Type 0 where
  pub stays : (index : ℕ) (text : List ℕ) → utf8_at old index ≡ Some text → utf8_at new index ≡ Some text

pub along : {a b c : List PoolEntry} → Keeps a b → Keeps b c → Keeps a c
along first second = record { stays = λ index text is. second.stays index text (first.stays index text is) }

pub itself : (pool : List PoolEntry) → Keeps pool pool
itself pool = record { stays = λ index text is. is }

pub has_still : {old new : List PoolEntry} {text : List ℕ} → Keeps old new → HasText old text → HasText new text
has_still {text = text} keeps has = (has.0, keeps.stays has.0 text has.1)

found_in_more : (pool : List PoolEntry) (entry : PoolEntry) (k : ℕ) (x : PoolEntry) → slice_get pool k ≡ Some x → slice_get (pool ++ entry ∷ []) k ≡ Some x
found_in_more pool entry k x is =
    let within = slice_get_within pool k x is in
    let there = get_or_from_slice_get pool k x x is in
    let longer = length-append pool (entry ∷ []) in
    slice_get_read (pool ++ entry ∷ []) (length (pool ++ entry ∷ [])) k x refl (omega (arith, within, longer)) (sym (get_or_append_left pool (entry ∷ []) x k within ∙ there))

keeps_more : (pool : List PoolEntry) (entry : PoolEntry) → Keeps pool (pool ++ entry ∷ [])
keeps_more pool entry = record { stays = stays }
  where
    by_entry : (k : ℕ) (text : List ℕ) (found : Option PoolEntry) → slice_get pool k ≡ found → utf8_of found ≡ Some text → utf8_of (slice_get (pool ++ entry ∷ []) k) ≡ Some text
    by_entry k text None at is = absurd (cc)
    by_entry k text (Some x) at is = ap utf8_of (found_in_more pool entry k x at) ∙ is

    stays : (index : ℕ) (text : List ℕ) → utf8_at pool index ≡ Some text → utf8_at (pool ++ entry ∷ []) index ≡ Some text
    stays zero text is = absurd (cc)
    stays (suc k) text is = by_entry k text (slice_get pool k) refl is

there_now : (pool : List PoolEntry) (entry : PoolEntry) → entry_at (pool ++ entry ∷ []) (length pool + 1) ≡ Some entry
there_now pool entry =
    let longer = length-append pool (entry ∷ []) in
    rw add-one (slice_get_read (pool ++ entry ∷ []) (length (pool ++ entry ∷ [])) (length pool) entry refl (omega (arith, longer)) (sym (get_or-append_seam pool entry [] entry)))

-- ---- pools that can be spelled

spaced_more : (owed : Bool) (pool : List PoolEntry) (entry : PoolEntry) → AreSpaced owed pool → is_second entry ≡ false → is_double entry ≡ false → AreSpaced owed (pool ++ entry ∷ [])
spaced_more owed [] entry spaced a b = (a ∙ sym spaced, b)
spaced_more owed (first ∷ more) entry spaced a b = (spaced.0, spaced_more (is_double first) more entry spaced.1 a b)

pub all_more : {X : Type 0} (P : X → Type 0) (xs : List X) (x : X) → AllByRecursion P xs → P x → AllByRecursion P (xs ++ x ∷ [])
all_more P [] x all p = (p, tt)
all_more P (y ∷ ys) x all p = (all.0, all_more P ys x all.1 p)

-- an entry that fits, and has one index
record Single (entry : PoolEntry) : Type 0 where
  fits : FitsEntry entry
  first : is_second entry ≡ false
  short : is_double entry ≡ false

pub record Added (old : List PoolEntry) (made : List PoolEntry × ℕ) : Type 0 where
  pub pool : FitsPool made.0
  pub index : made.1 < 2 ^ 16
  pub keeps : Keeps old made.0

need_added : (entry : PoolEntry) (pool : List PoolEntry) → FitsPool pool → Single entry → IfSome (need entry pool) (Added pool)
unfolding need
need_added entry pool fits single = at (position (is_same entry) pool) refl
  where
    by_room : (v : Bool) → nat_lt (length pool) 65534 ≡ v → IfSome (if v then Some (pool ++ entry ∷ [], length pool + 1) else None) (Added pool)
    by_room true room =
        let few : length pool < 65534 = grind (arith, nat_tests) in
        let longer = length-append pool (entry ∷ []) in
        record {
          pool = record { few = omega (arith, few, longer); entries = all_more FitsEntry pool entry fits.entries single.fits; spaced = spaced_more false pool entry fits.spaced single.first single.short };
          index = omega (arith, few);
          keeps = keeps_more pool entry;
        }
    by_room false room = tt

    at : (found : Option ℕ) → position (is_same entry) pool ≡ found → IfSome (need_at found entry pool) (Added pool)
    at (Some place) is =
        let within = (position-Some (is_same entry) pool place Second is).0 in
        let few = fits.few in
        record { pool = fits; index = omega (arith, within, few); keeps = itself pool }
    at None is = by_room (nat_lt (length pool) 65534) refl

-- ---- the entry of a text is there

other_tag : (text : List ℕ) (other : PoolEntry) (tag : ℕ) → get_or (spelled_entry other) 0 0 ≡ tag → (1 ≡ tag → ⊥) → spelled_entry (Utf8 text) ≡ spelled_entry other → utf8_of (Some other) ≡ Some text
other_tag text other tag at differs is =
    let heads : get_or (spelled_entry (Utf8 text)) 0 0 ≡ get_or (spelled_entry other) 0 0 = ap (λ (t : List ℕ). get_or t 0 0) is in
    absurd (differs (heads ∙ at))

same_text : (text : List ℕ) (other : PoolEntry) → spelled_entry (Utf8 text) ≡ spelled_entry other → utf8_of (Some other) ≡ Some text
same_text text (Utf8 other) is = ap Some (sym (ap (drop 3) is))
same_text text Second is = other_tag text Second 0 refl (λ h. omega (arith, h)) is
same_text text (Integer n) is = other_tag text (Integer n) 3 refl (λ h. omega (arith, h)) is
same_text text (Float bits) is = other_tag text (Float bits) 4 refl (λ h. omega (arith, h)) is
same_text text (Long bits) is = other_tag text (Long bits) 5 refl (λ h. omega (arith, h)) is
same_text text (Double bits) is = other_tag text (Double bits) 6 refl (λ h. omega (arith, h)) is
same_text text (Class name) is = other_tag text (Class name) 7 refl (λ h. omega (arith, h)) is
same_text text (Text name) is = other_tag text (Text name) 8 refl (λ h. omega (arith, h)) is
same_text text (FieldRef class type) is = other_tag text (FieldRef class type) 9 refl (λ h. omega (arith, h)) is
same_text text (MethodRef class type) is = other_tag text (MethodRef class type) 10 refl (λ h. omega (arith, h)) is
same_text text (InterfaceMethodRef class type) is = other_tag text (InterfaceMethodRef class type) 11 refl (λ h. omega (arith, h)) is
same_text text (NameAndType name desc) is = other_tag text (NameAndType name desc) 12 refl (λ h. omega (arith, h)) is
same_text text (MethodHandle kind target) is = other_tag text (MethodHandle kind target) 15 refl (λ h. omega (arith, h)) is
same_text text (MethodType desc) is = other_tag text (MethodType desc) 16 refl (λ h. omega (arith, h)) is
same_text text (InvokeDynamic method type) is = other_tag text (InvokeDynamic method type) 18 refl (λ h. omega (arith, h)) is

abbrev Is : List ℕ → List PoolEntry × ℕ → Type 0
Is text made = utf8_at made.0 made.1 ≡ Some text

text_there : (text : List ℕ) (pool : List PoolEntry) → IfSome (need (Utf8 text) pool) (Is text)
unfolding need
text_there text pool = at (position (is_same (Utf8 text)) pool) refl
  where
    by_room : (v : Bool) → IfSome (if v then Some (pool ++ Utf8 text ∷ [], length pool + 1) else None) (Is text)
    by_room true = ap utf8_of (there_now pool (Utf8 text))
    by_room false = tt

    at : (found : Option ℕ) → position (is_same (Utf8 text)) pool ≡ found → IfSome (need_at found (Utf8 text) pool) (Is text)
    at (Some place) is =
        let found = position-Some (is_same (Utf8 text)) pool place Second is in
        let alike : spelled_entry (Utf8 text) ≡ spelled_entry (get_or pool place Second) = (bytes_eq-Decides (spelled_entry (Utf8 text)) (spelled_entry (get_or pool place Second))).0 found.1 in
        rw add-one (ap utf8_of (slice_get-get_or pool place Second found.0) ∙ same_text text (get_or pool place Second) alike)
    at None is = by_room (nat_lt (length pool) 65534)

-- ---- what lines need

both : {A : Type 0} (P Q : A → Type 0) (o : Option A) → IfSome o P → IfSome o Q → IfSome o (λ x. P x × Q x)
both P Q None p q = tt
both P Q (Some x) p q = (p, q)

either : {A : Type 0} (P : A → Type 0) (test : Bool) (this : Option A) → (test ≡ true → IfSome this P) → IfSome (if test then this else None) P
either P true this p = p refl
either P false this p = tt

-- a text, with its entry
abbrev pub TextAdded : List ℕ → List PoolEntry → List PoolEntry × ℕ → Type 0
TextAdded text old made = Added old made × (utf8_at made.0 made.1 ≡ Some text)

pub text_added : (text : List ℕ) (pool : List PoolEntry) → FitsPool pool → IfSome (need_text text pool) (TextAdded text pool)
unfolding need_text
text_added text pool fits =
    either _ (nat_lt (length text) (2 ^ 16)) _ (λ short.
    let small : length text < 2 ^ 16 = grind (arith, nat_tests) in
    both _ _ (need (Utf8 text) pool) (need_added (Utf8 text) pool fits (record { fits = small; first = refl; short = refl })) (text_there text pool))

from : {old mid : List PoolEntry} → Keeps old mid → (needed : Needed) → IfSome needed (Added mid) → IfSome needed (Added old)
from keeps None added = tt
from keeps (Some made) added = record { pool = added.pool; index = added.index; keeps = along keeps added.keeps }

pub class_added : (name : List ℕ) (pool : List PoolEntry) → FitsPool pool → IfSome (need_class name pool) (Added pool)
unfolding need_class
class_added name pool fits =
    and_then _ _ (need_text name pool) _ (text_added name pool fits) (λ text p.
    from p.0.keeps (need (Class text.1) text.0) (need_added (Class text.1) text.0 p.0.pool (record { fits = p.0.index; first = refl; short = refl })))

number_added : (number : Number) (pool : List PoolEntry) → FitsPool pool → FitsNumber number → IfSome (need_number number pool) (Added pool)
number_added (Of z) pool fits number = need_added (Integer z) pool fits (record { fits = number; first = refl; short = refl })
number_added TooLarge pool fits number = tt

string_added : (string : List ℕ) (pool : List PoolEntry) → FitsPool pool → IfSome (need_string string pool) (Added pool)
string_added string pool fits =
    and_then _ _ (need_text string pool) _ (text_added string pool fits) (λ text p.
    from p.0.keeps (need (Text text.1) text.0) (need_added (Text text.1) text.0 p.0.pool (record { fits = p.0.index; first = refl; short = refl })))

constant_added : (value : constants.Constant) (pool : List PoolEntry) → FitsPool pool → FitsValue value → IfSome (need_constant value pool) (Added pool)
unfolding need_constant
constant_added (constant.Int number) pool fits value = number_added number pool fits value
constant_added (constant.Text string) pool fits value = string_added string pool fits

reference_single : (op class type : ℕ) → class < 2 ^ 16 → type < 2 ^ 16 → Single (reference_by op class type)
reference_single op class type a b = by_tests (nat_lt op 182) (op == 185)
  where
    by_tests : (field interface : Bool) → Single (if field then FieldRef class type else if interface then InterfaceMethodRef class type else MethodRef class type)
    by_tests true interface = record { fits = (a, b); first = refl; short = refl }
    by_tests false true = record { fits = (a, b); first = refl; short = refl }
    by_tests false false = record { fits = (a, b); first = refl; short = refl }

member_added : (op : ℕ) (member : Member) (pool : List PoolEntry) → FitsPool pool → IfSome (need_member (reference_by op) member pool) (Added pool)
unfolding need_member
member_added op member pool fits =
    and_then _ _ (need_class member.class pool) _ (class_added member.class pool fits) (λ class p.
    and_then _ _ (need_text member.name class.0) _ (text_added member.name class.0 p.pool) (λ name q.
    and_then _ _ (need_text member.desc name.0) _ (text_added member.desc name.0 q.0.pool) (λ desc r.
    and_then _ _ (need (NameAndType name.1 desc.1) desc.0) _ (need_added (NameAndType name.1 desc.1) desc.0 r.0.pool (record { fits = (q.0.index, r.0.index); first = refl; short = refl })) (λ type s.
    from (along p.keeps (along q.0.keeps (along r.0.keeps s.keeps))) (need (reference_by op class.1 type.1) type.0) (need_added (reference_by op class.1 type.1) type.0 s.pool (reference_single op class.1 type.1 p.index s.index))))))

pub record HeadAdded (old : List PoolEntry) (made : List PoolEntry × ℕ × ℕ) : Type 0 where
  pub pool : FitsPool made.0
  pub name : made.1 < 2 ^ 16
  pub desc : made.2 < 2 ^ 16
  pub keeps : Keeps old made.0

pub head_added : (name desc : List ℕ) (pool : List PoolEntry) → FitsPool pool → IfSome (need_head name desc pool) (HeadAdded pool)
head_added name desc pool fits =
    and_then _ _ (need_text name pool) _ (text_added name pool fits) (λ first p.
    and_then _ _ (need_text desc first.0) _ (text_added desc first.0 p.0.pool) (λ second q.
    record { pool = q.0.pool; name = p.0.index; desc = q.0.index; keeps = along p.0.keeps q.0.keeps }))

pub record ValueAdded (old : List PoolEntry) (made : List PoolEntry × Option ℕ) : Type 0 where
  pub pool : FitsPool made.0
  pub value : FitsConstant made.0 made.1
  pub keeps : Keeps old made.0

pub value_added : (value : Option constants.Constant) (pool : List PoolEntry) → FitsPool pool → FitsOptional value → IfSome (need_value value pool) (ValueAdded pool)
value_added None pool fits value = record { pool = fits; value = tt; keeps = itself pool }
value_added (Some constant) pool fits value =
    and_then _ _ (need_text (codes "ConstantValue") pool) _ (text_added (codes "ConstantValue") pool fits) (λ name p.
    and_then _ _ (need_constant constant name.0) _ (constant_added constant name.0 p.0.pool value) (λ index q.
    record { pool = q.pool; value = (q.index, (name.1, q.keeps.stays name.1 (codes "ConstantValue") p.1)); keeps = along p.0.keeps q.keeps }))

pub caught_added : (class : Option (List ℕ)) (pool : List PoolEntry) → FitsPool pool → IfSome (need_caught class pool) (Added pool)
caught_added None pool fits = record { pool = fits; index = omega arith; keeps = itself pool }
caught_added (Some name) pool fits = class_added name pool fits

pub or_range_so : {X : Type 0} (P : X → Type 0) (o : Option X) → IfSome o P → IfOk (or_range o) P
or_range_so P None p = tt
or_range_so P (Some x) p = p

pub operand_added : (op : Operation) (pool : List PoolEntry) → FitsPool pool → FitsOperation op → IfOk (need_operand op pool) (Added pool)
unfolding need_operand
operand_added (operation.Load op constant) pool fits value = or_range_so (Added pool) (need_constant constant pool) (constant_added constant pool fits value)
operand_added (operation.OfClass op class) pool fits value = or_range_so (Added pool) (need_class class pool) (class_added class pool fits)
operand_added (operation.OfMember op member) pool fits value = or_range_so (Added pool) (need_member (reference_by op) member pool) (member_added op member pool fits)
operand_added _ pool fits value = record { pool = fits; index = omega arith; keeps = itself pool }
