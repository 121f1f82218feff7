-- The constant pool: what is read is spelled so and refers well, and what is spelled so and refers well is read.
use Rattle.std.proofs.Common.{◌≡◌, ◌⊎◌, ◌↔◌, ℕ, zero, suc, ◌+◌, ◌-◌, ◌^◌, ◌<◌, Bool, true, false, ◌||◌, ◌==◌, not, if◌then◌else◌, ℤ, List, [], ◌∷◌, ◌++◌, length, drop, Option, Some, None, Result, Ok, refl, sym, ap, subst, ◌∙◌, arith}
use Rattle.std.specs.Prelude.{IsSomeAnd}
use Rattle.std.specs.Bool.{Decides}
use Rattle.std.specs.Int.{w32, cast_unsigned}
use Rattle.std.specs.Int.RustNames.{FitsSigned}
use Rattle.std.specs.List.{AllByRecursion}
use Rattle.std.proofs.Math.Facts.{Fits-of_z}
use Rattle.std.proofs.Math.Nat.{mod-eq_of_lt}
use Rattle.std.proofs.lemmas.Bool.{eqb-true, true≢false, and_parts, and_from}
use Rattle.std.proofs.lemmas.Bool.Decides.{nat_tests, Decides-and, Decides-or}
use Rattle.byteorder.specs.Endian.{big_bytes, twos_complement}
use Rattle.jo_insn.specs.declared.instructions.InsnFault.{InsnFault}
use Rattle.jo_insn.specs.Instructions
use Rattle.jo_insn.specs.Instructions.{signed_in}
use Rattle.jo_insn.proofs.Numbers.{AreBytes, number_in_bytes, signed_in_bytes, signed_read}
use Rattle.jo_text.specs.Descriptors.{IsMemberName, IsFieldDesc, IsMethodDesc, IsClassOrArray}
use Rattle.jo_text.specs.Mutf8.{IsMutf8}
use Rattle.jo_text.specs.Tests.{is_mutf8, is_field_desc, is_method_desc}
use Rattle.jo_text.proofs.TestLaws.{field_decided, method_decided, member_decided, class_or_array_decided, mutf8_decided}
use Rattle.class_pool.specs.declared.entries.PoolEntry.{PoolEntry}
use Rattle.class_pool.specs.declared.entries.PoolEntry.TheVariants.{Second, Utf8, Integer, Float, Long, Double, Class, Text, FieldRef, MethodRef, InterfaceMethodRef, NameAndType, MethodHandle, MethodType, InvokeDynamic}
use Rattle.class_pool.specs.declared.faults.ClassCode.{ClassCode}
use Rattle.class_pool.specs.declared.faults.ClassFault.{ClassFault}
use Rattle.class_pool.specs.Items.{place_of, fault}
use Rattle.class_pool.specs.Pool.{entry_at, utf8_at, desc_of, desc_at, is_double, read_utf8, read_one, read_pair, read_handle, read_indices, read_tagged, read_entry, owed_by, read_entries, is_text, is_text_that, is_class, is_name_and_type, questions, member_questions, first_failing, entry_size, reference_fault, unless_fault, read_pool_from}
use Rattle.class_pool.specs.ClassGrammar.{u1, u2, u4, SpellsEntry, SpellsEntries, no_entry, single, twofold, IsClassEntry, RefersWell}
use Rattle.class_pool.proofs.GrammarNumbers.{IsReadAs, ends, fails, then_read, when, either, joined, split, step, pass, reads_more, number_read, number_again, two_read, two_again, bytes_read, bytes_again}

-- ---- entries

-- what stands behind a tag
abbrev SpellsBehind : ℕ → PoolEntry → List ℕ → Type 0
SpellsBehind tag entry text = SpellsEntry entry (tag ∷ text)

one_byte : (b : ℕ) → b < 256 → u1 b ≡ b ∷ []
one_byte b small = ap (λ (n : ℕ). n ∷ []) (mod-eq_of_lt small)

-- a word is that of the signed number that it reads as
word_bytes : (n : ℕ) → AreBytes (u4 n)
word_bytes n zero = omega arith
word_bytes n (suc zero) = omega arith
word_bytes n (suc (suc zero)) = omega arith
word_bytes n (suc (suc (suc zero))) = omega arith
word_bytes n (suc (suc (suc (suc k)))) = omega arith

word_read : (n : ℕ) → n < 2 ^ 32 → signed_in 4 (u4 n) ≡ Ok (twos_complement 4 n)
word_read n below = ap (λ (r : Result ℕ InsnFault). Instructions.◌>>=◌ r (λ x. Ok (twos_complement 4 x))) (number_in_bytes 4 n [] below)

signed_word : (n : ℕ) → n < 2 ^ 32 → FitsSigned w32 (twos_complement 4 n) × (u4 n ≡ u4 (cast_unsigned w32 (twos_complement 4 n)))
signed_word n below = let read = signed_read w32 (twos_complement 4 n) (u4 n) (word_bytes n) (word_read n below) in (read.0, read.2)

word_signed : (z : ℤ) → FitsSigned w32 z → (cast_unsigned w32 z < 2 ^ 32) × (twos_complement 4 (cast_unsigned w32 z) ≡ z)
word_signed z fits =
    let below : cast_unsigned w32 z < 2 ^ 32 = (Fits-of_z fits).fits in
    let same : ◌≡◌ {A = Result ℤ InsnFault} (Ok (twos_complement 4 (cast_unsigned w32 z))) (Ok z) = sym (word_read (cast_unsigned w32 z) below) ∙ signed_in_bytes w32 z [] fits in
    (below, cc same)

module _ (size : ℕ) (rest : List ℕ) (bytes : AreBytes rest) where
  utf8_read : (place : ℕ) → IsReadAs (SpellsBehind 1) rest (read_utf8 size place rest)
  utf8_read place =
      then_read _ (number_read size 2 rest bytes) (λ count middle t.
      then_read _ (bytes_read size count middle t.bytes) (λ content left u.
      when (is_mutf8 content) _ _ (λ passed. ends (record {
        text = t.text ++ u.text;
        parts = joined _ _ _ t.parts u.parts;
        spells = (cc, subst (λ (n : ℕ). n < 2 ^ 16) (sym u.spells.1) t.spells.1, (mutf8_decided content).0 passed);
        bytes = u.bytes;
      }))))

  one_read : (tag count : ℕ) (made : ℕ → PoolEntry) → ((n : ℕ) → n < 256 ^ count → SpellsBehind tag (made n) (big_bytes count n)) → IsReadAs (SpellsBehind tag) rest (read_one size count made rest)
  one_read tag count made spells =
      then_read _ (number_read size count rest bytes) (λ n left t. ends (record {
        text = t.text;
        parts = t.parts;
        spells = subst (SpellsBehind tag (made n)) (sym t.spells.0) (spells n t.spells.1);
        bytes = t.bytes;
      }))

  pair_read : (tag : ℕ) (made : ℕ → ℕ → PoolEntry) → ((a b : ℕ) → a < 2 ^ 16 → b < 2 ^ 16 → SpellsBehind tag (made a b) (u2 a ++ u2 b)) → IsReadAs (SpellsBehind tag) rest (read_pair size made rest)
  pair_read tag made spells =
      then_read _ (two_read size rest bytes) (λ p left t. ends (record {
        text = t.text;
        parts = t.parts;
        spells = subst (SpellsBehind tag (made p.0 p.1)) (sym t.spells.0) (spells p.0 p.1 t.spells.1 t.spells.2);
        bytes = t.bytes;
      }))

  handle_read : IsReadAs (SpellsBehind 15) rest (read_handle size rest)
  handle_read =
      then_read _ (number_read size 1 rest bytes) (λ kind middle t.
      then_read _ (number_read size 2 middle t.bytes) (λ target left u. ends (record {
        text = t.text ++ u.text;
        parts = joined _ _ _ t.parts u.parts;
        spells = (cc, t.spells.1, u.spells.1);
        bytes = u.bytes;
      })))

  -- the entries by their tags
  at_tag : (wanted tag : ℕ) (read : Result (PoolEntry × List ℕ) ClassFault) → (tag == wanted) ≡ true → IsReadAs (SpellsBehind wanted) rest read → IsReadAs (SpellsBehind tag) rest read
  at_tag wanted tag read is r = subst (λ (n : ℕ). IsReadAs (SpellsBehind n) rest read) (sym (eqb-true tag wanted is)) r

  indices_read : (place tag : ℕ) → IsReadAs (SpellsBehind tag) rest (read_indices size place tag rest)
  unfolding read_indices
  indices_read place tag =
      either _ (λ is. at_tag 7 tag _ is (one_read 7 2 Class (λ n below. (refl, below)))) (λ _.
      either _ (λ is. at_tag 8 tag _ is (one_read 8 2 Text (λ n below. (refl, below)))) (λ _.
      either _ (λ is. at_tag 9 tag _ is (pair_read 9 FieldRef (λ a b p q. (refl, p, q)))) (λ _.
      either _ (λ is. at_tag 10 tag _ is (pair_read 10 MethodRef (λ a b p q. (refl, p, q)))) (λ _.
      either _ (λ is. at_tag 11 tag _ is (pair_read 11 InterfaceMethodRef (λ a b p q. (refl, p, q)))) (λ _.
      either _ (λ is. at_tag 12 tag _ is (pair_read 12 NameAndType (λ a b p q. (refl, p, q)))) (λ _.
      either _ (λ is. at_tag 16 tag _ is (one_read 16 2 MethodType (λ n below. (refl, below)))) (λ _.
      either _ (λ is. at_tag 18 tag _ is (pair_read 18 InvokeDynamic (λ a b p q. (refl, p, q)))) (λ _. fails))))))))

  integer_read : IsReadAs (SpellsBehind 3) rest (read_one size 4 (λ n. Integer (twos_complement 4 n)) rest)
  integer_read = one_read 3 4 (λ n. Integer (twos_complement 4 n)) (λ n below. let w = signed_word n below in (ap (λ (t : List ℕ). 3 ∷ t) w.1, w.0))

  tagged_read : (place tag : ℕ) → IsReadAs (SpellsBehind tag) rest (read_tagged size place tag rest)
  unfolding read_tagged
  tagged_read place tag =
      either _ (λ is. at_tag 1 tag _ is (utf8_read place)) (λ _.
      either _ (λ is. at_tag 3 tag _ is integer_read) (λ _.
      either _ (λ is. at_tag 4 tag _ is (one_read 4 4 Float (λ n below. (refl, below)))) (λ _.
      either _ (λ is. at_tag 5 tag _ is (one_read 5 8 Long (λ n below. (refl, below)))) (λ _.
      either _ (λ is. at_tag 6 tag _ is (one_read 6 8 Double (λ n below. (refl, below)))) (λ _.
      either _ (λ is. at_tag 15 tag _ is handle_read) (λ _. indices_read place tag))))))

pub entry_read : (size : ℕ) (rest : List ℕ) → AreBytes rest → IsReadAs SpellsEntry rest (read_entry size rest)
unfolding read_entry
entry_read size rest bytes =
    then_read _ (number_read size 1 rest bytes) (λ tag middle t. let more = tagged_read size middle t.bytes (place_of size rest) tag in record {
      takes = λ r is. let u = more.takes r is in record {
        text = tag ∷ u.text;
        parts = t.parts ∙ ap (λ (b : List ℕ). b ++ middle) (t.spells.0 ∙ one_byte tag t.spells.1) ∙ ap (λ (m : List ℕ). tag ∷ m) u.parts;
        spells = u.spells;
        bytes = u.bytes;
      };
    })

module _ (size : ℕ) where
  tag_again : (tag : ℕ) (entry : PoolEntry) {rest text : List ℕ} (spelled left : List ℕ) → tag < 256 → rest ≡ text ++ left → text ≡ tag ∷ spelled
      → read_tagged size (place_of size rest) tag (spelled ++ left) ≡ Ok (entry, left) → read_entry size rest ≡ Ok (entry, left)
  unfolding read_entry
  tag_again tag entry spelled left small parts both is =
      step _ (number_again size 1 tag (spelled ++ left) (split (u1 tag) spelled left parts (both ∙ ap (λ (b : List ℕ). b ++ spelled) (sym (one_byte tag small)))) small) is

  one_again : (tag count n : ℕ) (made : ℕ → PoolEntry) {rest text : List ℕ} (left : List ℕ) → tag < 256 → rest ≡ text ++ left → text ≡ tag ∷ big_bytes count n → n < 256 ^ count
      → ((place : ℕ) (behind : List ℕ) → read_tagged size place tag behind ≡ read_one size count made behind) → read_entry size rest ≡ Ok (made n, left)
  one_again tag count n made left small parts both below by_tag =
      tag_again tag (made n) (big_bytes count n) left small parts both (by_tag _ _ ∙ step _ (number_again size count n left refl below) refl)

  pair_again : (tag a b : ℕ) (made : ℕ → ℕ → PoolEntry) {rest text : List ℕ} (left : List ℕ) → tag < 256 → rest ≡ text ++ left → text ≡ tag ∷ u2 a ++ u2 b → a < 2 ^ 16 → b < 2 ^ 16
      → ((place : ℕ) (behind : List ℕ) → read_tagged size place tag behind ≡ read_pair size made behind) → read_entry size rest ≡ Ok (made a b, left)
  pair_again tag a b made left small parts both p q by_tag =
      tag_again tag (made a b) (u2 a ++ u2 b) left small parts both (by_tag _ _ ∙ step _ (two_again size (a, b) left refl (p, q)) refl)

  utf8_again : (place : ℕ) (content left : List ℕ) → length content < 2 ^ 16 → IsMutf8 content → read_utf8 size place (u2 (length content) ++ content ++ left) ≡ Ok (Utf8 content, left)
  utf8_again place content left short valid =
      step _ (number_again size 2 (length content) (content ++ left) refl short) (step _ (bytes_again size content left refl) (pass _ _ ((mutf8_decided content).1 valid) refl))

  handle_again : (kind target : ℕ) (left : List ℕ) → kind < 2 ^ 8 → target < 2 ^ 16 → read_handle size (u1 kind ++ u2 target ++ left) ≡ Ok (MethodHandle kind target, left)
  handle_again kind target left p q = step _ (number_again size 1 kind (u2 target ++ left) refl p) (step _ (number_again size 2 target left refl q) refl)

  pub entry_again : (entry : PoolEntry) (rest text left : List ℕ) → rest ≡ text ++ left → SpellsEntry entry text → read_entry size rest ≡ Ok (entry, left)
  unfolding read_tagged read_indices
  entry_again Second rest text left parts h = absurd h
  entry_again (Utf8 content) rest text left parts (both, short, valid) = tag_again 1 (Utf8 content) (u2 (length content) ++ content) left (omega arith) parts both (utf8_again _ content left short valid)
  entry_again (Integer n) rest text left parts (both, fits) =
      let word = word_signed n fits in
      one_again 3 4 (cast_unsigned w32 n) (λ x. Integer (twos_complement 4 x)) left (omega arith) parts both word.0 (λ _ _. refl) ∙ ap (λ (z : ℤ). Ok (Integer z, left)) word.1
  entry_again (Float bits) rest text left parts (both, below) = one_again 4 4 bits Float left (omega arith) parts both below (λ _ _. refl)
  entry_again (Long bits) rest text left parts (both, below) = one_again 5 8 bits Long left (omega arith) parts both below (λ _ _. refl)
  entry_again (Double bits) rest text left parts (both, below) = one_again 6 8 bits Double left (omega arith) parts both below (λ _ _. refl)
  entry_again (Class name) rest text left parts (both, below) = one_again 7 2 name Class left (omega arith) parts both below (λ _ _. refl)
  entry_again (Text string) rest text left parts (both, below) = one_again 8 2 string Text left (omega arith) parts both below (λ _ _. refl)
  entry_again (FieldRef class type) rest text left parts (both, p, q) = pair_again 9 class type FieldRef left (omega arith) parts both p q (λ _ _. refl)
  entry_again (MethodRef class type) rest text left parts (both, p, q) = pair_again 10 class type MethodRef left (omega arith) parts both p q (λ _ _. refl)
  entry_again (InterfaceMethodRef class type) rest text left parts (both, p, q) = pair_again 11 class type InterfaceMethodRef left (omega arith) parts both p q (λ _ _. refl)
  entry_again (NameAndType name desc) rest text left parts (both, p, q) = pair_again 12 name desc NameAndType left (omega arith) parts both p q (λ _ _. refl)
  entry_again (MethodHandle kind target) rest text left parts (both, p, q) = tag_again 15 (MethodHandle kind target) (u1 kind ++ u2 target) left (omega arith) parts both (handle_again kind target left p q)
  entry_again (MethodType desc) rest text left parts (both, below) = one_again 16 2 desc MethodType left (omega arith) parts both below (λ _ _. refl)
  entry_again (InvokeDynamic method type) rest text left parts (both, p, q) = pair_again 18 method type InvokeDynamic left (omega arith) parts both p q (λ _ _. refl)

-- ---- the entries of so many indices

-- behind an entry that is owed a second index stands that first
abbrev SpellsOwed : Option ℕ → List PoolEntry → List ℕ → Type 0
SpellsOwed None entries text = SpellsEntries entries text
SpellsOwed (Some place) entries text = (more : List PoolEntry) × (entries ≡ Second ∷ more) × SpellsEntries more text

abbrev SpellsOwedMany : Option ℕ → ℕ → List PoolEntry → List ℕ → Type 0
SpellsOwedMany owed n entries text = SpellsOwed owed entries text × (length entries ≡ n)

with_entry : (place : ℕ) (entry : PoolEntry) (more : List PoolEntry) (first rest : List ℕ) (double : Bool) → is_double entry ≡ double → SpellsEntry entry first
    → SpellsOwed (if double then Some place else None) more rest → SpellsEntries (entry ∷ more) (first ++ rest)
with_entry place entry more first rest true double spelled (others, is, behind) =
    subst (λ (es : List PoolEntry). SpellsEntries (entry ∷ es) (first ++ rest)) (sym is) (twofold entry others first rest double spelled behind)
with_entry place entry more first rest false plain spelled behind = single entry more first rest plain spelled behind

entries_read : (size : ℕ) (owed : Option ℕ) (n : ℕ) (rest : List ℕ) → AreBytes rest → IsReadAs (SpellsOwedMany owed n) rest (read_entries size owed n rest)
unfolding read_entries
entries_read size None zero rest bytes = ends (record { text = []; parts = refl; spells = (no_entry, refl); bytes = bytes })
entries_read size (Some place) zero rest bytes = fails
entries_read size (Some place) (suc n) rest bytes =
    then_read _ (entries_read size None n rest bytes) (λ more left t. ends (record {
      text = t.text;
      parts = t.parts;
      spells = ((more, refl, t.spells.0), ap suc t.spells.1);
      bytes = t.bytes;
    }))
entries_read size None (suc n) rest bytes =
    then_read _ (entry_read size rest bytes) (λ entry middle t.
    then_read _ (entries_read size (owed_by entry (place_of size rest)) n middle t.bytes) (λ more left u. ends (record {
      text = t.text ++ u.text;
      parts = joined _ _ _ t.parts u.parts;
      spells = (with_entry (place_of size rest) entry more t.text u.text (is_double entry) refl t.spells u.spells.0, ap suc u.spells.1);
      bytes = u.bytes;
    })))

entries_again : (size : ℕ) {entries : List PoolEntry} {text : List ℕ} → SpellsEntries entries text → (rest left : List ℕ) → rest ≡ text ++ left → read_entries size None (length entries) rest ≡ Ok (entries, left)
unfolding read_entries
entries_again size no_entry rest left parts = ap (λ (r : List ℕ). Ok ([], r)) parts
entries_again size (single entry more first others plain spelled behind) rest left parts =
    step _ (entry_again size entry rest first (others ++ left) (split first others left parts refl) spelled)
    (step _ (ap (λ (b : Bool). read_entries size (if b then Some (place_of size rest) else None) (length more) (others ++ left)) plain ∙ entries_again size behind (others ++ left) left refl) refl)
entries_again size (twofold entry more first others double spelled behind) rest left parts =
    step _ (entry_again size entry rest first (others ++ left) (split first others left parts refl) spelled)
    (step _ (ap (λ (b : Bool). read_entries size (if b then Some (place_of size rest) else None) (suc (length more)) (others ++ left)) double ∙ step _ (entries_again size behind (others ++ left) left refl) refl) refl)

-- ---- what an entry refers to

pub text_decided : {test : List ℕ → Bool} {P : List ℕ → Type 0} → ((text : List ℕ) → Decides (test text) (P text)) → (o : Option (List ℕ)) → Decides (is_text_that test o) (IsSomeAnd o P)
text_decided each None = (λ e. absurd (cc), λ h. absurd h)
text_decided each (Some text) = each text

any_text : (text : List ℕ) → Decides true (Unit {0})
any_text text = (λ _. tt, λ _. refl)

pub there_decided : (o : Option (List ℕ)) → Decides (is_text o) (IsSomeAnd o (λ _. Unit {0}))
there_decided o = text_decided any_text o

pub there : (P : List ℕ → Type 0) (o : Option (List ℕ)) → IsSomeAnd o P → is_text o ≡ true
there P None h = absurd h
there P (Some text) h = refl

class_decided : (o : Option PoolEntry) → Decides (is_class o) (IsClassEntry o)
class_decided None = (λ e. absurd (cc), λ h. absurd h)
class_decided (Some (Class name)) = (λ e. tt, λ h. refl)
class_decided (Some _) = (λ e. absurd (cc), λ h. absurd h)

named : (P : List ℕ → Type 0) (pool : List PoolEntry) (o : Option PoolEntry) → IsSomeAnd (desc_of pool o) P → is_name_and_type o ≡ true
named P pool None h = absurd h
named P pool (Some (NameAndType name desc)) h = refl
named P pool (Some _) h = absurd h

-- all of the questions pass exactly where P holds
abbrev Passes : List (Bool × ClassCode) → Type 0 → Type 0
Passes asked P = (first_failing asked ≡ None) ↔ P

two_pass : {P : Type 0} (a b : Bool) (c d : ClassCode) → (a ≡ true → b ≡ true → P) → (P → (a ≡ true) × (b ≡ true)) → Passes ((a, c) ∷ (b, d) ∷ []) P
two_pass true true c d holds asked = (λ _. holds refl refl, λ _. refl)
two_pass true false c d holds asked = (λ e. absurd (cc), λ p. absurd (true≢false (sym (asked p).1)))
two_pass false b c d holds asked = (λ e. absurd (cc), λ p. absurd (true≢false (sym (asked p).0)))

one_passes : {P : Type 0} (a : Bool) (c : ClassCode) → Decides a P → Passes ((a, c) ∷ []) P
one_passes true c decided = (λ _. decided.0 refl, λ _. refl)
one_passes false c decided = (λ e. absurd (cc), λ p. absurd (true≢false (sym (decided.1 p))))

type_decided : (text : List ℕ) → Decides (is_field_desc text || is_method_desc text) (IsFieldDesc text ⊎ IsMethodDesc text)
type_decided text = Decides-or _ _ (field_decided text) (method_decided text)

module _ (pool : List PoolEntry) where
  class_passes : (name : ℕ) → Passes (questions pool (Class name)) (RefersWell pool (Class name))
  class_passes name = let text = text_decided class_or_array_decided (utf8_at pool name) in two_pass _ _ _ _ (λ _ e. text.0 e) (λ h. (there IsClassOrArray _ h, text.1 h))

  member_passes : (test : List ℕ → Bool) (P : List ℕ → Type 0) → ((text : List ℕ) → Decides (test text) (P text)) → (class type : ℕ) → Passes (member_questions pool test class type) (IsClassEntry (entry_at pool class) × IsSomeAnd (desc_at pool type) P)
  member_passes test P each class type =
      let desc = text_decided each (desc_at pool type) in
      let of_class = class_decided (entry_at pool class) in
      two_pass _ _ _ _ (λ e f. (of_class.0 (and_parts _ _ e).0, desc.0 f)) (λ h. (and_from _ _ (of_class.1 h.0) (named P pool (entry_at pool type) h.1), desc.1 h.1))

  name_passes : (name desc : ℕ) → Passes (questions pool (NameAndType name desc)) (RefersWell pool (NameAndType name desc))
  name_passes name desc =
      let both = Decides-and _ _ (text_decided member_decided (utf8_at pool name)) (text_decided type_decided (utf8_at pool desc)) in
      two_pass _ _ _ _ (λ _ e. both.0 e) (λ h. (and_from _ _ (there IsMemberName _ h.0) (there (λ text. IsFieldDesc text ⊎ IsMethodDesc text) _ h.1), both.1 h))

  entry_passes : (entry : PoolEntry) → Passes (questions pool entry) (RefersWell pool entry)
  entry_passes (Class name) = class_passes name
  entry_passes (Text text) = one_passes _ _ (there_decided (utf8_at pool text))
  entry_passes (FieldRef class type) = member_passes is_field_desc IsFieldDesc field_decided class type
  entry_passes (MethodRef class type) = member_passes is_method_desc IsMethodDesc method_decided class type
  entry_passes (InterfaceMethodRef class type) = member_passes is_method_desc IsMethodDesc method_decided class type
  entry_passes (NameAndType name desc) = name_passes name desc
  entry_passes _ = (λ _. tt, λ _. refl)

  references_refer : (size : ℕ) (rest : List ℕ) (entries : List PoolEntry) → reference_fault size pool rest entries ≡ None → AllByRecursion (RefersWell pool) entries
  unfolding reference_fault
  references_refer size rest [] is = tt
  references_refer size rest (entry ∷ more) is = by (first_failing (questions pool entry)) refl (λ passed. references_refer size (drop (entry_size entry) rest) more (rw passed at is))
    where
      by : (o : Option ClassCode) → first_failing (questions pool entry) ≡ o → (first_failing (questions pool entry) ≡ None → AllByRecursion (RefersWell pool) more) → AllByRecursion (RefersWell pool) (entry ∷ more)
      by None passed later = ((entry_passes entry).0 passed, later passed)
      by (Some code) failed later = let wrong : Some (fault code (place_of size rest)) ≡ None = rw failed at is in absurd (cc)

  references_pass : (size : ℕ) (rest : List ℕ) (entries : List PoolEntry) → AllByRecursion (RefersWell pool) entries → reference_fault size pool rest entries ≡ None
  unfolding reference_fault
  references_pass size rest [] all = refl
  references_pass size rest (entry ∷ more) (refers, others) = rw ((entry_passes entry).1 refers) (references_pass size (drop (entry_size entry) rest) more others)

-- ---- the pool

abbrev pub SpellsPool : List PoolEntry → List ℕ → Type 0
SpellsPool pool text = (entries : List ℕ) × (text ≡ u2 (length pool + 1) ++ entries) × (length pool + 1 < 2 ^ 16) × SpellsEntries pool entries × AllByRecursion (RefersWell pool) pool

unless_read : {X : Type 0} {Spells : X → List ℕ → Type 0} {rest : List ℕ} (o : Option ClassFault) {next : Result (X × List ℕ) ClassFault} → (o ≡ None → IsReadAs Spells rest next) → IsReadAs Spells rest (unless_fault o next)
unless_read None goes = goes refl
unless_read (Some f) goes = fails

pub pool_read : (size : ℕ) (rest : List ℕ) → AreBytes rest → IsReadAs SpellsPool rest (read_pool_from size rest)
unfolding read_pool_from
pool_read size rest bytes =
    then_read _ (number_read size 2 rest bytes) (λ count middle t.
    then_read _ (when (not (count == 0)) _ _ (λ some. reads_more (entries_read size None (count - 1) middle t.bytes) (counted count some))) (λ pool left u.
    unless_read (reference_fault size pool middle pool) (λ refer. ends (record {
      text = t.text ++ u.text;
      parts = joined _ _ _ t.parts u.parts;
      spells = (u.text, cc (t.spells.0, u.spells.1), subst (λ (n : ℕ). n < 2 ^ 16) (sym u.spells.1) t.spells.1, u.spells.0, references_refer pool size middle pool refer);
      bytes = u.bytes;
    }))))
  where
    counted : (count : ℕ) → not (count == 0) ≡ true → (pool : List PoolEntry) (text : List ℕ) → SpellsOwedMany None (count - 1) pool text → SpellsEntries pool text × (length pool + 1 ≡ count)
    counted count some pool text h = (h.0, grind (arith, nat_tests, h.1))

pub pool_again : (size : ℕ) (pool : List PoolEntry) (rest text left : List ℕ) → rest ≡ text ++ left → SpellsPool pool text → read_pool_from size rest ≡ Ok (pool, left)
unfolding read_pool_from
pool_again size pool rest text left parts (entries, both, short, spelled, refer) =
    let some : not (length pool + 1 == 0) ≡ true = grind (arith, nat_tests) in
    let count : length pool + 1 - 1 ≡ length pool = omega arith in
    step _ (number_again size 2 (length pool + 1) (entries ++ left) (split (u2 (length pool + 1)) entries left parts both) short)
    (step _ (pass _ _ some (ap (λ (n : ℕ). read_entries size None n (entries ++ left)) count ∙ entries_again size spelled (entries ++ left) left refl))
    (ap (λ (o : Option ClassFault). unless_fault o (Ok (pool, left))) (references_pass pool size (entries ++ left) pool refer)))
