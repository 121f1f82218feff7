-- What the entries of the pool refer to, and the whole pool: reading stops with exactly the faults of the relations by items.
use Rattle.std.proofs.Common.{◌≡◌, ◌↔◌, ℕ, suc, ◌-◌, Bool, true, false, ◌==◌, not, List, [], ◌∷◌, ◌++◌, length, drop, Option, Some, None, Result, Ok, Err, refl, sym, ap, subst, ◌∙◌, arith}
use Rattle.std.specs.Prelude.{IsSomeAnd}
use Rattle.std.specs.Bool.{Decides}
use Rattle.std.specs.List.{AllByRecursion}
use Rattle.std.proofs.lemmas.Bool.{true≢false}
use Rattle.std.proofs.lemmas.Bool.Decides.{Decides-and, Decides-or, Decides-eqb, Decides-not}
use Rattle.std.proofs.lemmas.List.{append-nil, drop_at}
use Rattle.jo_insn.proofs.Numbers.{AreBytes}
use Rattle.jo_text.specs.Descriptors.{IsFieldDesc, IsMethodDesc}
use Rattle.jo_text.specs.Tests.{is_field_desc, is_method_desc}
use Rattle.jo_text.proofs.TestLaws.{field_decided, method_decided, member_decided, class_or_array_decided}
use Rattle.class_pool.specs.declared.entries.PoolEntry.{PoolEntry}
use Rattle.class_pool.specs.declared.entries.PoolEntry.TheVariants.{Second, Utf8, Integer, Float, Long, Double, Class, Text, FieldRef, MethodRef, InterfaceMethodRef, NameAndType, MethodHandle, MethodType, InvokeDynamic}
use Rattle.class_pool.specs.declared.faults.ClassCode.{ClassCode}
use Rattle.class_pool.specs.declared.faults.ClassCode.TheVariants.{PoolIndex, BadDescriptor}
use Rattle.class_pool.specs.declared.faults.ClassFault.{ClassFault}
use Rattle.class_pool.specs.Items.{place_of, fault}
use Rattle.class_pool.specs.Pool.{entry_at, utf8_at, desc_at, is_double, is_class, is_name_and_type, read_entries, questions, member_questions, first_failing, entry_size, reference_fault, unless_fault, read_pool_from, pool_of}
use Rattle.class_pool.specs.ClassGrammar.{SpellsEntry, SpellsEntries, no_entry, single, twofold, IsClassEntry, RefersWell}
use Rattle.class_pool.specs.FirstFaultItems.{Never, Check}
use Rattle.class_pool.specs.FirstFaultPool.{IsNameAndTypeEntry, NamesWell, ReferenceStops, ReferencesStop, EntriesStop, an_entry, no_room, SpellsIndices, PoolStops, SpellsPool}
use Rattle.class_pool.proofs.GrammarNumbers.{joined, split}
use Rattle.class_pool.proofs.GrammarPool.{text_decided, there_decided, pool_read, pool_again}
use Rattle.class_pool.proofs.FirstFaultSteps.{StopsBy, Reads, never, part, check, asked, ask, by_question, regroup_check, number_reads, bytes_left}
use Rattle.class_pool.proofs.FirstFaultEntries.{entry_reads, Answers, entries_answer, behind_entries}

-- ---- what is asked of an entry

-- the questions stop so, and all of them pass exactly where the second fact holds
record AreAsked (these : List (Bool × ClassCode)) (P Q : Type 0) (place : ℕ) : Type 0 where
  stopped : StopsBy (asked (first_failing these) place) (λ f. Check P PoolIndex place (Check Q BadDescriptor place Never) f)
  passed : (first_failing these ≡ None) ↔ Q

none_asked : (place : ℕ) → AreAsked [] (Unit {0}) (Unit {0}) place
none_asked place = record { stopped = check PoolIndex place true (λ _. tt, λ _. refl) (λ _. check BadDescriptor place true (λ _. tt, λ _. refl) (λ _. never)); passed = (λ _. tt, λ _. refl) }

one_asked : {P : Type 0} (place : ℕ) (a : Bool) → Decides a P → AreAsked ((a, PoolIndex) ∷ []) P P place
one_asked place a decides = record { stopped = ask a PoolIndex place [] decides (λ holds. check BadDescriptor place true (λ _. holds, λ _. refl) (λ _. never)); passed = both a decides }
  where
    both : {P : Type 0} (a : Bool) → Decides a P → (first_failing ((a, PoolIndex) ∷ []) ≡ None) ↔ P
    both true decides = (λ _. decides.0 refl, λ _. refl)
    both false decides = (λ is. absurd (cc), λ holds. absurd (true≢false (sym (decides.1 holds))))

two_asked : {P Q : Type 0} (place : ℕ) (a b : Bool) → Decides a P → (P → Decides b Q) → (Q → P) → AreAsked ((a, PoolIndex) ∷ (b, BadDescriptor) ∷ []) P Q place
two_asked place a b first second before = record { stopped = ask a PoolIndex place ((b, BadDescriptor) ∷ []) first (λ p. ask b BadDescriptor place [] (second p) (λ _. never)); passed = both a b first second before }
  where
    both : {P Q : Type 0} (a b : Bool) → Decides a P → (P → Decides b Q) → (Q → P) → (first_failing ((a, PoolIndex) ∷ (b, BadDescriptor) ∷ []) ≡ None) ↔ Q
    both true true first second before = (λ _. (second (first.0 refl)).0 refl, λ _. refl)
    both true false first second before = (λ is. absurd (cc), λ q. absurd (true≢false (sym ((second (before q)).1 q))))
    both false b first second before = (λ is. absurd (cc), λ q. absurd (true≢false (sym (first.1 (before q)))))

is_class_entry : (o : Option PoolEntry) → Decides (is_class o) (IsClassEntry o)
is_class_entry None = (λ e. absurd (cc), λ h. absurd h)
is_class_entry (Some (Class name)) = (λ e. tt, λ h. refl)
is_class_entry (Some _) = (λ e. absurd (cc), λ h. absurd h)

is_type_entry : (o : Option PoolEntry) → Decides (is_name_and_type o) (IsNameAndTypeEntry o)
is_type_entry None = (λ e. absurd (cc), λ h. absurd h)
is_type_entry (Some (NameAndType name desc)) = (λ e. tt, λ h. refl)
is_type_entry (Some _) = (λ e. absurd (cc), λ h. absurd h)

module _ (pool : List PoolEntry) (place : ℕ) where
  has_desc : (P : List ℕ → Type 0) (type : ℕ) → IsSomeAnd (desc_at pool type) P → IsNameAndTypeEntry (entry_at pool type)
  has_desc P type = by (entry_at pool type) refl
    where
      by : (o : Option PoolEntry) → entry_at pool type ≡ o → IsSomeAnd (desc_at pool type) P → IsNameAndTypeEntry (entry_at pool type)
      by None is = rw is (λ h. absurd h)
      by (Some (NameAndType name desc)) is = rw is (λ h. tt)
      by (Some _) is = rw is (λ h. absurd h)

  has_text : (P : List ℕ → Type 0) (o : Option (List ℕ)) → IsSomeAnd o P → IsSomeAnd o (λ _. Unit {0})
  has_text P None h = absurd h
  has_text P (Some text) h = tt

  member_asked : (test : List ℕ → Bool) (P : List ℕ → Type 0) → ((text : List ℕ) → Decides (test text) (P text)) → (class type : ℕ)
      → AreAsked (member_questions pool test class type) (IsClassEntry (entry_at pool class) × IsNameAndTypeEntry (entry_at pool type)) (IsClassEntry (entry_at pool class) × IsSomeAnd (desc_at pool type) P) place
  member_asked test P each class type =
      let desc = text_decided each (desc_at pool type) in
      two_asked place _ _ (Decides-and _ _ (is_class_entry (entry_at pool class)) (is_type_entry (entry_at pool type))) (λ names. (λ e. (names.0, desc.0 e), λ h. desc.1 h.1)) (λ h. (h.0, has_desc P type h.1))

  entry_asked : (entry : PoolEntry) → AreAsked (questions pool entry) (NamesWell pool entry) (RefersWell pool entry) place
  entry_asked (Class name) = two_asked place _ _ (there_decided (utf8_at pool name)) (λ _. text_decided class_or_array_decided (utf8_at pool name)) (has_text _ (utf8_at pool name))
  entry_asked (Text text) = one_asked place _ (there_decided (utf8_at pool text))
  entry_asked (FieldRef class type) = member_asked is_field_desc IsFieldDesc field_decided class type
  entry_asked (MethodRef class type) = member_asked is_method_desc IsMethodDesc method_decided class type
  entry_asked (InterfaceMethodRef class type) = member_asked is_method_desc IsMethodDesc method_decided class type
  entry_asked (NameAndType name desc) =
      two_asked place _ _ (Decides-and _ _ (there_decided (utf8_at pool name)) (there_decided (utf8_at pool desc)))
      (λ _. Decides-and _ _ (text_decided member_decided (utf8_at pool name)) (text_decided (λ text. Decides-or _ _ (field_decided text) (method_decided text)) (utf8_at pool desc)))
      (λ h. (has_text _ (utf8_at pool name) h.0, has_text _ (utf8_at pool desc) h.1))
  entry_asked _ = none_asked place

-- ---- the references in order

entry_long : (entry : PoolEntry) (text : List ℕ) → SpellsEntry entry text → length text ≡ entry_size entry
entry_long Second text h = absurd h
entry_long (Utf8 content) text h = let is = ap length h.0 in omega (arith, is)
entry_long (Integer n) text h = ap length h.0
entry_long (Float bits) text h = ap length h.0
entry_long (Long bits) text h = ap length h.0
entry_long (Double bits) text h = ap length h.0
entry_long (Class name) text h = ap length h.0
entry_long (Text string) text h = ap length h.0
entry_long (FieldRef class type) text h = ap length h.0
entry_long (MethodRef class type) text h = ap length h.0
entry_long (InterfaceMethodRef class type) text h = ap length h.0
entry_long (NameAndType name desc) text h = ap length h.0
entry_long (MethodHandle kind target) text h = ap length h.0
entry_long (MethodType desc) text h = ap length h.0
entry_long (InvokeDynamic method type) text h = ap length h.0

behind_entry : (entry : PoolEntry) (rest text left : List ℕ) → rest ≡ text ++ left → SpellsEntry entry text → drop (entry_size entry) rest ≡ left
behind_entry entry rest text left parts spelled = ap (drop (entry_size entry)) parts ∙ drop_at text left (entry_size entry) (entry_long entry text spelled)

module _ (size : ℕ) (pool : List PoolEntry) where
  fault_here : (entry : PoolEntry) (more : List PoolEntry) (rest : List ℕ) (code : ClassCode) (f : ClassFault) → first_failing (questions pool entry) ≡ Some code → reference_fault size pool rest (entry ∷ more) ≡ Some f
      → ReferencesStop size pool (entry ∷ more) rest f
  unfolding reference_fault
  fault_here entry more rest code f failed is =
      let same : Some (fault code (place_of size rest)) ≡ Some f = rw failed at is in
      let here : fault code (place_of size rest) ≡ f = cc in record {
        before = [];
        entry = entry;
        more = more;
        text = [];
        left = rest;
        among = refl;
        parts = refl;
        spelled = no_entry;
        refer = tt;
        next = (entry_asked pool (place_of size rest) entry).stopped.found f (rw failed (ap Err here));
      }

  -- behind an entry that refers well
  module _ (entry : PoolEntry) (more : List PoolEntry) (first others rest left : List ℕ) (f : ClassFault) (parts : rest ≡ first ++ (others ++ left)) (spelled : SpellsEntry entry first) (refers : RefersWell pool entry) where
    behind_single : is_double entry ≡ false → ReferencesStop size pool more (others ++ left) f → ReferencesStop size pool (entry ∷ more) rest f
    behind_single plain later = record {
      before = entry ∷ later.before;
      entry = later.entry;
      more = later.more;
      text = first ++ later.text;
      left = later.left;
      among = ap (λ (es : List PoolEntry). entry ∷ es) later.among;
      parts = joined first later.text later.left parts later.parts;
      spelled = single entry later.before first later.text plain spelled later.spelled;
      refer = (refers, later.refer);
      next = later.next;
    }

    behind_double : is_double entry ≡ true → ReferencesStop size pool more (others ++ left) f → ReferencesStop size pool (entry ∷ Second ∷ more) rest f
    behind_double double later = record {
      before = entry ∷ Second ∷ later.before;
      entry = later.entry;
      more = later.more;
      text = first ++ later.text;
      left = later.left;
      among = ap (λ (es : List PoolEntry). entry ∷ Second ∷ es) later.among;
      parts = joined first later.text later.left parts later.parts;
      spelled = twofold entry later.before first later.text double spelled later.spelled;
      refer = (refers, (tt, later.refer));
      next = later.next;
    }

  references_found : {these : List PoolEntry} {text : List ℕ} → SpellsEntries these text → (rest left : List ℕ) → rest ≡ text ++ left → (f : ClassFault) → reference_fault size pool rest these ≡ Some f → ReferencesStop size pool these rest f
  unfolding reference_fault
  references_found no_entry rest left parts f is = absurd (cc)
  references_found (single entry more first others plain spelled behind) rest left parts f is = by_question (first_failing (questions pool entry))
      (λ passed.
      let at_others = split first others left parts refl in
      let after = behind_entry entry rest first (others ++ left) at_others spelled in
      behind_single entry more first others rest left f at_others spelled ((entry_asked pool 0 entry).passed.0 passed) plain (references_found behind (others ++ left) left refl f (rw (passed, after) at is)))
      (λ code failed. fault_here entry more rest code f failed is)
  references_found (twofold entry more first others double spelled behind) rest left parts f is = by_question (first_failing (questions pool entry))
      (λ passed.
      let at_others = split first others left parts refl in
      let after = behind_entry entry rest first (others ++ left) at_others spelled in
      behind_double entry more first others rest left f at_others spelled ((entry_asked pool 0 entry).passed.0 passed) double (references_found behind (others ++ left) left refl f (rw (passed, after) at is)))
      (λ code failed. fault_here entry (Second ∷ more) rest code f failed is)

  references_again : {before : List PoolEntry} {text : List ℕ} → SpellsEntries before text → (rest left : List ℕ) (entry : PoolEntry) (more : List PoolEntry) (f : ClassFault) → rest ≡ text ++ left → AllByRecursion (RefersWell pool) before
      → ReferenceStops pool entry (place_of size left) f → reference_fault size pool rest (before ++ entry ∷ more) ≡ Some f
  unfolding reference_fault
  references_again no_entry rest left entry more f parts all next = by_question (first_failing (questions pool entry))
      (λ passed. let wrong : Ok tt ≡ Err f = rw passed at ((entry_asked pool (place_of size left) entry).stopped.again f next) in absurd (cc))
      (λ code failed.
      let is : ◌≡◌ {A = Result (Unit {0}) ClassFault} (Err (fault code (place_of size left))) (Err f) = rw failed at ((entry_asked pool (place_of size left) entry).stopped.again f next) in
      let same : fault code (place_of size left) ≡ f = cc in
      rw (parts, failed) (ap Some same))
  references_again (single first_entry others_of first others plain spelled behind) rest left entry more f parts (refers, all) next =
      let after = behind_entry first_entry rest first (others ++ left) (split first others left parts refl) spelled in
      rw ((entry_asked pool 0 first_entry).passed.1 refers, after) (references_again behind (others ++ left) left entry more f refl all next)
  references_again (twofold first_entry others_of first others double spelled behind) rest left entry more f parts (refers, (_, all)) next =
      let after = behind_entry first_entry rest first (others ++ left) (split first others left parts refl) spelled in
      rw ((entry_asked pool 0 first_entry).passed.1 refers, after) (references_again behind (others ++ left) left entry more f refl all next)

  unless_stops : {A : Type 0} (a : A) {Stops : ClassFault → Type 0} (o : Option ClassFault) → ((f : ClassFault) → (o ≡ Some f) ↔ Stops f) → StopsBy (unless_fault o (Ok a)) Stops
  unless_stops a None same = record { found = λ f is. absurd (cc); again = λ f is. let wrong = (same f).1 is in absurd (cc) }
  unless_stops a (Some g) same = record { found = λ f is. (same f).0 (let e : g ≡ f = cc in ap Some e); again = λ f is. let e = (same f).1 is in cc }

  pub references_stop : {A : Type 0} (a : A) (these : List PoolEntry) (text rest left : List ℕ) → SpellsEntries these text → rest ≡ text ++ left → StopsBy (unless_fault (reference_fault size pool rest these) (Ok a)) (ReferencesStop size pool these rest)
  references_stop a these text rest left spelled parts = unless_stops a (reference_fault size pool rest these) (λ f. (
    references_found spelled rest left parts f,
    λ r. subst (λ (es : List PoolEntry). reference_fault size pool rest es ≡ Some f) (sym r.among) (references_again r.spelled rest r.left r.entry r.more f r.parts r.refer r.next),
  ))

-- ---- the pool

module _ (size n : ℕ) where
  again_entries : (rest : List ℕ) → AreBytes rest → (f : ClassFault) → EntriesStop size n rest f → read_entries size None n rest ≡ Err f
  unfolding read_entries
  again_entries rest bytes f (an_entry before text left parts spelled fewer next) =
      let k : ℕ = n - suc (length before) in
      let failed = ((entry_reads size).stopped left (bytes_left rest text left parts bytes)).again f next in
      behind_entries size spelled n (suc k) rest left (omega arith) parts ∙ rw failed refl
  again_entries rest bytes f (no_room before text left last first others parts spelled full at_last one double is) =
      behind_entries size spelled n 1 rest left (sym full) parts ∙ rw ((entry_reads size).spells last left first others at_last one, double) (ap Err (sym is))

  entries_reads : Reads (read_entries size None n) (SpellsIndices n) (EntriesStop size n)
  unfolding read_entries
  entries_reads = record {
    spelled = λ rest bytes. record { takes = λ r is. subst (Answers size None n rest) is (entries_answer size None n rest bytes) };
    spells = λ entries rest text left parts h. behind_entries size h.0 n 0 rest left (omega (arith, h.1)) parts ∙ ap (λ (es : List PoolEntry). Ok (es, left)) (append-nil entries);
    stopped = λ rest bytes. record { found = λ f is. subst (Answers size None n rest) is (entries_answer size None n rest bytes); again = again_entries rest bytes };
  }

pub pool_reads : (size : ℕ) → Reads (read_pool_from size) SpellsPool (PoolStops size)
unfolding read_pool_from
pool_reads size = record {
  spelled = pool_read size;
  spells = pool_again size;
  stopped = λ rest bytes.
      part (number_reads size 2) rest bytes _ (λ count entries t.
      let more : List PoolEntry × List ℕ → Result (List PoolEntry × List ℕ) ClassFault = λ read. unless_fault (reference_fault size read.0 entries read.0) (Ok read) in
      regroup_check (not (count == 0)) PoolIndex (place_of size rest) (read_entries size None (count - 1) entries) more
      (check PoolIndex (place_of size rest) (not (count == 0)) (Decides-not (count == 0) (Decides-eqb count 0)) (λ some.
      part (entries_reads size (count - 1)) entries t.bytes more (λ pool left u.
      references_stop size pool (pool, left) pool u.text entries left u.spells.0 u.parts))));
}

pub pool_fault : (file : List ℕ) (f : ClassFault) → AreBytes (drop 8 file) → (pool_of file ≡ Err f) ↔ PoolStops (length file) (drop 8 file) f
pool_fault file f bytes = let by = (pool_reads (length file)).stopped (drop 8 file) bytes in (by.found f, by.again f)
