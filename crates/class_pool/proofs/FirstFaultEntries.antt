-- The entries of the pool: reading them stops with exactly the faults of the relations by items, and else gives what they spell.
use Rattle.std.proofs.Common.{◌≡◌, ℕ, zero, suc, ◌+◌, Bool, true, false, ◌==◌, if◌then◌else◌, List, [], ◌∷◌, ◌++◌, length, Option, Some, None, Result, Ok, Err, inl, inr, refl, sym, ap, subst, ◌∙◌, arith}
use Rattle.std.proofs.lemmas.Bool.{cases_Bool, eqb-true}
use Rattle.std.proofs.lemmas.Bool.Decides.{Decides-eqb, not_from_Decides}
use Rattle.jo_insn.proofs.Numbers.{AreBytes}
use Rattle.jo_text.proofs.TestLaws.{mutf8_decided}
use Rattle.class_pool.specs.declared.entries.PoolEntry.{PoolEntry}
use Rattle.class_pool.specs.declared.entries.PoolEntry.TheVariants.{Second}
use Rattle.class_pool.specs.declared.faults.ClassCode.TheVariants.{PoolIndex}
use Rattle.class_pool.specs.declared.faults.ClassFault.{ClassFault}
use Rattle.class_pool.specs.Items.{◌>>=◌, place_of, fault}
use Rattle.class_pool.specs.Pool.{is_double, read_utf8, read_one, read_pair, read_handle, read_indices, read_tagged, read_entry, owed_by, read_entries}
use Rattle.class_pool.specs.ClassGrammar.{SpellsEntry, SpellsEntries, no_entry, single, twofold}
use Rattle.class_pool.specs.FirstFaultItems.{IsCut, Either}
use Rattle.class_pool.specs.FirstFaultPool.{bytes_behind, Utf8Stops, OtherStops, EntryStops, EntriesStop, an_entry, no_room, SpellsIndices}
use Rattle.class_pool.proofs.GrammarNumbers.{Takes, by_answer, joined, split}
use Rattle.class_pool.proofs.Many.{with_front, with_first}
use Rattle.class_pool.proofs.GrammarPool.{entry_read, entry_again}
use Rattle.class_pool.proofs.FirstFaultSteps.{StopsBy, Reads, never, only, then_ok, part, check, either_one, either_other, cut, number_reads, bytes_reads, two_reads, cut_join, goes_on, nothing_before, front_of_both}

-- ---- an entry

module _ (size : ℕ) (rest : List ℕ) (bytes : AreBytes rest) where
  utf8_stops : (place : ℕ) → StopsBy (read_utf8 size place rest) (Utf8Stops size place rest)
  utf8_stops place =
      part (number_reads size 2) rest bytes _ (λ count at_text t.
      part (bytes_reads size count) at_text t.bytes _ (λ text left u.
      check _ _ _ (mutf8_decided text) (λ _. never)))

  one_stops : (count : ℕ) (made : ℕ → PoolEntry) → StopsBy (read_one size count made rest) (IsCut size count rest)
  one_stops count made = then_ok _ _ (cut size count rest _)

  pair_stops : (made : ℕ → ℕ → PoolEntry) → StopsBy (read_pair size made rest) (IsCut size 4 rest)
  pair_stops made = then_ok _ _ ((two_reads size).stopped rest bytes)

  handle_stops : StopsBy (read_handle size rest) (IsCut size 3 rest)
  handle_stops = cut_join size 1 2 (number_reads size 1) (λ n text h. ap length h.0) rest bytes _ (λ kind left b. then_ok _ _ (cut size 2 left _))

  by_tag : (place : ℕ) (test : Bool) {this other : Result (PoolEntry × List ℕ) ClassFault} (count : ℕ) (others : Option ℕ) → StopsBy this (IsCut size count rest) → StopsBy other (OtherStops size place others rest)
      → StopsBy (if test then this else other) (OtherStops size place (if test then Some count else others) rest)
  by_tag place true count others first second = first
  by_tag place false count others first second = second

  other_stops : (place tag : ℕ) → (tag == 1) ≡ false → StopsBy (read_tagged size place tag rest) (OtherStops size place (bytes_behind tag) rest)
  unfolding read_tagged read_indices
  other_stops place tag is = rw is
      (by_tag place (tag == 3) _ _ (one_stops 4 _)
      (by_tag place (tag == 4) _ _ (one_stops 4 _)
      (by_tag place (tag == 5) _ _ (one_stops 8 _)
      (by_tag place (tag == 6) _ _ (one_stops 8 _)
      (by_tag place (tag == 15) _ _ handle_stops
      (by_tag place (tag == 7) _ _ (one_stops 2 _)
      (by_tag place (tag == 8) _ _ (one_stops 2 _)
      (by_tag place (tag == 9) _ _ (pair_stops _)
      (by_tag place (tag == 10) _ _ (pair_stops _)
      (by_tag place (tag == 11) _ _ (pair_stops _)
      (by_tag place (tag == 12) _ _ (pair_stops _)
      (by_tag place (tag == 16) _ _ (one_stops 2 _)
      (by_tag place (tag == 18) _ _ (pair_stops _) only)))))))))))))

  tagged_stops : (place tag : ℕ) → StopsBy (read_tagged size place tag rest) (Either (tag ≡ 1) (Utf8Stops size place rest) (OtherStops size place (bytes_behind tag) rest))
  unfolding read_tagged
  tagged_stops place tag = elim (cases_Bool (tag == 1)) [
    | inl is ↦ either_one (eqb-true tag 1 is) (rw is (utf8_stops place))
    | inr other ↦ either_other (not_from_Decides _ (Decides-eqb tag 1) other) (other_stops place tag other)
  ]

pub entry_reads : (size : ℕ) → Reads (read_entry size) SpellsEntry (EntryStops size)
unfolding read_entry
entry_reads size = record {
  spelled = entry_read size;
  spells = entry_again size;
  stopped = λ rest bytes. part (number_reads size 1) rest bytes _ (λ tag left t. tagged_stops size left t.bytes (place_of size rest) tag);
}

-- ---- the entries of so many indices

module _ (size : ℕ) where
  -- what reading gives where an entry before is owed a second index or none
  abbrev pub Answers : Option ℕ → ℕ → List ℕ → Result (List PoolEntry × List ℕ) ClassFault → Type 0
  Answers None n rest (Ok r) = Takes (SpellsIndices n) rest r.0 r.1
  Answers None n rest (Err f) = EntriesStop size n rest f
  Answers (Some place) zero rest (Ok r) = ⊥
  Answers (Some place) zero rest (Err f) = f ≡ fault PoolIndex place
  Answers (Some place) (suc n) rest (Ok r) = (more : List PoolEntry) × (r.0 ≡ Second ∷ more) × Takes (SpellsIndices n) rest more r.1
  Answers (Some place) (suc n) rest (Err f) = EntriesStop size n rest f

  second_index : (place n : ℕ) (rest : List ℕ) (read : Result (List PoolEntry × List ℕ) ClassFault) → Answers None n rest read → Answers (Some place) (suc n) rest (read >>= λ others. Ok (Second ∷ others.0, others.1))
  second_index place n rest (Ok r) t = (r.0, refl, t)
  second_index place n rest (Err f) stopped = stopped

  module _ (entry : PoolEntry) (rest middle : List ℕ) (t : Takes SpellsEntry rest entry middle) where
    behind_single : (n : ℕ) (f : ClassFault) → is_double entry ≡ false → EntriesStop size n middle f → EntriesStop size (suc n) rest f
    behind_single n f plain (an_entry before text left parts spelled fewer next) =
        an_entry (entry ∷ before) (t.text ++ text) left (joined _ _ _ t.parts parts) (single entry before t.text text plain t.spells spelled) (omega (arith, fewer)) next
    behind_single n f plain (no_room before text left last first others parts spelled full at_last one double is) =
        no_room (entry ∷ before) (t.text ++ text) left last first others (joined _ _ _ t.parts parts) (single entry before t.text text plain t.spells spelled) (omega (arith, full)) at_last one double is

    behind_double : (n : ℕ) (f : ClassFault) → is_double entry ≡ true → EntriesStop size n middle f → EntriesStop size (suc (suc n)) rest f
    behind_double n f double (an_entry before text left parts spelled fewer next) =
        an_entry (entry ∷ Second ∷ before) (t.text ++ text) left (joined _ _ _ t.parts parts) (twofold entry before t.text text double t.spells spelled) (omega (arith, fewer)) next
    behind_double n f double (no_room before text left last first others parts spelled full at_last one doubled is) =
        no_room (entry ∷ Second ∷ before) (t.text ++ text) left last first others (joined _ _ _ t.parts parts) (twofold entry before t.text text double t.spells spelled) (omega (arith, full)) at_last one doubled is

    first_entry : (double : Bool) → is_double entry ≡ double → (n : ℕ) (read : Result (List PoolEntry × List ℕ) ClassFault) → Answers (if double then Some (place_of size rest) else None) n middle read
        → Answers None (suc n) rest (read >>= λ others. Ok (entry ∷ others.0, others.1))
    first_entry false plain n (Ok r) u = record {
      text = t.text ++ u.text;
      parts = joined _ _ _ t.parts u.parts;
      spells = (single entry r.0 t.text u.text plain t.spells u.spells.0, ap suc u.spells.1);
      bytes = u.bytes;
    }
    first_entry false plain n (Err f) stopped = behind_single n f plain stopped
    first_entry true double zero (Ok r) none = absurd none
    first_entry true double zero (Err f) is = no_room [] [] rest entry t.text middle refl no_entry refl t.parts t.spells double is
    first_entry true double (suc n) (Ok r) (more, is, u) = record {
      text = t.text ++ u.text;
      parts = joined _ _ _ t.parts u.parts;
      spells = (subst (λ (es : List PoolEntry). SpellsEntries (entry ∷ es) (t.text ++ u.text)) (sym is) (twofold entry more t.text u.text double t.spells u.spells.0), ap suc (ap length is ∙ ap suc u.spells.1));
      bytes = u.bytes;
    }
    first_entry true double (suc n) (Err f) stopped = behind_double n f double stopped

  pub entries_answer : (owed : Option ℕ) (n : ℕ) (rest : List ℕ) → AreBytes rest → Answers owed n rest (read_entries size owed n rest)
  unfolding read_entries
  entries_answer None zero rest bytes = record { text = []; parts = refl; spells = (no_entry, refl); bytes = bytes }
  entries_answer (Some place) zero rest bytes = refl
  entries_answer (Some place) (suc n) rest bytes = second_index place n rest (read_entries size None n rest) (entries_answer None n rest bytes)
  entries_answer None (suc n) rest bytes = by_answer (read_entry size rest)
      (λ f failed. rw failed (an_entry [] [] rest refl no_entry (omega arith) (((entry_reads size).stopped rest bytes).found f failed)))
      (λ o given.
      let t = (entry_read size rest bytes).takes o given in
      rw given (first_entry o.0 rest o.1 t (is_double o.0) refl n _ (entries_answer (owed_by o.0 (place_of size rest)) n o.1 t.bytes)))

  -- what is read behind entries that are spelled so
  then_more : (entry : PoolEntry) {read other : Result (List PoolEntry × List ℕ) ClassFault} → read ≡ other → with_first entry read ≡ with_first entry other
  then_more entry same = ap (with_first entry) same

  pub behind_entries : {before : List PoolEntry} {text : List ℕ} → SpellsEntries before text → (n k : ℕ) (rest left : List ℕ) → n ≡ length before + k → rest ≡ text ++ left
      → read_entries size None n rest ≡ with_front before (read_entries size None k left)
  unfolding read_entries
  behind_entries no_entry n k rest left count parts =
      let same : n ≡ k = omega (arith, count) in
      ap (λ (m : ℕ). read_entries size None m rest) same ∙ ap (read_entries size None k) parts ∙ nothing_before _
  behind_entries (single entry more first others plain spelled after) zero k rest left count parts = absurd (omega (arith, count))
  behind_entries (single entry more first others plain spelled after) (suc n) k rest left count parts =
      goes_on _ (entry_again size entry rest first (others ++ left) (split first others left parts refl) spelled)
      (rw plain (then_more entry (behind_entries after n k (others ++ left) left (omega (arith, count)) refl) ∙ front_of_both (entry ∷ []) more _))
  behind_entries (twofold entry more first others double spelled after) zero k rest left count parts = absurd (omega (arith, count))
  behind_entries (twofold entry more first others double spelled after) (suc zero) k rest left count parts = absurd (omega (arith, count))
  behind_entries (twofold entry more first others double spelled after) (suc (suc n)) k rest left count parts =
      goes_on _ (entry_again size entry rest first (others ++ left) (split first others left parts refl) spelled)
      (rw double (then_more entry (then_more Second (behind_entries after n k (others ++ left) left (omega (arith, count)) refl) ∙ front_of_both (Second ∷ []) more _) ∙ front_of_both (entry ∷ []) (Second ∷ more) _))
