-- Where the constant pool stops first (JVM Specification SE 8, 4.4): first all of its entries, then what they refer to.
use Rattle.std.specs.Prelude.{◌≡◌, ℕ, ◌+◌, ◌-◌, ◌^◌, ◌<◌, true, ◌==◌, if◌then◌else◌, List, ◌∷◌, ◌++◌, length, Option, Some, None, IsSomeAnd}
use Rattle.std.specs.List.{AllByRecursion}
use Rattle.jo_text.specs.Mutf8.{IsMutf8}
use Rattle.class_pool.specs.declared.entries.PoolEntry.{PoolEntry}
use Rattle.class_pool.specs.declared.entries.PoolEntry.TheVariants.{Class, Text, FieldRef, MethodRef, InterfaceMethodRef, NameAndType}
use Rattle.class_pool.specs.declared.faults.ClassCode.TheVariants.{PoolTag, PoolIndex, BadText, BadDescriptor}
use Rattle.class_pool.specs.declared.faults.ClassFault.{ClassFault}
use Rattle.class_pool.specs.Items.{place_of, fault}
use Rattle.class_pool.specs.Pool.{entry_at, utf8_at, is_double}
use Rattle.class_pool.specs.ClassGrammar.{u2, SpellsEntry, SpellsEntries, IsClassEntry, RefersWell}
use Rattle.class_pool.specs.FirstFaultItems.{IsCut, Never, Check, Either, Item, Number, Bytes}

-- ---- entries

-- how many bytes stand behind the tag of an entry that is no Utf8; none where no entry has this tag
abbrev pub bytes_behind : ℕ → Option ℕ
bytes_behind tag =
    if tag == 3 then Some 4
    else if tag == 4 then Some 4
    else if tag == 5 then Some 8
    else if tag == 6 then Some 8
    else if tag == 15 then Some 3
    else if tag == 7 then Some 2
    else if tag == 8 then Some 2
    else if tag == 9 then Some 4
    else if tag == 10 then Some 4
    else if tag == 11 then Some 4
    else if tag == 12 then Some 4
    else if tag == 16 then Some 2
    else if tag == 18 then Some 4
    else None

-- behind the tag, which stands at this place: a Utf8, and any other entry
abbrev pub Utf8Stops : ℕ → ℕ → List ℕ → ClassFault → Type 0
Utf8Stops size place rest f = Number size 2 rest (λ count at_text. Bytes size count at_text (λ text _. Check (IsMutf8 text) BadText place Never)) f

abbrev pub OtherStops : ℕ → ℕ → Option ℕ → List ℕ → ClassFault → Type 0
OtherStops size place None rest f = f ≡ fault PoolTag place
OtherStops size place (Some count) rest f = IsCut size count rest f

abbrev pub EntryStops : ℕ → List ℕ → ClassFault → Type 0
EntryStops size rest f = Number size 1 rest (λ tag behind_tag. Either (tag ≡ 1) (Utf8Stops size (place_of size rest) behind_tag) (OtherStops size (place_of size rest) (bytes_behind tag) behind_tag)) f

-- The entries of so many indices: one of them stops, or the last is a Long or Double whose second index has no room. The
-- place of the latter is its tag's.
pub data EntriesStop (size n : ℕ) (rest : List ℕ) (f : ClassFault) : Type 0 where
  an_entry : (before : List PoolEntry) (text left : List ℕ) → rest ≡ text ++ left → SpellsEntries before text → length before < n → EntryStops size left f → EntriesStop size n rest f
  no_room : (before : List PoolEntry) (text left : List ℕ) (entry : PoolEntry) (spelled others : List ℕ) → rest ≡ text ++ left → SpellsEntries before text → length before + 1 ≡ n
      → left ≡ spelled ++ others → SpellsEntry entry spelled → is_double entry ≡ true → f ≡ fault PoolIndex (place_of size left) → EntriesStop size n rest f

-- ---- what an entry refers to

abbrev pub IsTextIndex : List PoolEntry → ℕ → Type 0
IsTextIndex pool index = IsSomeAnd (utf8_at pool index) (λ _. Unit {0})

abbrev pub IsNameAndTypeEntry : Option PoolEntry → Type 0
IsNameAndTypeEntry (Some (NameAndType name desc)) = Unit {0}
IsNameAndTypeEntry _ = ⊥

-- The indices of an entry are those of entries of the right kinds. A NameAndType without a Utf8 as its descriptor is a
-- wrong descriptor of the entry that refers to it (this project's own).
abbrev pub NamesWell : List PoolEntry → PoolEntry → Type 0
NamesWell pool (Class name) = IsTextIndex pool name
NamesWell pool (Text text) = IsTextIndex pool text
NamesWell pool (FieldRef class type) = IsClassEntry (entry_at pool class) × IsNameAndTypeEntry (entry_at pool type)
NamesWell pool (MethodRef class type) = IsClassEntry (entry_at pool class) × IsNameAndTypeEntry (entry_at pool type)
NamesWell pool (InterfaceMethodRef class type) = IsClassEntry (entry_at pool class) × IsNameAndTypeEntry (entry_at pool type)
NamesWell pool (NameAndType name desc) = IsTextIndex pool name × IsTextIndex pool desc
NamesWell pool _ = Unit {0}

-- indices come before names and descriptors; the place is that of the entry's tag
abbrev pub ReferenceStops : List PoolEntry → PoolEntry → ℕ → ClassFault → Type 0
ReferenceStops pool entry place f = Check (NamesWell pool entry) PoolIndex place (Check (RefersWell pool entry) BadDescriptor place Never) f

-- One of these entries of the pool refers to something wrong, and those before it refer well. The rest begins with the first.
pub record ReferencesStop (size : ℕ) (pool these : List PoolEntry) (rest : List ℕ) (f : ClassFault) : Type 0 where
  pub before : List PoolEntry
  pub entry : PoolEntry
  pub more : List PoolEntry
  pub text : List ℕ
  pub left : List ℕ
  pub among : these ≡ before ++ entry ∷ more
  pub parts : rest ≡ text ++ left
  pub spelled : SpellsEntries before text
  pub refer : AllByRecursion (RefersWell pool) before
  pub next : ReferenceStops pool entry (place_of size left) f

-- ---- the pool, with its count

abbrev pub SpellsIndices : ℕ → List PoolEntry → List ℕ → Type 0
SpellsIndices n pool text = SpellsEntries pool text × (length pool ≡ n)

abbrev pub PoolStops : ℕ → List ℕ → ClassFault → Type 0
PoolStops size rest f = Number size 2 rest (λ count entries. Check (count ≡ 0 → ⊥) PoolIndex (place_of size rest)
    (Item (SpellsIndices (count - 1)) (EntriesStop size (count - 1)) entries (λ pool _. ReferencesStop size pool pool entries))) f

-- the pool's bytes, its count included
abbrev pub SpellsPool : List PoolEntry → List ℕ → Type 0
SpellsPool pool text = (entries : List ℕ) × (text ≡ u2 (length pool + 1) ++ entries) × (length pool + 1 < 2 ^ 16) × SpellsEntries pool entries × AllByRecursion (RefersWell pool) pool
