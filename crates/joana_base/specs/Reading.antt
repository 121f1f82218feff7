-- What reading the files of a command answers and leaves.
use Rattle.std.specs.Prelude.{◌≡◌, ℕ, zero, suc, ◌+◌, ◌^◌, ◌<◌, ◌≤◌, false, List, [], ◌∷◌, ◌++◌, length, map, Option, Some, None, option_map, Result, Ok, Err, slice_get, Vec, string_bytes, ⊤}
use Rattle.std.specs.Str.{IsUtf8}
use Rattle.std.specs.declared.alloc.Global.{Global}
use Rattle.jo_io.specs.Counts.{Rose}
use Rattle.jo_io.specs.declared.files.FileFault.{FileFault}
use Rattle.jo_io.specs.declared.files.FileFault.TheVariants as faults
use Rattle.class_pool.specs.declared.classes.ClassFile.{ClassFile}
use Rattle.class_pool.specs.ClassGrammar.{IsClass}
use Rattle.joana_base.specs.Files.{Held, ProgramNames, ProgramFiles, listed, paths_of, is_large, IsToldAs, AreToldAs, IsThirdToldAs, AreProgramFiles, are_many, RefusesList, RefusesFiles, AreReadable}
use Rattle.joana_base.specs.declared.status.Refusal.{Refusal}
use Rattle.joana_base.specs.declared.reading.ProgramFiles as memory
use Rattle.joana_base.specs.declared.reading.FilesBehind.{FilesBehind}
use Rattle.joana_base.specs.declared.answers.Stop.{Stop}
use Rattle.joana_base.specs.declared.answers.Stop.TheVariants.{Faulty, Unread, Memory}

-- the bytes of files in memory
abbrev pub all_bytes : List (Vec ℕ Global) → List (List ℕ)
all_bytes files = map (λ (file : Vec ℕ Global). file.items) files

abbrev pub third_bytes : Option (Vec ℕ Global) → Option (List ℕ)
third_bytes third = option_map (λ (file : Vec ℕ Global). file.items) third

abbrev pub in_bytes : memory.ProgramFiles → ProgramFiles
in_bytes files =
    record { policy = files.policy.items; list = files.list.items; third = third_bytes files.third; classes = all_bytes files.classes.items }

-- ---- the files' count

-- some reads: what the files hold before them, how often the outside has failed before and after them, and the name of the
-- last read that has failed after them
pub record FilesChange : Type 0 where
  pub held : Held
  pub faults_before : ℕ
  pub faults_after : ℕ
  pub last_failed : List ℕ

abbrev pub change_of : Held → ℕ → ℕ → List ℕ → FilesChange
change_of held before after failed =
    record { held = held; faults_before = before; faults_after = after; last_failed = failed }

abbrev pub files_change : {F : Type 0} → (F → Held) → (F → ℕ) → (F → List ℕ) → F → F → FilesChange
files_change held faults failed old new = change_of (held old) (faults old) (faults new) (failed new)

-- why a read with that number and name stops the run
abbrev pub StopsAt : ℕ → List ℕ → FileFault → Stop → Type 0
StopsAt number name faults.Failed (Unread u) = (u.number ≡ number) × (string_bytes u.name ≡ name)
StopsAt number name faults.Failed Memory = ⊤
StopsAt number name faults.Failed (Faulty refusal) = ⊥
StopsAt number name faults.Memory stop = stop ≡ Memory

-- The count rises with a failed read, whose name is the last that failed, and stays else. Memory may want at any time, also
-- for the failed read's name.
abbrev pub AfterReads : {T : Type 0} → (ℕ → List ℕ → Type 0) → Result T Stop → FilesChange → Type 0
AfterReads IsName (Ok value) files = files.faults_after ≡ files.faults_before
AfterReads IsName (Err (Faulty refusal)) files = files.faults_after ≡ files.faults_before
AfterReads IsName (Err (Unread u)) files =
    Rose files.faults_before files.faults_after × IsName u.number files.last_failed
    × (string_bytes u.name ≡ files.last_failed)
AfterReads IsName (Err Memory) files = files.faults_before ≤ files.faults_after

-- one read, with this number and name
abbrev pub AfterRead : {T : Type 0} → ℕ → List ℕ → Result T Stop → FilesChange → Type 0
AfterRead number path result files = AfterReads (λ n name. (n ≡ number) × (name ≡ path)) result files

-- the read of one of these names, which have numbers from the first on
abbrev pub IsReadFrom : ℕ → List (List ℕ) → ℕ → List ℕ → Type 0
IsReadFrom first names number name = (k : ℕ) × (number ≡ k + first) × (slice_get names k ≡ Some name)

-- reads of these names, which have numbers from the first on
abbrev pub AfterReadsFrom : {T : Type 0} → ℕ → List (List ℕ) → Result T Stop → FilesChange → Type 0
AfterReadsFrom first names result files = AfterReads (IsReadFrom first names) result files

-- the reads of the third file and of the paths of a list, which is text, and neither too large nor has too many
abbrev pub AfterListReads : {T : Type 0} → Option (List ℕ) → List ℕ → Result T Stop → FilesChange → Type 0
AfterListReads third list result files =
    let IsName : ℕ → List ℕ → Type 0 = λ number name.
    (is_large list ≡ false) × IsUtf8 list × (are_many (paths_of list) ≡ false) × IsReadFrom 2 (listed third ++ paths_of list) number name in
    AfterReads IsName result files

-- The read with this number behind the list, of the third file or of a path of the list: neither the policy nor the list is too
-- large, and the list is UTF-8 with no more paths than it may have.
pub record IsReadBehind (held : Held) (names : ProgramNames) (k : ℕ) (name : List ℕ) : Type 0 where
  pub policy : List ℕ
  pub policy_told : IsToldAs held names.policy policy
  pub list : List ℕ
  pub list_told : IsToldAs held names.classes list
  pub small_policy : is_large policy ≡ false
  pub small_list : is_large list ≡ false
  pub text : IsUtf8 list
  pub few : are_many (paths_of list) ≡ false
  pub path : slice_get (listed names.third ++ paths_of list) k ≡ Some name

-- the name of the read with that number: the policy, the class list, the third file where there is one, then the paths of the list
abbrev pub IsProgramRead : Held → ProgramNames → ℕ → List ℕ → Type 0
IsProgramRead held names zero name = name ≡ names.policy
IsProgramRead held names (suc zero) name = name ≡ names.classes
IsProgramRead held names (suc (suc k)) name = IsReadBehind held names k name

abbrev pub AfterProgramReads : {T : Type 0} → ProgramNames → Result T Stop → FilesChange → Type 0
AfterProgramReads names result files = AfterReads (IsProgramRead files.held names) result files

-- ---- what was read

-- a read stops only where it fails or memory is wanting
abbrev pub ReadsFile : Held → List ℕ → Result (Vec ℕ Global) Stop → Type 0
ReadsFile held name (Ok bytes) = IsToldAs held name bytes.items
ReadsFile held name (Err (Faulty refusal)) = ⊥
ReadsFile held name (Err stop) = ⊤

abbrev pub ReadsPaths : Held → List (List ℕ) → Result (Vec (Vec ℕ Global) Global) Stop → Type 0
ReadsPaths held paths (Ok classes) = AreToldAs held paths (all_bytes classes.items)
ReadsPaths held paths (Err (Faulty refusal)) = ⊥
ReadsPaths held paths (Err stop) = ⊤

abbrev pub ReadsThird : Held → Option (List ℕ) → Result (Option (Vec ℕ Global)) Stop → Type 0
ReadsThird held third (Ok file) = IsThirdToldAs held third (third_bytes file)
ReadsThird held third (Err (Faulty refusal)) = ⊥
ReadsThird held third (Err stop) = ⊤

abbrev pub AreToldBehind : Held → Option (List ℕ) → List (List ℕ) → FilesBehind → Type 0
AreToldBehind held third paths files =
    IsThirdToldAs held third (third_bytes files.third) × AreToldAs held paths (all_bytes files.classes.items)

abbrev pub ReadsBehind : Held → Option (List ℕ) → List (List ℕ) → Result FilesBehind Stop → Type 0
ReadsBehind held third paths (Ok files) = AreToldBehind held third paths files
ReadsBehind held third paths (Err (Faulty refusal)) = ⊥
ReadsBehind held third paths (Err stop) = ⊤

-- the third file and the class files of a list, or what refuses it
abbrev pub ReadsList : Held → Option (List ℕ) → List ℕ → Result FilesBehind Stop → Type 0
ReadsList held third list (Ok files) =
    IsUtf8 list × (are_many (paths_of list) ≡ false) × AreToldBehind held third (paths_of list) files
ReadsList held third list (Err (Faulty refusal)) = RefusesList list refusal
ReadsList held third list (Err stop) = ⊤

-- the files of a program were read; or they are refused
abbrev pub ReadsProgram : Held → ProgramNames → Result memory.ProgramFiles Stop → Type 0
ReadsProgram held names (Ok files) =
    AreReadable (in_bytes files) × AreProgramFiles held names (in_bytes files)
ReadsProgram held names (Err (Faulty refusal)) =
    (files : ProgramFiles) × AreProgramFiles held names files × RefusesFiles files refusal
ReadsProgram held names (Err stop) = ⊤

-- ---- the classes of files that were read

-- each file with its class
abbrev pub AreClasses : List (List ℕ) → List ClassFile → Type 0
AreClasses [] [] = ⊤
AreClasses (file ∷ files) (class ∷ classes) = IsClass file class × AreClasses files classes
AreClasses _ _ = ⊥

-- what is wanted of files that have been read, or what refuses them, unless memory is wanting
abbrev pub IsUnlessMemory : {A : Type 0} → Result A Stop → Result A Refusal → Type 0
IsUnlessMemory (Ok found) wanted = wanted ≡ Ok found
IsUnlessMemory (Err (Faulty refusal)) wanted = wanted ≡ Err refusal
IsUnlessMemory (Err (Unread unread)) wanted = ⊥
IsUnlessMemory (Err Memory) wanted = ⊤

-- the same of classes in memory
abbrev pub AreUnlessMemory : Result (Vec ClassFile Global) Stop → Result (List ClassFile) Refusal → Type 0
AreUnlessMemory (Ok found) wanted = wanted ≡ Ok found.items
AreUnlessMemory (Err stop) wanted = IsUnlessMemory {A = List ClassFile} (Err stop) wanted
