-- The files of a command, and the order in which they are refused (this project's own).
use Rattle.std.specs.Prelude.{◌≡◌, ℕ, suc, Bool, true, false, ◌||◌, nat_lt, if◌then◌else◌, List, [], ◌∷◌, ◌++◌, length, Option, Some, None, option_map, IfSome, Result, Ok, Err, ⊤}
use Rattle.std.specs.List.{list_any}
use Rattle.std.specs.Str.{IsUtf8}
use Rattle.jo_text.specs.Lines.{lines_of}
use Rattle.jo_text.specs.Texts.{StopsAt}
use Rattle.class_pool.specs.declared.classes.ClassFile.{ClassFile}
use Rattle.class_pool.specs.declared.faults.ClassFault.{ClassFault}
use Rattle.class_pool.specs.ClassOrder.{class_of}
use Rattle.class_asm.specs.declared.assembly.AsmFault.{AsmFault}
use Rattle.class_asm.specs.Answers.{answer_of}
use Rattle.joana_base.specs.declared.reading.ProgramNames as lent
use Rattle.joana_base.specs.declared.status.InputFault.TheVariants.{ClassList, Class, Asm}
use Rattle.jo_ids.specs.declared.LimitKind.TheVariants.{M1, M2}
use Rattle.joana_base.specs.declared.status.Refusal.{Refusal}
use Rattle.joana_base.specs.declared.status.Refusal.TheVariants.{Input, Limit}

-- what the files hold under their names, where they tell it
abbrev pub Held : Type 0
Held = List ℕ → Option (List ℕ)

-- the names of the files that make a program and say what it may show, and of the third file of a command that has one
pub record ProgramNames : Type 0 where
  pub classes : List ℕ
  pub policy : List ℕ
  pub third : Option (List ℕ)

-- these files: the policy, the class list, the third file, and the class files in the order of the list
pub record ProgramFiles : Type 0 where
  pub policy : List ℕ
  pub list : List ℕ
  pub third : Option (List ℕ)
  pub classes : List (List ℕ)

abbrev pub names_of : lent.ProgramNames → ProgramNames
names_of names = record { classes = names.classes.now; policy = names.policy.now; third = option_map (λ name. name.now) names.third }

-- the third file, or its name, as a list
abbrev pub listed : {A : Type 0} → Option A → List A
listed None = []
listed (Some x) = x ∷ []

-- the paths of a class list: a line each
abbrev pub paths_of : List ℕ → List (List ℕ)
paths_of text = lines_of text

-- a list may have 512 paths
abbrev pub are_many : List (List ℕ) → Bool
are_many paths = nat_lt 512 (length paths)

-- a file may have 1,048,576 bytes
abbrev pub is_large : List ℕ → Bool
is_large bytes = nat_lt 1048576 (length bytes)

-- the bytes are those held under the name, where these are told
abbrev pub IsToldAs : Held → List ℕ → List ℕ → Type 0
IsToldAs held name bytes = IfSome (held name) (λ told. bytes ≡ told)

-- the same of each of these names
abbrev pub AreToldAs : Held → List (List ℕ) → List (List ℕ) → Type 0
AreToldAs held [] [] = ⊤
AreToldAs held (name ∷ names) (bytes ∷ more) = IsToldAs held name bytes × AreToldAs held names more
AreToldAs held _ _ = ⊥

-- the same of the third file, which is there where it has a name
abbrev pub IsThirdToldAs : Held → Option (List ℕ) → Option (List ℕ) → Type 0
IsThirdToldAs held None None = ⊤
IsThirdToldAs held (Some name) (Some bytes) = IsToldAs held name bytes
IsThirdToldAs held _ _ = ⊥

-- The files with these names, as far as they are told. The third file and class files count where neither the policy nor the list
-- is too large, and the list is UTF-8 with no more paths than it may have, else nothing is said of them.
pub record AreProgramFiles (held : Held) (names : ProgramNames) (files : ProgramFiles) : Type 0 where
  pub policy : IsToldAs held names.policy files.policy
  pub list : IsToldAs held names.classes files.list
  pub behind : is_large files.policy ≡ false → is_large files.list ≡ false → IsUtf8 files.list
      → are_many (paths_of files.list) ≡ false
      → IsThirdToldAs held names.third files.third × AreToldAs held (paths_of files.list) files.classes

-- the class of the file with this number, or its fault
abbrev pub class_numbered : ℕ → Result ClassFile ClassFault → Result ClassFile Refusal
class_numbered number (Err fault) = Err (Input (Class number fault))
class_numbered number (Ok class) = Ok class

-- the class of the one file of a command; or why there is none: it is too large, or has a fault
abbrev pub file_class : List ℕ → Result ClassFile Refusal
file_class bytes = if is_large bytes then Err (Limit M2) else class_numbered 0 (class_of bytes)

abbrev pub class_said : Result ClassFile AsmFault → Result ClassFile Refusal
class_said (Err fault) = Err (Input (Asm fault))
class_said (Ok class) = Ok class

-- the class that the one text of a command says; or why there is none: it is too large, or has a fault
abbrev pub text_class : List ℕ → Result ClassFile Refusal
text_class text = if is_large text then Err (Limit M2) else class_said (answer_of text)

-- a class before others; what refuses it comes before what refuses these
abbrev pub before : Result ClassFile Refusal → Result (List ClassFile) Refusal
    → Result (List ClassFile) Refusal
before (Err refusal) others = Err refusal
before (Ok class) (Err refusal) = Err refusal
before (Ok class) (Ok others) = Ok (class ∷ others)

-- the classes of these files, whose first has this number, or the first file's fault that has one
abbrev pub classes_from : ℕ → List (List ℕ) → Result (List ClassFile) Refusal
classes_from number [] = Ok []
classes_from number (file ∷ more) =
    before (class_numbered number (class_of file)) (classes_from (suc number) more)

-- The classes of a list's files; or why there are none: one of them or the third file is too large, or else the first that has a
-- fault.
abbrev pub classes_of : Option (List ℕ) → List (List ℕ) → Result (List ClassFile) Refusal
classes_of third files = if list_any is_large (listed third ++ files) then Err (Limit M2) else classes_from 0 files

-- ---- the files of a program, and what refuses them, in this order

-- what refuses a class list: the first byte that no UTF-8 continues, or the number of its paths
pub data RefusesList (list : List ℕ) : Refusal → Type 0 where
  no_text : (place : ℕ) → StopsAt IsUtf8 list place → RefusesList list (Input (ClassList place))
  many_paths : IsUtf8 list → are_many (paths_of list) ≡ true → RefusesList list (Limit M1)

-- nothing refuses the files before the class files are looked at, of which each path has one
pub record AreReadable (files : ProgramFiles) : Type 0 where
  pub policy : is_large files.policy ≡ false
  pub list : is_large files.list ≡ false
  pub text : IsUtf8 files.list
  pub few : are_many (paths_of files.list) ≡ false
  pub each : length files.classes ≡ length (paths_of files.list)

-- what refuses the files: the size of the policy or of the list, the list itself, then what is said of the class files
pub data RefusesFiles (files : ProgramFiles) : Refusal → Type 0 where
  too_large : (is_large files.policy || is_large files.list) ≡ true → RefusesFiles files (Limit M2)
  of_list : (refusal : Refusal) → is_large files.policy ≡ false → is_large files.list ≡ false
      → RefusesList files.list refusal → RefusesFiles files refusal
  of_classes : (refusal : Refusal) → AreReadable files → classes_of files.third files.classes ≡ Err refusal
      → RefusesFiles files refusal

-- nothing refuses the files, and these are their classes
pub record HaveClasses (files : ProgramFiles) (classes : List ClassFile) : Type 0 where
  pub readable : AreReadable files
  pub classes_are : classes_of files.third files.classes ≡ Ok classes
