-- Labels that fit a program, and the first form of programs: one class, whose only code is the entry's, in one straight line.
use Rattle.std.specs.Prelude.{◌≡◌, ℕ, ◌<◌, ◌≤◌, Bool, true, false, ◌||◌, List, length, map, Option, Some, None, IsSome, slice_get, codes}
use Rattle.std.specs.List.{AllByRecursion, list_any}
use Rattle.std.specs.Str.{bytes_eq}
use Rattle.std.specs.List.Sorted.{IsStrictlyIncreasing}
use Rattle.jo_insn.specs.AccessFlags.{has_flag, static_flag, native_flag}
use Rattle.jo_prog.specs.declared.operations.Operation.{Operation}
use Rattle.jo_prog.specs.declared.operations.Operation.TheVariants.{Constant, Load, Store, Add, Subtract, InvokeStatic, Return, Other}
use Rattle.jo_prog.specs.declared.labels.Label.{Label}
use Rattle.jo_prog.specs.declared.labels.Label.TheVariants.{Source, Sink, Release}
use Rattle.jo_prog.specs.declared.labels.Labels.{Labels}
use Rattle.jo_prog.specs.declared.program.Program.{Program}
use Rattle.jo_prog.specs.declared.program.Method.{Method}
use Rattle.jo_prog.specs.declared.program.Code.{Code}
use Rattle.jo_prog.specs.FileClasses.{is_of_files}
use Rattle.jo_prog.specs.Labels.{label_of, flows}
use Rattle.jo_prog.specs.Starts.{first_start}
use Rattle.jo_prog.specs.Program.{method_at, code_at, operation_at, callee_at}
use Rattle.jo_prog.specs.Typing.{IsTypedCode}

-- the descriptor that a label asks for
abbrev pub desc_for : Label → List ℕ
desc_for (Source level) = codes "()I"
desc_for (Sink level) = codes "(I)V"
desc_for (Release from to) = codes "(I)I"

-- the levels of a label are there, and a release lets nothing up: its `to` flows to its `from`
abbrev pub HasGoodLevels : Labels → Label → Type 0
HasGoodLevels labels (Source level) = level < length labels.levels
HasGoodLevels labels (Sink level) = level < length labels.levels
HasGoodLevels labels (Release from to) = (from < length labels.levels) × (to < length labels.levels) × (flows labels to from ≡ true)

-- a labelled method is a static native of the files, of the label's shape
pub record IsLabelledNative (program : Program) (labels : Labels) (item : ℕ × Label) : Type 0 where
  pub method : Method
  pub found : method_at program item.0 ≡ Some method
  pub files : is_of_files program method ≡ true
  pub is_static : has_flag static_flag method.flags ≡ true
  pub is_native : has_flag native_flag method.flags ≡ true
  pub no_code : method.code ≡ None
  pub shape : method.desc ≡ desc_for item.1
  pub levels : HasGoodLevels labels item.1

-- an entry takes nothing, or the texts of the command line
abbrev pub is_entry_desc : List ℕ → Bool
is_entry_desc desc = bytes_eq desc (codes "()V") || bytes_eq desc (codes "([Ljava/lang/String;)V")

-- the entry is a static method of the files with code
pub record IsEntry (program : Program) (m : ℕ) : Type 0 where
  pub method : Method
  pub found : method_at program m ≡ Some method
  pub files : is_of_files program method ≡ true
  pub is_static : has_flag static_flag method.flags ≡ true
  pub has_code : IsSome method.code
  pub shape : is_entry_desc method.desc ≡ true

abbrev pub is_release : ℕ × Label → Bool
is_release (m, Source level) = false
is_release (m, Sink level) = false
is_release (m, Release from to) = true

-- Labels that fit a program, which is what a policy without a fault gives: at most 64 levels of different names, of which no two flow to
-- each other, all numbers are there, each native of the files has its label, no method has two, and where there is a release no call may
-- start a thread.
pub record IsWellLabelled (program : Program) (labels : Labels) : Type 0 where
  pub distinct : (j k : ℕ) (name : List ℕ) → slice_get labels.levels j ≡ Some name → slice_get labels.levels k ≡ Some name → j ≡ k
  pub few : length labels.levels ≤ 64
  pub pairs : AllByRecursion (λ (pair : ℕ × ℕ). (pair.0 < length labels.levels) × (pair.1 < length labels.levels)) labels.flows
  pub no_cycle : (a b : ℕ) → flows labels a b ≡ true → flows labels b a ≡ true → a ≡ b
  pub observers : AllByRecursion (λ (l : ℕ). l < length labels.levels) labels.observers
  pub entry : IsEntry program labels.entry
  pub natives : AllByRecursion (IsLabelledNative program labels) labels.labelled
  pub in_order : IsStrictlyIncreasing (map (λ (item : ℕ × Label). item.0) labels.labelled)
  pub each_native : (m : ℕ) (method : Method) → method_at program m ≡ Some method → is_of_files program method ≡ true
      → has_flag native_flag method.flags ≡ true → IsSome (label_of labels m)
  pub releases : list_any is_release labels.labelled ≡ true → first_start program ≡ None

-- ---- plain code

abbrev pub is_source_or_sink : Option Label → Bool
is_source_or_sink (Some (Source level)) = true
is_source_or_sink (Some (Sink level)) = true
is_source_or_sink _ = false

abbrev pub calls_labelled : Labels → Option ℕ → Bool
calls_labelled labels None = false
calls_labelled labels (Some m) = is_source_or_sink (label_of labels m)

-- an operation of plain code that isn't its last
abbrev pub goes_on : Labels → Option ℕ → Operation → Bool
goes_on labels callee (Constant z) = true
goes_on labels callee (Load k) = true
goes_on labels callee (Store k) = true
goes_on labels callee Add = true
goes_on labels callee Subtract = true
goes_on labels callee (InvokeStatic k) = calls_labelled labels callee
goes_on labels callee Return = false
goes_on labels callee Other = false

-- from this pc on the code is plain, up to the return that is its last instruction
pub data IsPlainFrom (program : Program) (labels : Labels) (m : ℕ) (code : Code) : ℕ → Type 0 where
  last : (pc next : ℕ) → operation_at program m pc ≡ Some (Return, next) → next ≡ length code.bytes → IsPlainFrom program labels m code pc
  then : (pc next : ℕ) (operation : Operation) → operation_at program m pc ≡ Some (operation, next) → goes_on labels (callee_at program m pc) operation ≡ true
      → IsPlainFrom program labels m code next → IsPlainFrom program labels m code pc

-- the entry's code is typed and plain, and the labels fit
pub record IsPlainProgram (program : Program) (labels : Labels) : Type 0 where
  pub well_labelled : IsWellLabelled program labels
  pub code : Code
  pub found : code_at program labels.entry ≡ Some code
  pub typed : IsTypedCode program labels.entry code
  pub plain : IsPlainFrom program labels labels.entry code 0
