-- The methods of the files, as texts spell them (this project's own).
use Rattle.std.specs.Prelude.{◌≡◌, ℕ, suc, Bool, ◌&&◌, if◌then◌else◌, List, [], ◌∷◌, ◌++◌, map, Option, Some, None, is_some, option_and_then, Vec}
use Rattle.std.specs.declared.alloc.Global.{Global}
use Rattle.std.specs.Str.{bytes_eq}
use Rattle.jo_insn.specs.AccessFlags.{has_flag, static_flag}
use Rattle.jo_prog.specs.declared.program.Program.{Program}
use Rattle.jo_prog.specs.declared.program.Method.{Method}
use Rattle.jo_prog.specs.FileClasses.{is_of_files}
use Rattle.jo_prog.specs.Program.{method_at}
use Rattle.jo_prog.specs.Spelling.{spelled_in}
use Rattle.jo_prog.specs.PlainCode.{is_entry_desc}
use Rattle.jo_policy.specs.declared.spellings.MethodIndex.{MethodIndex}

abbrev pub is_spelled : Program → List ℕ → Method → Bool
is_spelled program text method =
    is_of_files program method && bytes_eq text (spelled_in program (Some method))

-- the first of these methods that a text spells, where the methods have numbers from a first one on
abbrev pub named_from : Program → List ℕ → ℕ → List Method → Option ℕ
named_from program text n [] = None
named_from program text n (method ∷ methods) =
    if is_spelled program text method then Some n else named_from program text (suc n) methods

-- the method of the files that a text spells: of two with one spelling the first
abbrev pub method_named : Program → List ℕ → Option ℕ
method_named program text = named_from program text 0 program.methods

-- an entry is a static method with code that takes nothing, or the texts of the command line
abbrev pub is_entry : Method → Bool
is_entry m = has_flag static_flag m.flags && (is_some m.code && is_entry_desc m.desc)

abbrev pub entry_with : ℕ → Option Method → Option ℕ
entry_with m None = None
entry_with m (Some method) = if is_entry method then Some m else None

-- the entry that a text spells
abbrev pub entry_named : Program → List ℕ → Option ℕ
entry_named program text =
    option_and_then (λ m. entry_with m (method_at program m)) (method_named program text)

-- ---- the index in memory

abbrev pub entry_in : Vec ℕ Global × ℕ → List ℕ × ℕ
entry_in entry = (entry.0.items, entry.1)

abbrev pub entries_in : MethodIndex → List (List ℕ × ℕ)
entries_in index = map entry_in index.places.entries

-- the number at a text
abbrev pub entry_of : List (List ℕ × ℕ) → List ℕ → Option ℕ
entry_of [] text = None
entry_of (entry ∷ entries) text = if bytes_eq text entry.0 then Some entry.1 else entry_of entries text

abbrev pub with_entry : List (List ℕ × ℕ) → List ℕ → ℕ → List (List ℕ × ℕ)
with_entry entries text n = if is_some (entry_of entries text) then entries else (entries ++ (text, n) ∷ [])

-- a method's spelling more, if the method is of the files
abbrev pub with_method : Program → List (List ℕ × ℕ) → Method → ℕ → List (List ℕ × ℕ)
with_method program entries method n =
    if is_of_files program method then with_entry entries (spelled_in program (Some method)) n else entries

-- the index finds exactly the methods of the files
pub record IsIndexOf (program : Program) (index : MethodIndex) : Type 0 where
  pub finds : (text : List ℕ) → entry_of (entries_in index) text ≡ method_named program text
