-- The lines of notes (this project's own).
use Rattle.std.specs.Prelude.{ℕ, List, [], ◌∷◌, ◌++◌, codes}
use Rattle.std.specs.Fmt.{decimal}
use Rattle.jo_text.specs.Escapes.{escaped}
use Rattle.class_pool.specs.declared.faults.Cut.{Cut}
use Rattle.class_pool.specs.declared.faults.Cut.TheVariants.{Opcode, Constant, WideType, Synchronized}
use Rattle.class_pool.specs.declared.faults.ClassCode.{ClassCode}
use Rattle.class_pool.specs.declared.faults.ClassCode.TheVariants.{Truncated, Magic, Version, PoolTag, PoolIndex, BadText, BadDescriptor, CodeBounds, BadOpcode, Trailing, Unsupported, Memory}
use Rattle.class_pool.specs.declared.faults.ClassFault.{ClassFault}
use Rattle.class_asm.specs.declared.assembly.AsmFault.{AsmFault}
use Rattle.class_asm.specs.declared.assembly.AsmFault.TheVariants as texts
use Rattle.joana_base.specs.declared.status.InputFault.{InputFault}
use Rattle.joana_base.specs.declared.status.InputFault.TheVariants.{NotBuilt, ClassList, Class, Link, Typing, Policy, RunFile, Asm}
use Rattle.joana_base.specs.declared.status.LinkKind.{LinkKind}
use Rattle.joana_base.specs.declared.status.LinkKind.TheVariants.{TwiceDefined, MissingClass, CyclicSuper, MissingMember, NotImplemented, InterfaceBody, StaticInit}
use Rattle.joana_base.specs.declared.status.TypingFault.{TypingFault}
use Rattle.joana_base.specs.declared.status.TypingKind.{TypingKind}
use Rattle.joana_base.specs.declared.status.TypingKind.TheVariants as typings
use Rattle.joana_base.specs.declared.status.PolicyKind.{PolicyKind}
use Rattle.joana_base.specs.declared.status.PolicyKind.TheVariants as policies
use Rattle.joana_base.specs.declared.status.RunFileKind.{RunFileKind}
use Rattle.joana_base.specs.declared.status.RunFileKind.TheVariants as runs
use Rattle.jo_ids.specs.declared.LimitKind.{LimitKind}
use Rattle.jo_ids.specs.declared.LimitKind.TheVariants.{M1, M2, M3, M4, M5, M6, M7}
use Rattle.joana_base.specs.declared.status.Refusal.{Refusal}
use Rattle.joana_base.specs.declared.status.Refusal.TheVariants.{Input, Limit}

abbrev pub words_line : List ℕ
words_line = codes "joana: words\n"

-- a read that failed, with its file's name
abbrev pub file_line : List ℕ → List ℕ
file_line name = codes "joana: outside " ++ name ++ codes "\n"

abbrev pub output_line : List ℕ
output_line = codes "joana: outside output\n"

-- want of memory is no fault of a file, so it has no name
abbrev pub code_word : ClassCode → List ℕ
code_word Truncated = codes "C1"
code_word Magic = codes "C2"
code_word Version = codes "C3"
code_word PoolTag = codes "C4"
code_word PoolIndex = codes "C5"
code_word BadText = codes "C6"
code_word BadDescriptor = codes "C7"
code_word CodeBounds = codes "C8"
code_word BadOpcode = codes "C9"
code_word Trailing = codes "C10"
code_word (Unsupported cut) = codes "C11"
code_word Memory = []

-- what the profile cuts
abbrev pub cut_words : Cut → List ℕ
cut_words (Opcode op) = codes " opcode " ++ decimal op
cut_words (Constant index) = codes " constant " ++ decimal index
cut_words WideType = codes " type"
cut_words Synchronized = codes " synchronized"

abbrev pub detail : ClassCode → List ℕ
detail (Unsupported cut) = cut_words cut
detail _ = []

-- the fault of a class file: its code, the file's number in the order of the list, the place
abbrev pub class_words : ℕ → ClassFault → List ℕ
class_words file fault =
    code_word fault.code ++ 32 ∷ decimal file ++ 32 ∷ decimal fault.place ++ detail fault.code

-- the fault of an assembly text: its code and its line
abbrev pub asm_words : AsmFault → List ℕ
asm_words (texts.Line line) = codes "A1 " ++ decimal line
asm_words (texts.Label line) = codes "A2 " ++ decimal line
asm_words (texts.Range line) = codes "A3 " ++ decimal line
asm_words texts.Memory = []

abbrev pub link_word : LinkKind → List ℕ
link_word TwiceDefined = codes "L1"
link_word MissingClass = codes "L2"
link_word CyclicSuper = codes "L3"
link_word MissingMember = codes "L4"
link_word NotImplemented = codes "L5"
link_word InterfaceBody = codes "L6"
link_word StaticInit = codes "L7"

-- the fault of class files together: its code and the class by its name
abbrev pub link_words : LinkKind → List ℕ → List ℕ
link_words kind name = link_word kind ++ 32 ∷ escaped name

abbrev pub typing_word : TypingKind → List ℕ
typing_word typings.Underflow = codes "Y1"
typing_word typings.Overflow = codes "Y2"
typing_word typings.HeightDiffers = codes "Y3"
typing_word typings.WrongKind = codes "Y4"
typing_word typings.FallsOff = codes "Y5"
typing_word typings.LocalRange = codes "Y6"

-- the fault of a method: its code, the method as it is spelled, the pc
abbrev pub typing_words : TypingFault → List ℕ
typing_words fault = typing_word fault.kind ++ 32 ∷ fault.method ++ 32 ∷ decimal fault.pc

-- the fault of a policy, before what it carries
abbrev pub policy_word : PolicyKind → List ℕ
policy_word policies.NotToml = codes "P1"
policy_word policies.Key = codes "P2"
policy_word policies.UnknownLevel = codes "P3"
policy_word policies.Order = codes "P4"
policy_word policies.MissingMethod = codes "P5"
policy_word policies.WrongShape = codes "P6"
policy_word policies.UnlabelledNative = codes "P7"
policy_word policies.TwiceLabelled = codes "P8"
policy_word policies.ReleaseUpward = codes "P9"
policy_word policies.ReleaseWithThreads = codes "P10"
policy_word policies.Entry = codes "P11"

abbrev pub run_file_word : RunFileKind → List ℕ
run_file_word runs.NotToml = codes "U1"
run_file_word runs.Key = codes "U2"
run_file_word runs.Source = codes "U3"
run_file_word runs.Range = codes "U4"

abbrev pub fault_words : InputFault → List ℕ
fault_words NotBuilt = codes "NotBuilt"
fault_words (ClassList place) = codes "B1 " ++ decimal place
fault_words (Class file fault) = class_words file fault
fault_words (Link kind name) = link_words kind name
fault_words (Typing fault) = typing_words fault
fault_words (Policy kind carried) = policy_word kind ++ carried
fault_words (RunFile kind) = run_file_word kind
fault_words (Asm fault) = asm_words fault

abbrev pub limit_word : LimitKind → List ℕ
limit_word M1 = codes "M1"
limit_word M2 = codes "M2"
limit_word M3 = codes "M3"
limit_word M4 = codes "M4"
limit_word M5 = codes "M5"
limit_word M6 = codes "M6"
limit_word M7 = codes "M7"

abbrev pub refusal_line : Refusal → List ℕ
refusal_line (Input fault) = codes "joana: input " ++ fault_words fault ++ codes "\n"
refusal_line (Limit kind) = codes "joana: limit " ++ limit_word kind ++ codes "\n"
