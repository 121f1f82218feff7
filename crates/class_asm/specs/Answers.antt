-- What `assemble` answers (this project's own).
use Rattle.std.specs.Prelude.{◌≡◌, ◌⊎◌, ℕ, ◌-◌, ◌^◌, min, List, Result, Ok, Err}
use Rattle.class_pool.specs.declared.classes.ClassFile.{ClassFile}
use Rattle.class_asm.specs.declared.causes.Cause.TheVariants as causes
use Rattle.class_asm.specs.declared.causes.Cause.{Cause}
use Rattle.class_asm.specs.declared.causes.Fault.{Fault}
use Rattle.class_asm.specs.declared.assembly.AsmFault.{AsmFault}
use Rattle.class_asm.specs.declared.assembly.AsmFault.TheVariants.{Line, Label, Range, Memory}
use Rattle.class_asm.specs.declared.assembly.Refusal.{Refusal}
use Rattle.class_asm.specs.declared.assembly.Refusal.TheVariants as refusals
use Rattle.class_asm.specs.Assembly.{assembled}

-- a line past the last number of 32 bits stands as that number
abbrev pub shown : ℕ → ℕ
shown line = min line (2 ^ 32 - 1)

abbrev pub fault_of : ℕ → Cause → AsmFault
fault_of line causes.Line = Line (shown line)
fault_of line causes.Label = Label (shown line)
fault_of line causes.Range = Range (shown line)

abbrev pub reported : Fault → AsmFault
reported fault = fault_of fault.line fault.cause

abbrev pub with_report : {X : Type 0} → Result X Fault → Result X AsmFault
with_report (Ok x) = Ok x
with_report (Err fault) = Err (reported fault)

-- the class that the text says, or its first fault
abbrev pub answer_of : List ℕ → Result ClassFile AsmFault
answer_of text = with_report (assembled text)

-- it is what was answered, unless memory was wanting
abbrev pub Answers : Result ClassFile AsmFault → Result ClassFile AsmFault → Type 0
Answers (Ok class) given = given ≡ Ok class
Answers (Err fault) given = (fault ≡ Memory) ⊎ (given ≡ Err fault)

-- ---- inside

abbrev pub fault_for : Refusal → AsmFault
fault_for (refusals.At fault) = reported fault
fault_for refusals.Memory = Memory

abbrev pub Refuses : {X : Type 0} → Refusal → Result X Fault → Type 0
Refuses (refusals.At fault) given = given ≡ Err fault
Refuses refusals.Memory given = Unit {0}

abbrev pub Puts : {X Y : Type 0} → (X → Y) → Result X Refusal → Result Y Fault → Type 0
Puts view (Ok x) given = given ≡ Ok (view x)
Puts view (Err refusal) given = Refuses refusal given
