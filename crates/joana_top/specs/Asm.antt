-- `asm FILE`: the class file that it makes of its text, and what refuses the text.
use Rattle.std.specs.Prelude.{◌≡◌, ℕ, List, Ok, Err}
use Rattle.class_pool.specs.declared.classes.ClassFile.{ClassFile}
use Rattle.class_write.specs.Spelling.{spelled_class}
use Rattle.joana_base.specs.Files.{Held, text_class}
use Rattle.joana_base.specs.declared.status.Status.{Status}
use Rattle.joana_base.specs.declared.status.Status.TheVariants.{Done}
use Rattle.joana_base.specs.declared.status.Refusal.{Refusal}
use Rattle.joana_top.specs.OneFile.{OfFile}

-- the bytes that it may show with a status
abbrev pub IsAsmText : Status → List ℕ → Type 0
IsAsmText Done bytes = (class : ClassFile) × (bytes ≡ spelled_class class)
IsAsmText status bytes = ⊥

-- what bytes with a status say of a text
abbrev pub IsAssemblyOf : List ℕ → Status → List ℕ → Type 0
IsAssemblyOf text Done bytes =
    (class : ClassFile) × (text_class text ≡ Ok class) × (bytes ≡ spelled_class class)
IsAssemblyOf text status bytes = ⊥

-- what refuses a text: its size or its first fault
abbrev pub IsTextRefusal : List ℕ → Refusal → Type 0
IsTextRefusal text refusal = text_class text ≡ Err refusal

-- the same of the file with a name
abbrev pub IsAsmAnswer : Held → List ℕ → Status → List ℕ → Type 0
IsAsmAnswer held file status bytes = OfFile held file (λ text. IsAssemblyOf text status bytes)

abbrev pub AsmRefuses : Held → List ℕ → Refusal → Type 0
AsmRefuses held file refusal = OfFile held file (λ text. IsTextRefusal text refusal)
