-- `dis FILE`: the listing that it shows of its file, and what refuses the file.
use Rattle.std.specs.Prelude.{◌≡◌, ℕ, List, Ok, Err}
use Rattle.class_pool.specs.declared.classes.ClassFile.{ClassFile}
use Rattle.class_pool.specs.ClassGrammar.{IsClass}
use Rattle.class_dis.specs.Listing.{listing_of}
use Rattle.joana_base.specs.Files.{Held, file_class}
use Rattle.joana_base.specs.declared.status.Status.{Status}
use Rattle.joana_base.specs.declared.status.Status.TheVariants.{Done}
use Rattle.joana_base.specs.declared.status.Refusal.{Refusal}
use Rattle.joana_top.specs.OneFile.{OfFile}

-- the texts that it may show with a status
abbrev pub IsDisText : Status → List ℕ → Type 0
IsDisText Done text = (class : ClassFile) × (text ≡ listing_of class)
IsDisText status text = ⊥

-- what a text with a status says of a file
abbrev pub IsListingOf : List ℕ → Status → List ℕ → Type 0
IsListingOf bytes Done text =
    (class : ClassFile) × IsClass bytes class × (file_class bytes ≡ Ok class) × (text ≡ listing_of class)
IsListingOf bytes status text = ⊥

-- what refuses a file: its size or its first fault
abbrev pub IsClassRefusal : List ℕ → Refusal → Type 0
IsClassRefusal bytes refusal = file_class bytes ≡ Err refusal

-- the same of the file with a name
abbrev pub IsDisAnswer : Held → List ℕ → Status → List ℕ → Type 0
IsDisAnswer held file status text = OfFile held file (λ bytes. IsListingOf bytes status text)

abbrev pub DisRefuses : Held → List ℕ → Refusal → Type 0
DisRefuses held file refusal = OfFile held file (λ bytes. IsClassRefusal bytes refusal)
