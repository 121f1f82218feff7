-- From what the reader says of single files to what is said of the files of a command.
use Rattle.std.proofs.Common.{◌≡◌, ◌∙◌, ℕ, suc, ◌+◌, ◌<◌, ◌≤◌, ◌^◌, Bool, true, false, ◌||◌, List, [], ◌∷◌, ◌++◌, length, drop, get_or, Result, Ok, Err, refl, sym, ap, subst, append_assoc, arith}
use Rattle.std.specs.List.{list_any}
use Rattle.std.proofs.lemmas.Bool.{ltb-false}
use Rattle.std.specs.Prelude.{Vec}
use Rattle.std.specs.declared.alloc.Global.{Global}
use Rattle.std.proofs.lemmas.List.{append-nil, drop_more, drop_all}
use Rattle.class_pool.specs.ClassGrammar.{IsClass}
use Rattle.class_pool.specs.ClassOrder.{class_of}
use Rattle.class_pool.specs.declared.classes.ClassFile.{ClassFile}
use Rattle.class_pool.specs.declared.faults.ClassCode.{ClassCode}
use Rattle.class_pool.specs.declared.faults.ClassCode.TheVariants.{Memory as OutOfMemory}
use Rattle.class_pool.specs.declared.faults.ClassFault.{ClassFault}
use Rattle.class_pool.proofs.GrammarClass.{class_again}
use Rattle.class_read.specs.Faults.{IsFaultBy, IsFault}
use Rattle.joana_base.specs.Files.{is_large, class_numbered, before, classes_from}
use Rattle.joana_base.specs.Reading.{all_bytes, AreClasses, IsUnlessMemory}
use Rattle.joana_base.specs.declared.answers.Stop.{Stop}
use Rattle.joana_base.specs.declared.answers.Stop.TheVariants as stops
use Rattle.joana_base.specs.declared.status.InputFault.TheVariants.{Class}
use Rattle.joana_base.specs.declared.status.Refusal.{Refusal}
use Rattle.joana_base.specs.declared.status.Refusal.TheVariants.{Input}

pub small_file : (file : List ℕ) → is_large file ≡ false → length file < 2 ^ 31
small_file file small = let below = ltb-false 1048576 (length file) small in omega (arith, below)

-- memory wasn't wanting, so the fault is the file's
fault_by : (bytes : List ℕ) (code : ClassCode) (f : ClassFault) → ¬ (code ≡ OutOfMemory) → IsFaultBy code bytes f → class_of bytes ≡ Err f
fault_by bytes OutOfMemory f not_memory is = absurd (not_memory refl)
fault_by bytes _ f not_memory is = is.0

pub fault_comes : (number : ℕ) (bytes : List ℕ) (f : ClassFault) → ¬ (f.code ≡ OutOfMemory) → IsFault bytes f → class_numbered number (class_of bytes) ≡ Err (Input (Class number f))
fault_comes number bytes f not_memory is = ap (class_numbered number) (fault_by bytes f.code f not_memory is)

pub class_comes : (number : ℕ) (bytes : List ℕ) (class : ClassFile) → IsClass bytes class → class_numbered number (class_of bytes) ≡ Ok class
class_comes number bytes class is = ap (class_numbered number) (class_again bytes class is)

-- ---- files in their order

-- the classes that were read before, and what comes of the files behind them
abbrev pub with_front : List ClassFile → Result (List ClassFile) Refusal → Result (List ClassFile) Refusal
with_front front (Err refusal) = Err refusal
with_front front (Ok others) = Ok (front ++ others)

regroup : (front : List ClassFile) (class : ClassFile) (others : Result (List ClassFile) Refusal) → with_front front (before (Ok class) others) ≡ with_front (front ++ class ∷ []) others
regroup front class (Ok others) = ap (λ (xs : List ClassFile). Ok xs) (sym (append_assoc front (class ∷ []) others))
regroup front class (Err refusal) = refl

module _ (front : List ClassFile) (number : ℕ) (file : List ℕ) (more : List (List ℕ)) (total : Result (List ClassFile) Refusal) (so_far : with_front front (classes_from number (file ∷ more)) ≡ total) where
  pub takes : (class : ClassFile) → class_numbered number (class_of file) ≡ Ok class → with_front (front ++ class ∷ []) (classes_from (suc number) more) ≡ total
  takes class e = sym (regroup front class (classes_from (suc number) more)) ∙ sym (ap (λ read. with_front front (before read (classes_from (suc number) more))) e) ∙ so_far

  pub refuses : (refusal : Refusal) → class_numbered number (class_of file) ≡ Err refusal → total ≡ Err refusal
  refuses refusal e = sym so_far ∙ ap (λ read. with_front front (before read (classes_from (suc number) more))) e

pub is_done : (front : List ClassFile) (total : Result (List ClassFile) Refusal) → with_front front (Ok []) ≡ total → total ≡ Ok front
is_done front total so_far = sym so_far ∙ ap (λ (xs : List ClassFile). Ok xs) (append-nil front)

-- a file of the rest, which aren't large, and the others
pub first_small : (file : List ℕ) (more : List (List ℕ)) → list_any is_large (file ∷ more) ≡ false → (is_large file ≡ false) × (list_any is_large more ≡ false)
first_small file more none = by (is_large file) (list_any is_large more) none
  where
    by : (a b : Bool) → (a || b) ≡ false → (a ≡ false) × (b ≡ false)
    by true b e = absurd (cc)
    by false b e = (refl, e)

-- ---- the loop over files, at one of them

-- what holds at the file with number i: what is read so far, that no file of the rest is large, and that classes go with files
pub record ReadsOn (files : List (Vec ℕ Global)) (front : List ClassFile) (i : ℕ) : Type 0 where
  pub so_far : with_front front (classes_from i (all_bytes (drop i files))) ≡ classes_from 0 (all_bytes files)
  pub small : list_any is_large (all_bytes (drop i files)) ≡ false
  pub matched : (others : List ClassFile) → AreClasses (all_bytes (drop i files)) others → AreClasses (all_bytes files) (front ++ others)

whole : (comes : Result (List ClassFile) Refusal) → with_front [] comes ≡ comes
whole (Ok classes) = refl
whole (Err refusal) = refl

pub begins : (files : List (Vec ℕ Global)) → list_any is_large (all_bytes files) ≡ false → ReadsOn files [] 0
begins files small = record { so_far = whole (classes_from 0 (all_bytes files)); small = small; matched = λ others these. these }

module _ (files : List (Vec ℕ Global)) (front : List ClassFile) (i : ℕ) (file : Vec ℕ Global) (below : i < length files) (is : file ≡ get_or files i file) (on : ReadsOn files front i) where
  here : drop i files ≡ file ∷ drop (i + 1) files
  here = drop_more files i file below ∙ ap (λ (x : Vec ℕ Global). x ∷ drop (i + 1) files) (sym is)

  small_here : list_any is_large (file.items ∷ all_bytes (drop (i + 1) files)) ≡ false
  small_here = ap (λ (xs : List (Vec ℕ Global)). list_any is_large (all_bytes xs)) (sym here) ∙ on.small

  so_far_here : with_front front (classes_from i (file.items ∷ all_bytes (drop (i + 1) files))) ≡ classes_from 0 (all_bytes files)
  so_far_here = ap (λ (xs : List (Vec ℕ Global)). with_front front (classes_from i (all_bytes xs))) (sym here) ∙ on.so_far

  pub is_small : is_large file.items ≡ false
  is_small = (first_small file.items (all_bytes (drop (i + 1) files)) small_here).0

  pub goes_on : (class : ClassFile) → class_numbered i (class_of file.items) ≡ Ok class → IsClass file.items class → ReadsOn files (front ++ class ∷ []) (i + 1)
  goes_on class comes is_class =
      let next : suc i ≡ i + 1 = omega arith in
      let Total : ℕ → Type 0 = λ n. with_front (front ++ class ∷ []) (classes_from n (all_bytes (drop (i + 1) files))) ≡ classes_from 0 (all_bytes files) in
      let Matches : List (Vec ℕ Global) → Type 0 = λ xs. (others : List ClassFile) → AreClasses (all_bytes xs) others → AreClasses (all_bytes files) (front ++ others) in
      record {
        so_far = subst Total next (takes front i file.items (all_bytes (drop (i + 1) files)) (classes_from 0 (all_bytes files)) so_far_here class comes);
        small = (first_small file.items (all_bytes (drop (i + 1) files)) small_here).1;
        matched = λ others these.
            let Classes : List ClassFile → Type 0 = AreClasses (all_bytes files) in
            subst Classes (sym (append_assoc front (class ∷ []) others)) (subst Matches here on.matched (class ∷ others) (is_class, these));
      }

  is_refused : (refusal : Refusal) → class_numbered i (class_of file.items) ≡ Err refusal → classes_from 0 (all_bytes files) ≡ Err refusal
  is_refused refusal comes = refuses front i file.items (all_bytes (drop (i + 1) files)) (classes_from 0 (all_bytes files)) so_far_here refusal comes

  pub is_stopped : (stop : Stop) → IsUnlessMemory {A = ClassFile} (Err stop) (class_numbered i (class_of file.items)) → IsUnlessMemory {A = List ClassFile} (Err stop) (classes_from 0 (all_bytes files))
  is_stopped (stops.Faulty refusal) comes = is_refused refusal comes
  is_stopped (stops.Unread unread) comes = absurd comes
  is_stopped stops.Memory comes = tt

module _ (files : List (Vec ℕ Global)) (front : List ClassFile) (i : ℕ) (past : length files ≤ i) (on : ReadsOn files front i) where
  pub all_read : classes_from 0 (all_bytes files) ≡ Ok front
  all_read =
      let Reads : List (Vec ℕ Global) → Type 0 = λ xs. with_front front (classes_from i (all_bytes xs)) ≡ classes_from 0 (all_bytes files) in
      is_done front (classes_from 0 (all_bytes files)) (subst Reads (drop_all i files past) on.so_far)

  pub all_matched : AreClasses (all_bytes files) front
  all_matched =
      let Matches : List (Vec ℕ Global) → Type 0 = λ xs. (others : List ClassFile) → AreClasses (all_bytes xs) others → AreClasses (all_bytes files) (front ++ others) in
      let Classes : List ClassFile → Type 0 = AreClasses (all_bytes files) in
      subst Classes (append-nil front) (subst Matches (drop_all i files past) on.matched [] tt)
