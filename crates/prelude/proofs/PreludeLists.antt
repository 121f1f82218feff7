-- The classes of the prelude as they are put together, and that each fits the format.
use Rattle.std.proofs.Common.{◌≡◌, ℕ, List, [], ◌∷◌, ◌++◌, map, Result, Ok, Err, refl, sym, ap, ◌∙◌, append_assoc, arith}
use Rattle.std.specs.List.{flat_map, AllByRecursion}
use Rattle.class_pool.specs.declared.classes.ClassFile.{ClassFile}
use Rattle.class_pool.specs.Fitting.{FitsClass}
use Rattle.class_asm.specs.declared.causes.Fault.{Fault}
use Rattle.class_asm.specs.Assembly.{assembled}
use Rattle.prelude.specs.Texts.{string_text, runnable_text, thread_text, throwable_text, exception_text, exceptions, object_text, lower_texts}
use Rattle.prelude.specs.Classes.{class_in, class_of_text, without_superclass, object_classes, prelude_classes}

grouped : {X : Type 0} (o a b c d e : List X) → ((((o ++ a) ++ b) ++ c) ++ d) ++ e ≡ o ++ (a ++ (b ++ (c ++ (d ++ e))))
grouped o a b c d e = simp append_assoc

by_rows : {Row : Type 0} (pair : Row → List ℕ × List ℕ) (rows : List Row) → flat_map (λ row. class_of_text (exception_text (pair row))) rows ≡ flat_map class_of_text (map exception_text (map pair rows))
by_rows pair [] = refl
by_rows pair (row ∷ rows) = ap (λ more. class_of_text (exception_text (pair row)) ++ more) (by_rows pair rows)

-- one text more
pub goes_on : (old new front : List ClassFile) (given text : List ℕ) → new ≡ old ++ class_of_text given → given ≡ text → old ≡ front → new ≡ front ++ class_of_text text
goes_on old new front given text added is so = added ∙ ap (λ t. old ++ class_of_text t) is ∙ ap (λ o. o ++ class_of_text text) so

-- one class behind another
pub whole : {Row : Type 0} (pair : Row → List ℕ × List ℕ) (rows : List Row) (object : ClassFile) → object_classes ≡ object ∷ [] → map pair rows ≡ exceptions
    → ((((object ∷ [] ++ class_of_text string_text) ++ class_of_text runnable_text) ++ class_of_text thread_text) ++ class_of_text throwable_text)
    ++ flat_map (λ row. class_of_text (exception_text (pair row))) rows ≡ prelude_classes
unfolding prelude_classes
whole pair rows object first is =
    let tail : flat_map (λ row. class_of_text (exception_text (pair row))) rows ≡ flat_map class_of_text (map exception_text exceptions) =
    by_rows pair rows ∙ ap (λ e. flat_map class_of_text (map exception_text e)) is in
    grouped (object ∷ []) (class_of_text string_text) (class_of_text runnable_text) (class_of_text thread_text) (class_of_text throwable_text) (flat_map (λ row. class_of_text (exception_text (pair row))) rows)
    ∙ ap (λ front. front ++ (class_of_text string_text ++ (class_of_text runnable_text ++ (class_of_text thread_text ++ (class_of_text throwable_text ++ flat_map (λ row. class_of_text (exception_text (pair row))) rows))))) (sym first)
    ∙ ap (λ end. object_classes ++ (class_of_text string_text ++ (class_of_text runnable_text ++ (class_of_text thread_text ++ (class_of_text throwable_text ++ end))))) tail

-- ---- the format

abbrev pub AssembledFits : Type 0
AssembledFits = (text : List ℕ) (class : ClassFile) → assembled text ≡ Ok class → FitsClass class

both_fit : (front back : List ClassFile) → AllByRecursion FitsClass front → AllByRecursion FitsClass back → AllByRecursion FitsClass (front ++ back)
both_fit [] back f b = b
both_fit (class ∷ more) back f b = (f.0, both_fit more back f.1 b)

fits_in : (read : Result ClassFile Fault) → ((class : ClassFile) → read ≡ Ok class → FitsClass class) → AllByRecursion FitsClass (class_in read)
fits_in (Ok class) fits = (fits class refl, tt)
fits_in (Err fault) fits = tt

fits_still : (class : ClassFile) → FitsClass class → FitsClass (without_superclass class)
fits_still class f = record {
  minor = f.minor;
  major = f.major;
  pool = f.pool;
  flags = f.flags;
  this_class = f.this_class;
  super_class = omega arith;
  few_interfaces = f.few_interfaces;
  interfaces = f.interfaces;
  few_fields = f.few_fields;
  fields = f.fields;
  few_methods = f.few_methods;
  methods = f.methods;
}

all_still : (classes : List ClassFile) → AllByRecursion FitsClass classes → AllByRecursion FitsClass (map without_superclass classes)
all_still [] f = tt
all_still (class ∷ more) f = (fits_still class f.0, all_still more f.1)

texts_fit : AssembledFits → (texts : List (List ℕ)) → AllByRecursion FitsClass (flat_map class_of_text texts)
unfolding class_of_text
texts_fit fits [] = tt
texts_fit fits (text ∷ more) = both_fit (class_in (assembled text)) (flat_map class_of_text more) (fits_in (assembled text) (fits text)) (texts_fit fits more)

pub all_fit : AssembledFits → AllByRecursion FitsClass prelude_classes
unfolding prelude_classes class_of_text
all_fit fits =
    both_fit object_classes (flat_map class_of_text lower_texts) (all_still (class_in (assembled object_text)) (fits_in (assembled object_text) (fits object_text)))
    (texts_fit fits lower_texts)
