use Rattle.std.proofs.Common.{◌≡◌, ℕ, List, [], ◌∷◌, ◌++◌, ap, ◌∙◌, Bor}
use Rattle.std.specs.List.{flat_map}
use Rattle.prelude.specs.Texts.{string_text, runnable_text, thread_text, throwable_text, exception_text}
use Rattle.prelude.specs.Classes.{class_of_text}
use Rattle.prelude.proofs.PreludeLists.{goes_on, whole}
use Rattle.prelude.proofs.classes.Goals as goal

abbrev row_names : Bor (List ℕ) × Bor (List ℕ) → List ℕ × List ℕ
row_names row = (row.0.now, row.1.now)

pub returns-clause-classes : goal.returns-clause-classes
returns-clause-classes c =
    let object : c.add.new.classes ≡ c.in_ok-object.field-0 ∷ [] = c.in_ok-add.ensures.added ∙ ap (λ front. front ++ c.in_ok-object.field-0 ∷ []) c.new-classes.ensures in
    let string : c.add_text.new.classes ≡ c.in_ok-object.field-0 ∷ [] ++ class_of_text string_text = goes_on _ _ _ _ _ c.in_ok-add_text.ensures.added c.string.ensures object in
    let runnable : c.add_text-2.new.classes ≡ (c.in_ok-object.field-0 ∷ [] ++ class_of_text string_text) ++ class_of_text runnable_text = goes_on _ _ _ _ _ c.in_ok-add_text-2.ensures.added c.runnable.ensures string in
    let thread : c.add_text-3.new.classes ≡ ((c.in_ok-object.field-0 ∷ [] ++ class_of_text string_text) ++ class_of_text runnable_text) ++ class_of_text thread_text = goes_on _ _ _ _ _ c.in_ok-add_text-3.ensures.added c.thread.ensures runnable in
    let throwable : c.add_text-4.new.classes ≡ (((c.in_ok-object.field-0 ∷ [] ++ class_of_text string_text) ++ class_of_text runnable_text) ++ class_of_text thread_text) ++ class_of_text throwable_text = goes_on _ _ _ _ _ c.in_ok-add_text-4.ensures.added c.throwable.ensures thread in
    c.in_ok-add_exceptions.ensures.added
    ∙ ap (λ front. front ++ flat_map (λ row. class_of_text (exception_text (row_names row))) c.exceptions.result.now) throwable
    ∙ whole row_names c.exceptions.result.now c.in_ok-object.field-0 c.in_ok-object.ensures c.exceptions.ensures.rows
