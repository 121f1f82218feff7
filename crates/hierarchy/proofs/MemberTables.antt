-- Tables of the members of classes, built from the last member to the first.
use Rattle.std.proofs.Common.{◌≡◌, ◌∙◌, ℕ, zero, suc, ◌+◌, ◌-◌, ◌<◌, ◌≤◌, cond, List, [], ◌∷◌, ◌++◌, length, drop, get_or, Option, Some, refl, sym, ap, arith}
use Rattle.std.specs.Prelude.{option_and_then, slice_get}
use Rattle.std.specs.List.{AllZip}
use Rattle.std.specs.Map.{lookup}
use Rattle.std.specs.Option.{option_or}
use Rattle.std.proofs.lemmas.List.{drop_more, drop_all}
use Rattle.indexmap.specs.IndexMap.{IndexMap}
use Rattle.jo_prog.specs.declared.program.Program.{Program}
use Rattle.jo_prog.specs.declared.program.Class.{Class}
use Rattle.jo_prog.specs.Program.{method_at, first_with, has_signature}
use Rattle.jo_prog.specs.Hierarchy.{first_field, is_field}
use Rattle.jo_prog.specs.Walks.{first_found}
use Rattle.hierarchy.specs.declared.own_members.Signature.{Signature}
use Rattle.hierarchy.specs.declared.own_members.OwnMembers.{OwnMembers}
use Rattle.hierarchy.specs.OwnMembers.{same_signature, member_by, AreMethodsOf, AreFieldsOf, AreTables, HasTables}

-- ---- one member more, before the others

pub number_before : (numbers : List ℕ) (left number : ℕ) → 0 < left → left ≤ length numbers → number ≡ get_or numbers (left - 1) number → drop (left - 1) numbers ≡ number ∷ drop left numbers
number_before numbers left number some within at =
    let e : (left - 1) + 1 ≡ left = omega arith in
    drop_more numbers (left - 1) number (omega arith) ∙ ap (λ x. x ∷ drop ((left - 1) + 1) numbers) (sym at) ∙ ap (λ n. number ∷ drop n numbers) e

module _ {S : Type 0} (program : Program) (numbers : List ℕ) where
  pub no_methods : (table : IndexMap Signature ℕ S) → table.entries ≡ [] → AreMethodsOf program (drop (length numbers) numbers) table
  no_methods table empty = λ q. ap (lookup (same_signature q)) empty ∙ sym (ap (first_with program q.name.now q.desc.now) (drop_all (length numbers) numbers (omega arith)))

  pub no_fields : (table : IndexMap Signature ℕ S) → table.entries ≡ [] → AreFieldsOf program (drop (length numbers) numbers) table
  no_fields table empty = λ q. ap (lookup (same_signature q)) empty ∙ sym (ap (first_field program q.name.now q.desc.now) (drop_all (length numbers) numbers (omega arith)))

  pub one_method : (left number : ℕ) (old new : IndexMap Signature ℕ S) → drop (left - 1) numbers ≡ number ∷ drop left numbers → AreMethodsOf program (drop left numbers) old
      → ((q : Signature) → member_by new q ≡ cond (has_signature q.name.now q.desc.now (method_at program number)) (Some number) (member_by old q))
      → AreMethodsOf program (drop (left - 1) numbers) new
  one_method left number old new drops are put = λ q.
      put q ∙ ap (λ (r : Option ℕ). cond (has_signature q.name.now q.desc.now (method_at program number)) (Some number) r) (are q)
      ∙ sym (ap (first_with program q.name.now q.desc.now) drops)

  pub one_field : (left number : ℕ) (old new : IndexMap Signature ℕ S) → drop (left - 1) numbers ≡ number ∷ drop left numbers → AreFieldsOf program (drop left numbers) old
      → ((q : Signature) → member_by new q ≡ cond (is_field q.name.now q.desc.now (slice_get program.fields number)) (Some number) (member_by old q))
      → AreFieldsOf program (drop (left - 1) numbers) new
  one_field left number old new drops are put = λ q.
      put q ∙ ap (λ (r : Option ℕ). cond (is_field q.name.now q.desc.now (slice_get program.fields number)) (Some number) r) (are q)
      ∙ sym (ap (first_field program q.name.now q.desc.now) drops)

-- ---- the tables of all classes

pub zip_push : {X Y : Type 0} (R : X → Y → Type 0) (xs : List X) (ys : List Y) (x : X) (y : Y) → AllZip R xs ys → R x y → AllZip R (xs ++ x ∷ []) (ys ++ y ∷ [])
zip_push R [] [] x y all r = (r, tt)
zip_push R [] (b ∷ ys) x y all r = absurd all
zip_push R (a ∷ xs) [] x y all r = absurd all
zip_push R (a ∷ xs) (b ∷ ys) x y all r = (all.0, zip_push R xs ys x y all.1 r)

method_there : (program : Program) (q : Signature) (classes : List Class) (tables : List OwnMembers) → AreTables program classes tables → (c : ℕ)
    → option_and_then (λ (own : OwnMembers). member_by own.methods q) (slice_get tables c)
    ≡ option_and_then (λ (class : Class). first_with program q.name.now q.desc.now class.methods) (slice_get classes c)
method_there program q [] [] are c = refl
method_there program q [] (own ∷ tables) are c = absurd are
method_there program q (class ∷ classes) [] are c = absurd are
method_there program q (class ∷ classes) (own ∷ tables) are zero = are.0.methods q
method_there program q (class ∷ classes) (own ∷ tables) are (suc c) = method_there program q classes tables are.1 c

field_there : (program : Program) (q : Signature) (classes : List Class) (tables : List OwnMembers) → AreTables program classes tables → (c : ℕ)
    → option_and_then (λ (own : OwnMembers). member_by own.fields q) (slice_get tables c)
    ≡ option_and_then (λ (class : Class). first_field program q.name.now q.desc.now class.fields) (slice_get classes c)
field_there program q [] [] are c = refl
field_there program q [] (own ∷ tables) are c = absurd are
field_there program q (class ∷ classes) [] are c = absurd are
field_there program q (class ∷ classes) (own ∷ tables) are zero = are.0.fields q
field_there program q (class ∷ classes) (own ∷ tables) are (suc c) = field_there program q classes tables are.1 c

pub tables_have : (program : Program) (tables : List OwnMembers) → AreTables program program.classes tables → HasTables program tables
tables_have program tables are = record {
  methods = λ q c. method_there program q program.classes tables are c;
  fields = λ q c. field_there program q program.classes tables are c;
}

-- what finds the same at each number finds the same first
pub found_alike : (look other : ℕ → Option ℕ) → ((c : ℕ) → look c ≡ other c) → (order : List ℕ) → first_found look order ≡ first_found other order
found_alike look other same [] = refl
found_alike look other same (c ∷ order) = ap (λ (r : Option ℕ). option_or r (first_found look order)) (same c) ∙ ap (λ (r : Option ℕ). option_or (other c) r) (found_alike look other same order)
