-- The whole class: reading stops with exactly the first fault by items.
use Rattle.std.proofs.Common.{◌≡◌, ◌↔◌, ◌⊎◌, inl, inr, ℕ, ◌^◌, ◌<◌, ◌≤◌, nat_le, Bool, ◌&&◌, ◌==◌, List, [], length, Result, Err, refl, sym, ap, ◌∙◌}
use Rattle.std.specs.Bool.{Decides}
use Rattle.std.specs.List.{AllByRecursion}
use Rattle.std.proofs.lemmas.Bool.{cases_Bool, leb-true, le-leb}
use Rattle.std.proofs.lemmas.Bool.Decides.{Decides-and, Decides-eqb, Decides-like}
use Rattle.std.proofs.lemmas.List.{nil_from_length}
use Rattle.jo_insn.proofs.Numbers.{AreBytes, are_bytes}
use Rattle.class_pool.specs.declared.entries.PoolEntry.{PoolEntry}
use Rattle.class_pool.specs.declared.classes.ClassFile.{ClassFile}
use Rattle.class_pool.specs.declared.faults.ClassCode.TheVariants.{Magic, Version, Trailing}
use Rattle.class_pool.specs.declared.faults.ClassFault.{ClassFault}
use Rattle.class_pool.specs.Items.{◌>>=◌, place_of, passing, number}
use Rattle.class_pool.specs.Pool.{read_pool_from}
use Rattle.class_pool.specs.ClassOrder.{read_behind, class_of}
use Rattle.class_pool.specs.ClassGrammar.{IsClass}
use Rattle.class_pool.specs.FirstFault.{RestStops, FileStops, FirstFault}
use Rattle.class_pool.proofs.GrammarNumbers.{by_answer}
use Rattle.class_pool.proofs.GrammarClass.{reading_is_the_grammar, no_class}
use Rattle.class_pool.proofs.FirstFaultSteps.{StopsBy, never, reads_as, part, check, number_reads, many_reads, err_same}
use Rattle.class_pool.proofs.FirstFaultReferences.{pool_reads}
use Rattle.class_pool.proofs.FirstFaultFields.{class_index_reads, attributes_stop, field_reads}
use Rattle.class_pool.proofs.FirstFaultMethods.{method_reads}

end_decided : (end : List ℕ) → Decides (length end == 0) (end ≡ [])
end_decided end = Decides-like (length end == 0) (nil_from_length end) (λ (is : end ≡ []). ap length is) (Decides-eqb (length end) 0)

module _ (size : ℕ) (version : ℕ × ℕ) (pool : List PoolEntry) where
  rest_stops : (rest : List ℕ) → AreBytes rest → StopsBy (read_behind size version pool rest) (RestStops size pool rest)
  unfolding read_behind
  rest_stops rest bytes =
      part (number_reads size 2) rest bytes _ (λ flags at_this t1.
      part (class_index_reads size pool) at_this t1.bytes _ (λ this_class at_super t2.
      part (class_index_reads size pool) at_super t2.bytes _ (λ super_class at_interfaces t3.
      part (number_reads size 2) at_interfaces t3.bytes _ (λ i interfaces_at u1.
      part (many_reads (class_index_reads size pool) i) interfaces_at u1.bytes _ (λ interfaces at_fields t4.
      part (number_reads size 2) at_fields t4.bytes _ (λ j fields_at u2.
      part (many_reads (field_reads size pool) j) fields_at u2.bytes _ (λ fields at_methods t5.
      part (number_reads size 2) at_methods t5.bytes _ (λ k methods_at u3.
      part (many_reads (method_reads size pool) k) methods_at u3.bytes _ (λ methods at_attributes t6.
      attributes_stop size pool at_attributes t6.bytes _ (λ end b.
      check Trailing (place_of size end) (length end == 0) (end_decided end) (λ _. never)))))))))))

abbrev is_known : ℕ → Bool
is_known major = nat_le 45 major && nat_le major 52

known_decided : (major : ℕ) → Decides (is_known major) ((45 ≤ major) × (major ≤ 52))
known_decided major = Decides-and (nat_le 45 major) (nat_le major 52) (leb-true 45 major, le-leb 45 major) (leb-true major 52, le-leb major 52)

module _ (size : ℕ) where
  -- the file, its steps in a row
  abbrev in_a_row : List ℕ → Result ClassFile ClassFault
  in_a_row file =
      number size 4 file >>= λ magic.
      passing (magic.0 == 0xcafebabe) Magic 0 (
      number size 2 magic.1 >>= λ minor. number size 2 minor.1 >>= λ major.
      passing (is_known major.0) Version (place_of size minor.1) (
      read_pool_from size major.1 >>= λ pool. read_behind size (minor.0, major.0) pool.0 pool.1))

  file_stops : (file : List ℕ) → AreBytes file → StopsBy (in_a_row file) (FileStops size file)
  file_stops file bytes =
      part (number_reads size 4) file bytes _ (λ magic at_minor t1.
      check Magic 0 (magic == 0xcafebabe) (Decides-eqb magic 0xcafebabe) (λ _.
      part (number_reads size 2) at_minor t1.bytes _ (λ minor at_major t2.
      part (number_reads size 2) at_major t2.bytes _ (λ major at_pool t3.
      check Version (place_of size at_major) (is_known major) (known_decided major) (λ _.
      part (pool_reads size) at_pool t3.bytes _ (λ pool behind_pool t4.
      rest_stops size (minor, major) pool behind_pool t4.bytes))))))

class_in_a_row : (file : List ℕ) → class_of file ≡ in_a_row (length file) file
unfolding class_of
class_in_a_row file =
    let size : ℕ = length file in
    by_answer (number size 4 file) (λ f failed. rw failed refl) (λ magic is1. rw is1 (
    elim (cases_Bool (magic.0 == 0xcafebabe)) [
      | inr other ↦ rw other refl
      | inl is ↦ rw is (
          by_answer (number size 2 magic.1) (λ f failed. rw failed refl) (λ minor is2. rw is2 (
          by_answer (number size 2 minor.1) (λ f failed. rw failed refl) (λ major is3. rw is3 (
          elim (cases_Bool (is_known major.0)) [
            | inr unknown ↦ rw unknown refl
            | inl known ↦ rw known refl
          ])))))
    ]))

module _ (file : List ℕ) (all : AllByRecursion (λ byte. byte < 2 ^ 8) file) where
  pub first_fault : (f : ClassFault) → (class_of file ≡ Err f) ↔ FirstFault file f
  first_fault f = let by = reads_as (class_in_a_row file) (file_stops (length file) file (are_bytes file all)) in (by.found f, by.again f)

  pub class_or_fault : ((class : ClassFile) × IsClass file class) ⊎ ((f : ClassFault) × FirstFault file f)
  class_or_fault = by_answer (class_of file) (λ f failed. inr (f, (first_fault f).0 failed)) (λ class is. inl (class, (reading_is_the_grammar file class all).0 is))

  pub not_both : (class : ClassFile) (f : ClassFault) → IsClass file class → FirstFault file f → ⊥
  not_both class f is_class wrong = no_class file f ((first_fault f).1 wrong) class is_class

  pub one_fault : (f g : ClassFault) → FirstFault file f → FirstFault file g → f ≡ g
  one_fault f g one other = err_same (sym ((first_fault f).1 one) ∙ (first_fault g).1 other)
