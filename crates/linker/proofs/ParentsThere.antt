-- In the program of some classes each superclass and each interface is there.
use Rattle.std.proofs.Common.{◌≡◌, ◌<◌, ℕ, zero, suc, ◌+◌, Bool, true, false, List, [], ◌∷◌, ◌++◌, length, get_or, Option, Some, None, refl, sym, subst, ap, ◌∙◌, ◌⊎◌, inl, inr, arith}
use Rattle.std.specs.Prelude.{slice_get, map, option_and_then, position}
use Rattle.std.specs.List.{Contains, flat_map}
use Rattle.std.specs.Option.{option_to_list}
use Rattle.std.specs.Str.{bytes_eq}
use Rattle.std.proofs.lemmas.List.{length-map}
use Rattle.std.proofs.lemmas.List.Elements.{Contains-append_cases}
use Rattle.std.proofs.lemmas.List.Quantifiers.{position-Some}
use Rattle.class_pool.specs.declared.classes.ClassFile.{ClassFile}
use Rattle.class_pool.specs.declared.entries.PoolEntry.{PoolEntry}
use Rattle.class_pool.specs.Pool.{class_name_at}
use Rattle.jo_prog.specs.declared.program.Class.{Class}
use Rattle.jo_prog.specs.Program.{class_at}
use Rattle.jo_prog.specs.Hierarchy.{superclass_in, interfaces_in, parents_of}
use Rattle.hierarchy.specs.Hierarchies.{HasItsParents}
use Rattle.linker.specs.Linking.{this_name, number_of, number_at, numbers_at, class_of, classes_from, program_among}

no_item : (x : ℕ) → Contains [] x → ⊥
no_item x (k, below, is) = omega arith

-- the numbers of names are below their count
named_below : (names : List (List ℕ)) (found : Option (List ℕ)) (p : ℕ) → Contains (option_to_list (option_and_then (number_of names) found)) p → p < length names
named_below names None p there = absurd (no_item p there)
named_below names (Some name) p there = by_number (number_of names name) refl there
  where
    by_number : (number : Option ℕ) → number_of names name ≡ number → Contains (option_to_list number) p → p < length names
    by_number None is h = absurd (no_item p h)
    by_number (Some n) is (zero, below, same) = subst (λ x. x < length names) same (position-Some (bytes_eq name) names n [] is).0
    by_number (Some n) is (suc k, below, same) = absurd (omega arith)

at_below : (names : List (List ℕ)) (pool : List PoolEntry) (k p : ℕ) → Contains (option_to_list (number_at names pool k)) p → p < length names
at_below names pool k p there = named_below names (class_name_at pool k) p there

all_below : (names : List (List ℕ)) (pool : List PoolEntry) (indices : List ℕ) (p : ℕ) → Contains (numbers_at names pool indices) p → p < length names
all_below names pool [] p there = absurd (no_item p there)
all_below names pool (k ∷ more) p there =
    by_part (λ rest. all_below names pool more p rest) (Contains-append_cases (option_to_list (number_at names pool k)) (numbers_at names pool more) p there)
  where
    by_part : (Contains (numbers_at names pool more) p → p < length names) → Contains (option_to_list (number_at names pool k)) p ⊎ Contains (numbers_at names pool more) p → p < length names
    by_part rest (inl here) = at_below names pool k p here
    by_part rest (inr later) = rest later

class_below : (names : List (List ℕ)) (field method : ℕ) (file : ClassFile) (p : ℕ)
    → Contains (interfaces_in (Some (class_of names field method file)) ++ superclass_in (Some (class_of names field method file))) p → p < length names
class_below names field method file p there =
    by_part (Contains-append_cases (numbers_at names file.pool file.interfaces) (option_to_list (number_at names file.pool file.super_class)) p there)
  where
    by_part : Contains (numbers_at names file.pool file.interfaces) p ⊎ Contains (option_to_list (number_at names file.pool file.super_class)) p → p < length names
    by_part (inl here) = all_below names file.pool file.interfaces p here
    by_part (inr here) = at_below names file.pool file.super_class p here

each_below : (names : List (List ℕ)) (field method : ℕ) (files : List ClassFile) (c p : ℕ)
    → Contains (interfaces_in (slice_get (classes_from names field method files) c) ++ superclass_in (slice_get (classes_from names field method files) c)) p → p < length names
each_below names field method [] c p there = absurd (no_item p there)
each_below names field method (file ∷ more) zero p there = class_below names field method file p there
each_below names field method (file ∷ more) (suc c) p there = each_below names (field + length file.fields) (method + length file.methods) more c p there

as_many : (names : List (List ℕ)) (field method : ℕ) (files : List ClassFile) → length (classes_from names field method files) ≡ length files
as_many names field method [] = refl
as_many names field method (file ∷ more) = ap suc (as_many names (field + length file.fields) (method + length file.methods) more)

-- as many classes as there are files
pub class_count : (files : List ClassFile) → length (program_among files).classes ≡ length files
unfolding program_among
class_count files = as_many (map this_name files) 0 0 files

pub parents_there : (files : List ClassFile) → HasItsParents (program_among files)
unfolding program_among
parents_there files c p leads =
    subst (λ n. p < n) (length-map files this_name ∙ sym (as_many (map this_name files) 0 0 files)) (each_below (map this_name files) 0 0 files c p leads)
