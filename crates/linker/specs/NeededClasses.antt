-- Whether the classes are there that a class needs (JVM Specification SE 8, 4.3, 4.4, 5.3; which of those that it names
-- are needed is this project's own). The test says of a name whether a class has it.
use Rattle.std.specs.Prelude.{ℕ, zero, suc, ◌+◌, ◌-◌, ◌^◌, Bool, true, ◌&&◌, not, nat_lt, ◌==◌, if◌then◌else◌, List, [], ◌∷◌, length, take, drop, slice_index, Option, Some, None, Result, Ok, Err}
use Rattle.std.specs.List.{list_all}
use Rattle.class_pool.specs.declared.entries.PoolEntry.{PoolEntry}
use Rattle.class_pool.specs.declared.entries.PoolEntry.TheVariants.{Class, FieldRef, MethodRef, InterfaceMethodRef}
use Rattle.class_pool.specs.declared.classes.ClassFile.{ClassFile}
use Rattle.class_pool.specs.declared.classes.CodeInfo.{CodeInfo}
use Rattle.class_pool.specs.declared.classes.MethodInfo.{MethodInfo}
use Rattle.class_pool.specs.declared.classes.RowInfo.{RowInfo}
use Rattle.class_pool.specs.Pool.{utf8_at, class_name_at, desc_at}
use Rattle.linker.specs.Linking.{is_used}
use Rattle.linker.specs.LinkFaults.{is_known}

-- ---- descriptors and types

-- The name of a class stands between `L` and `;`. Where one has begun, the place of its first byte is given.
abbrev pub begun_behind : Option ℕ → ℕ → ℕ → Option ℕ
begun_behind None place byte = if byte == 76 then Some (place + 1) else None
begun_behind (Some start) place byte = if byte == 59 then None else Some start

-- where this byte ends a name, a class has it
abbrev pub ends_well : (List ℕ → Bool) → List ℕ → Option ℕ → ℕ → ℕ → Bool
ends_well there desc None place byte = true
ends_well there desc (Some start) place byte = if byte == 59 then there (take (place - start) (drop start desc)) else true

-- the same from this place of the descriptor on
abbrev pub names_there_from : (List ℕ → Bool) → List ℕ → ℕ → Option ℕ → List ℕ → Bool
names_there_from there desc place begun [] = true
names_there_from there desc place begun (byte ∷ more) = ends_well there desc begun place byte && names_there_from there desc (place + 1) (begun_behind begun place byte) more

-- the classes that a descriptor names
abbrev pub names_there : (List ℕ → Bool) → List ℕ → Bool
names_there there desc = names_there_from there desc 0 None desc

abbrev pub is_desc_there : (List ℕ → Bool) → Option (List ℕ) → Bool
is_desc_there there None = true
is_desc_there there (Some desc) = names_there there desc

-- a class, or the class of an array's elements
abbrev pub is_type_there : (List ℕ → Bool) → Option (List ℕ) → Bool
is_type_there there None = true
is_type_there there (Some name) = if slice_index name 0 == 91 then names_there there name else there name

-- ---- what instructions and rows name

abbrev pub is_member_there : (List ℕ → Bool) → List PoolEntry → ℕ → ℕ → Bool
is_member_there there pool class type = is_type_there there (class_name_at pool class) && is_desc_there there (desc_at pool type)

abbrev pub is_entry_there : (List ℕ → Bool) → List PoolEntry → PoolEntry → Bool
is_entry_there there pool (Class name) = is_type_there there (utf8_at pool name)
is_entry_there there pool (FieldRef class type) = is_member_there there pool class type
is_entry_there there pool (MethodRef class type) = is_member_there there pool class type
is_entry_there there pool (InterfaceMethodRef class type) = is_member_there there pool class type
is_entry_there there pool _ = true

-- of the entries from an index on each that an instruction of the class names
abbrev pub are_used_there : (List ℕ → Bool) → ClassFile → ℕ → List PoolEntry → Bool
are_used_there there class k [] = true
are_used_there there class k (entry ∷ more) =
    (if is_used class k then is_entry_there there class.pool entry else true) && are_used_there there class (k + 1) more

-- the class that a row catches; 0 names none
abbrev pub is_caught_there : (List ℕ → Bool) → List PoolEntry → RowInfo → Bool
is_caught_there there pool row = is_type_there there (class_name_at pool row.catch_type)

-- ---- classes

-- the descriptor of a method with code, and the classes that its rows catch; a method without code needs none
abbrev pub is_method_there : (List ℕ → Bool) → List PoolEntry → MethodInfo → Bool
is_method_there there pool method = by_code method.code
  where
    by_code : Option CodeInfo → Bool
    by_code None = true
    by_code (Some code) = is_desc_there there (utf8_at pool method.desc) && list_all (is_caught_there there pool) code.rows

abbrev pub is_interface_there : (List ℕ → Bool) → List PoolEntry → ℕ → Bool
is_interface_there there pool index = is_type_there there (class_name_at pool index)

-- its superclass, its interfaces, and what its methods need
abbrev pub has_parts : (List ℕ → Bool) → ClassFile → Bool
has_parts there class = is_type_there there (class_name_at class.pool class.super_class)
    && (list_all (is_interface_there there class.pool) class.interfaces && list_all (is_method_there there class.pool) class.methods)

-- and what its instructions name
abbrev pub has_needed : (List ℕ → Bool) → ClassFile → Bool
has_needed there class = has_parts there class && are_used_there there class 1 class.pool

abbrev pub lacks_class : List (List ℕ) → ClassFile → Bool
lacks_class names class = not (has_needed (is_known names) class)
