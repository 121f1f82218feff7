-- What is read as a class has the names of its parts.
use Rattle.std.proofs.Common.{◌≡◌, ◌⊎◌, inl, inr, ℕ, List, [], ◌∷◌, Option, Some, None, refl}
use Rattle.std.specs.Prelude.{IsSome, IsSomeAnd}
use Rattle.std.specs.List.{AllByRecursion}
use Rattle.class_pool.specs.declared.entries.PoolEntry.{PoolEntry}
use Rattle.class_pool.specs.declared.classes.ClassFile.{ClassFile}
use Rattle.class_pool.specs.declared.classes.FieldInfo.{FieldInfo}
use Rattle.class_pool.specs.declared.classes.MethodInfo.{MethodInfo}
use Rattle.class_pool.specs.declared.classes.CodeInfo.{CodeInfo}
use Rattle.class_pool.specs.declared.classes.RowInfo.{RowInfo}
use Rattle.jo_insn.specs.declared.jumps.Placed.{Placed}
use Rattle.class_pool.specs.Pool.{class_name_at}
use Rattle.class_pool.specs.ClassGrammar.{SpellsField, IsRow, Attribute, HasCodes, no_code, not_code, code_attribute, codes_in, SpellsMethod, SpellsClassIndex, IsClass}
use Rattle.class_pool.proofs.GrammarFits.{each_so}
use Rattle.class_dis.specs.Names.{HasClass, HasMember, HasCaught, HasNames}

pub is_there : {A : Type 0} (o : Option A) (P : A → Type 0) → IsSomeAnd o P → IsSome o
is_there None P is = absurd is
is_there (Some x) P is = refl

rows_caught : (pool : List PoolEntry) (code : List ℕ) (insns : List Placed) (rows : List RowInfo) → AllByRecursion (IsRow pool code insns) rows → AllByRecursion (λ (row : RowInfo). (row.catch_type ≡ 0) ⊎ HasClass pool row.catch_type) rows
rows_caught pool code insns [] all = tt
rows_caught pool code insns (row ∷ rows) all =
    let here : (row.catch_type ≡ 0) ⊎ HasClass pool row.catch_type = elim all.0.catches [ inl any ↦ inl any | inr named ↦ inr (is_there (class_name_at pool row.catch_type) _ named) ] in
    (here, rows_caught pool code insns rows all.1)

codes_caught : {pool : List PoolEntry} {attributes : List Attribute} {found : List CodeInfo} → HasCodes pool attributes found → AllByRecursion (λ (c : CodeInfo). HasCaught pool (Some c)) found
codes_caught no_code = tt
codes_caught (not_code attribute more found other has) = codes_caught has
codes_caught {pool = pool} (code_attribute attribute more c found named spelled has) = (rows_caught pool spelled.code spelled.insns c.rows spelled.rows_fit, codes_caught has)

one_code : (pool : List PoolEntry) (code : Option CodeInfo) → AllByRecursion (λ (c : CodeInfo). HasCaught pool (Some c)) (codes_in code) → HasCaught pool code
one_code pool None all = tt
one_code pool (Some c) all = all.0

pub names_there : (bytes : List ℕ) (c : ClassFile) → IsClass bytes c → HasNames c
names_there bytes c h =
    let pool : List PoolEntry = c.pool in
    let (interfaces, at_interfaces, few_interfaces, each_interface) = h.interfaces in
    let (fields, at_fields, few_fields, each_field) = h.fields in
    let (methods, at_methods, few_methods, each_method) = h.methods in
    record {
      this_class = is_there _ _ h.this_class.1;
      super_class = is_there _ _ h.super_class.1;
      interfaces = each_so (SpellsClassIndex pool) (HasClass pool) (λ index bytes_of is. is_there _ _ is.1.1) c.interfaces interfaces each_interface;
      fields = each_so (SpellsField pool) (λ (f : FieldInfo). HasMember pool f.name f.desc) (λ f bytes_of is. (is_there _ _ is.name, is_there _ _ is.desc)) c.fields fields each_field;
      methods = each_so (SpellsMethod pool) (λ (m : MethodInfo). HasMember pool m.name m.desc × HasCaught pool m.code)
          (λ m bytes_of is. ((is_there _ _ is.name, is_there _ _ is.desc), one_code pool m.code (codes_caught is.body))) c.methods methods each_method;
    }
