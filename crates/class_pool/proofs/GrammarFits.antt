-- What is read as a class fits the fields of its spelling.
use Rattle.std.proofs.Common.{◌≡◌, ℕ, ◌+◌, ◌^◌, ◌<◌, ◌≤◌, Bool, false, List, [], ◌∷◌, length, Option, Some, None, refl, ap, arith}
use Rattle.std.specs.Prelude.{codes}
use Rattle.std.specs.List.{AllByRecursion}
use Rattle.class_pool.specs.declared.entries.PoolEntry.{PoolEntry}
use Rattle.class_pool.specs.declared.entries.PoolEntry.TheVariants.{Second, Utf8, Integer, Float, Long, Double, Class, Text, FieldRef, MethodRef, InterfaceMethodRef, NameAndType, MethodHandle, MethodType, InvokeDynamic}
use Rattle.class_pool.specs.declared.classes.ClassFile.{ClassFile}
use Rattle.class_pool.specs.declared.classes.FieldInfo.{FieldInfo}
use Rattle.class_pool.specs.declared.classes.MethodInfo.{MethodInfo}
use Rattle.class_pool.specs.declared.classes.CodeInfo.{CodeInfo}
use Rattle.class_pool.specs.declared.classes.RowInfo.{RowInfo}
use Rattle.class_pool.specs.Writing.{FitsEntry, FitsPool, AreSpaced, is_second}
use Rattle.class_pool.specs.ClassGrammar.{SpellsEach, SpellsEntry, SpellsEntries, no_entry, single, twofold, Attribute, HasConstant, no_constant, not_constant, constant_value, SpellsField, SpellsRow, SpellsCode, HasCodes, no_code, not_code, code_attribute, codes_in, SpellsMethod, SpellsClassIndex, IsClass}
use Rattle.class_pool.specs.Fitting.{HasText, FitsConstant, FitsField, FitsRow, FitsContent, FitsCode, FitsMethod, FitsClass}
use Rattle.class_pool.proofs.KeptSizes.{kept_length}

-- what follows from the spelling of each item
pub each_so : {X : Type 0} (Spells : X → List ℕ → Type 0) (P : X → Type 0) → ((x : X) (bytes : List ℕ) → Spells x bytes → P x) → (xs : List X) (bytes : List ℕ) → SpellsEach Spells xs bytes → AllByRecursion P xs
each_so Spells P one [] bytes each = tt
each_so Spells P one (x ∷ xs) bytes (first, rest, both, spells, more) = (one x first spells, each_so Spells P one xs rest more)

-- ---- the pool

entry_fits : (entry : PoolEntry) (bytes : List ℕ) → SpellsEntry entry bytes → FitsEntry entry × (is_second entry ≡ false)
entry_fits Second bytes h = absurd h
entry_fits (Utf8 text) bytes h = (h.1, refl)
entry_fits (Integer n) bytes h = (h.1, refl)
entry_fits (Float bits) bytes h = (h.1, refl)
entry_fits (Long bits) bytes h = (h.1, refl)
entry_fits (Double bits) bytes h = (h.1, refl)
entry_fits (Class name) bytes h = (h.1, refl)
entry_fits (Text text) bytes h = (h.1, refl)
entry_fits (FieldRef class type) bytes h = ((h.1, h.2), refl)
entry_fits (MethodRef class type) bytes h = ((h.1, h.2), refl)
entry_fits (InterfaceMethodRef class type) bytes h = ((h.1, h.2), refl)
entry_fits (NameAndType name desc) bytes h = ((h.1, h.2), refl)
entry_fits (MethodHandle kind target) bytes h = ((h.1, h.2), refl)
entry_fits (MethodType desc) bytes h = (h.1, refl)
entry_fits (InvokeDynamic method type) bytes h = ((h.1, h.2), refl)

entries_fit : {entries : List PoolEntry} {bytes : List ℕ} → SpellsEntries entries bytes → AllByRecursion FitsEntry entries × AreSpaced false entries
entries_fit no_entry = (tt, refl)
entries_fit (single entry more first rest one h others) =
    let fits = entry_fits entry first h in
    let later = entries_fit others in
    ((fits.0, later.0), (fits.1, rw one later.1))
entries_fit (twofold entry more first rest two h others) =
    let fits = entry_fits entry first h in
    let later = entries_fit others in
    ((fits.0, (tt, later.0)), (fits.1, rw two (refl, later.1)))

pub pool_fits : (bytes : List ℕ) (c : ClassFile) → IsClass bytes c → FitsPool c.pool
pool_fits bytes c h =
    let fit = entries_fit h.pool_spelled in
    let few : length c.pool + 1 < 2 ^ 16 = h.pool_length in
    record { few = omega arith; entries = fit.0; spaced = fit.1 }

-- ---- fields

constant_fits : {pool : List PoolEntry} {static : Bool} {desc : ℕ} {attributes : List Attribute} {constant : Option ℕ} → HasConstant pool static desc attributes constant → FitsConstant pool constant
constant_fits no_constant = tt
constant_fits (not_constant attribute more constant other has) = constant_fits has
constant_fits (constant_value attribute more constant is named value has) = (value.1, (attribute.name, named))

field_fits : (pool : List PoolEntry) (f : FieldInfo) (bytes : List ℕ) → SpellsField pool f bytes → FitsField pool f
field_fits pool f bytes h = record { flags = h.flags; name = h.name_index; desc = h.desc_index; constant = constant_fits h.constant }

-- ---- methods

row_fits : (row : RowInfo) (bytes : List ℕ) → SpellsRow row bytes → FitsRow row
row_fits row bytes (spelled, start, end, handler, catch_type) = record { start = start; end = end; handler = handler; catch_type = catch_type }

pub content_fits : (pool : List PoolEntry) (c : CodeInfo) (content : List ℕ) → SpellsCode pool c content → FitsContent c
content_fits pool c content h =
    let (items, both, few, each) = h.rows_spelled in
    let long = kept_length pool h.code h.instructions in
    let kept = ap length h.kept in
    let short : length h.code < 2 ^ 16 = h.short in
    record {
      max_stack = h.stack;
      max_locals = h.locals;
      bytes = omega arith;
      few_rows = few;
      rows = each_so SpellsRow FitsRow row_fits c.rows items each;
    }

codes_fit : {pool : List PoolEntry} {attributes : List Attribute} {found : List CodeInfo} → HasCodes pool attributes found → AllByRecursion (λ (c : CodeInfo). FitsContent c × HasText pool (codes "Code")) found
codes_fit no_code = tt
codes_fit (not_code attribute more found other has) = codes_fit has
codes_fit {pool = pool} (code_attribute attribute more c found named spelled has) = ((content_fits pool c attribute.content spelled, (attribute.name, named)), codes_fit has)

code_fits : (pool : List PoolEntry) (code : Option CodeInfo) → AllByRecursion (λ (c : CodeInfo). FitsContent c × HasText pool (codes "Code")) (codes_in code) → FitsCode pool code
code_fits pool None all = tt
code_fits pool (Some c) all = all.0

method_fits : (pool : List PoolEntry) (m : MethodInfo) (bytes : List ℕ) → SpellsMethod pool m bytes → FitsMethod pool m
method_fits pool m bytes h = record { flags = h.flags; name = h.name_index; desc = h.desc_index; code = code_fits pool m.code (codes_fit h.body) }

-- ---- the class

pub what_is_read_fits : (bytes : List ℕ) (c : ClassFile) → IsClass bytes c → FitsClass c
what_is_read_fits bytes c h =
    let (interfaces, at_interfaces, few_interfaces, each_interface) = h.interfaces in
    let (fields, at_fields, few_fields, each_field) = h.fields in
    let (methods, at_methods, few_methods, each_method) = h.methods in
    let newest : c.major ≤ 52 = h.newest in
    record {
      minor = h.minor;
      major = omega arith;
      pool = pool_fits bytes c h;
      flags = h.flags;
      this_class = h.this_class.0;
      super_class = h.super_class.0;
      few_interfaces = few_interfaces;
      interfaces = each_so (SpellsClassIndex c.pool) (λ (index : ℕ). index < 2 ^ 16) (λ index bytes spells. spells.1.0) c.interfaces interfaces each_interface;
      few_fields = few_fields;
      fields = each_so (SpellsField c.pool) (FitsField c.pool) (field_fits c.pool) c.fields fields each_field;
      few_methods = few_methods;
      methods = each_so (SpellsMethod c.pool) (FitsMethod c.pool) (method_fits c.pool) c.methods methods each_method;
    }
