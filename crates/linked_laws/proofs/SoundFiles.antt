-- A class that was read is sound.
use Rattle.std.proofs.Common.{◌≡◌, ℕ, ◌<◌, ◌^◌, Bool, true, List, [], ◌++◌, length, Option, Some, None, refl, sym, ap, subst, arith}
use Rattle.std.specs.List.{AllByRecursion}
use Rattle.std.specs.Option.{IsSomeAnd}
use Rattle.std.proofs.lemmas.Option.{none-some, same_Some}
use Rattle.class_pool.specs.declared.entries.PoolEntry.{PoolEntry}
use Rattle.class_pool.specs.declared.classes.ClassFile.{ClassFile}
use Rattle.class_pool.specs.declared.classes.FieldInfo.{FieldInfo}
use Rattle.class_pool.specs.declared.classes.MethodInfo.{MethodInfo}
use Rattle.class_pool.specs.declared.classes.CodeInfo.{CodeInfo}
use Rattle.class_pool.specs.Code.{canonical_code}
use Rattle.class_pool.proofs.KeptSizes.{kept_length}
use Rattle.class_pool.proofs.KeptAgain.{again, all_same, jumps_again, rows_again}
use Rattle.class_pool.proofs.GrammarBytes.{AllBytes, InBytes, bytes_behind, each_in_bytes, code_bytes, contents_bytes, methods_bytes}
use Rattle.jo_insn.proofs.Numbers.{are_bytes}
use Rattle.class_pool.specs.Pool.{entry_at, utf8_at}
use Rattle.class_pool.specs.ClassGrammar.{Attribute, HasConstant, no_constant, not_constant, constant_value, SpellsField, IsClass, u2, codes_in, HasCodes, no_code, not_code, code_attribute, SpellsCode, SpellsMethod, HasBody}
use Rattle.class_pool.specs.ClassOrder.{fits_constant}
use Rattle.class_pool.proofs.GrammarFits.{each_so, pool_fits}
use Rattle.linked_laws.specs.Files.{HasFittingConstant, HasWholeCode, HasWholeCodeIfAny, HasWholeCodes, HasBodies, IsSoundFile}
use Rattle.linked_laws.proofs.ByteLemmas.{canonical_bytes}

constant_fits : (pool : List PoolEntry) (static : Bool) (desc : ℕ) (attributes : List Attribute) (o : Option ℕ) → HasConstant pool static desc attributes o
    → (k : ℕ) → o ≡ Some k → IsSomeAnd (utf8_at pool desc) (λ text. fits_constant text (entry_at pool k) ≡ true)
constant_fits pool static desc attributes o no_constant k is = absurd (none-some k is)
constant_fits pool static desc attributes o (not_constant a more constant apart rest) k is = constant_fits pool static desc more constant rest k is
constant_fits pool static desc attributes o (constant_value a more found s n value rest) k is =
    subst (λ (j : ℕ). IsSomeAnd (utf8_at pool desc) (λ text. fits_constant text (entry_at pool j) ≡ true)) (same_Some found k is) value.2

field_fits : (pool : List PoolEntry) (field : FieldInfo) (bytes : List ℕ) → SpellsField pool field bytes → HasFittingConstant pool field
field_fits pool field bytes spelled k is = constant_fits pool _ field.desc spelled.attributes field.constant spelled.constant k is

-- ---- code, as it is kept

code_whole : (pool : List PoolEntry) (c : CodeInfo) (content : List ℕ) → AllBytes content → SpellsCode pool c content → HasWholeCode pool c
code_whole pool c content all h =
    let code : List ℕ = h.code in
    let bytes = are_bytes code (code_bytes pool c content all h) in
    let kept : c.bytes ≡ [] ++ canonical_code pool code h.insns = h.kept in
    let long = kept_length pool code h.instructions in
    let kept_as : length c.bytes ≡ length (canonical_code pool code h.insns) = ap length h.kept in
    let long_as : length code ≡ length c.bytes = omega arith in
    let same = all_same pool code bytes c.bytes [] h.instructions refl kept in
    let some : 0 < length code = h.not_empty in
    let few : length code < 2 ^ 16 = h.short in
    record {
      insns = h.insns;
      in_bytes = subst AllBytes (sym h.kept) (canonical_bytes pool code (code_bytes pool c content all h) h.insns h.instructions);
      not_empty = omega arith;
      short = omega arith;
      instructions = again pool code bytes c.bytes [] h.instructions refl kept;
      jumps = jumps_again pool code bytes c.bytes h.insns h.insns same h.jumps;
      rows = rows_again pool code bytes c.bytes h.insns c.rows long_as h.rows_fit;
    }

codes_whole : {pool : List PoolEntry} {attributes : List Attribute} {found : List CodeInfo} → HasCodes pool attributes found → AllByRecursion (λ (attribute : Attribute). AllBytes attribute.content) attributes → AllByRecursion (HasWholeCode pool) found
codes_whole no_code all = tt
codes_whole (not_code attribute more found other has) all = codes_whole has all.1
codes_whole {pool = pool} (code_attribute attribute more c found named spelled has) all = (code_whole pool c attribute.content all.0 spelled, codes_whole has all.1)

method_whole : (pool : List PoolEntry) (method : MethodInfo) (bytes : List ℕ) → InBytes (SpellsMethod pool) method bytes → HasWholeCodeIfAny pool method.code
method_whole pool method bytes (all, spelled) = by_code method.code (codes_whole spelled.body (contents_bytes pool method bytes all spelled))
  where
    by_code : (o : Option CodeInfo) → AllByRecursion (HasWholeCode pool) (codes_in o) → HasWholeCodeIfAny pool o
    by_code None whole = tt
    by_code (Some c) whole = whole.0

methods_whole : (bytes : List ℕ) (file : ClassFile) → AllBytes bytes → IsClass bytes file → HasWholeCodes file
methods_whole bytes file all is =
    let (items, both, few, each) = is.methods in
    let inside = bytes_behind (u2 (length file.methods)) items (subst AllBytes both (methods_bytes bytes file all is)) in
    each_so (InBytes (SpellsMethod file.pool)) (λ (method : MethodInfo). HasWholeCodeIfAny file.pool method.code) (method_whole file.pool) file.methods items (each_in_bytes (SpellsMethod file.pool) file.methods items inside each)

bodies_kept : (bytes : List ℕ) (file : ClassFile) → IsClass bytes file → HasBodies file
bodies_kept bytes file is =
    let (items, both, few, each) = is.methods in
    each_so (SpellsMethod file.pool) (λ (method : MethodInfo). HasBody method.flags method.code) (λ method own spelled. spelled.has_body) file.methods items each

pub read_is_sound : (bytes : List ℕ) (file : ClassFile) → AllBytes bytes → IsClass bytes file → IsSoundFile file
read_is_sound bytes file all is = record {
  superclass = is.super_class;
  entries = (pool_fits bytes file is).entries;
  references = is.references;
  constants = each_so (SpellsField file.pool) (HasFittingConstant file.pool) (field_fits file.pool) file.fields is.fields.0 is.fields.3;
  codes = methods_whole bytes file all is;
  bodies = bodies_kept bytes file is;
}
