-- What is read as a class can be listed, and its code is listed whole.
use Rattle.std.proofs.Common.{◌≡◌, ℕ, zero, suc, ◌+◌, ◌<◌, ◌≤◌, List, [], ◌∷◌, length, Option, Some, None, Result, Ok, Err, refl, sym, ap, subst, arith}
use Rattle.std.specs.List.{AllByRecursion}
use Rattle.jo_insn.specs.declared.instructions.Insn.{Insn}
use Rattle.jo_insn.specs.declared.instructions.InsnFault.{InsnFault}
use Rattle.jo_insn.specs.Instructions.{decoded}
use Rattle.jo_insn.proofs.Numbers.{are_bytes}
use Rattle.jo_insn.proofs.DecodedMoves.{decoded-moves}
use Rattle.class_pool.specs.declared.entries.PoolEntry.{PoolEntry}
use Rattle.class_pool.specs.declared.classes.ClassFile.{ClassFile}
use Rattle.class_pool.specs.declared.classes.MethodInfo.{MethodInfo}
use Rattle.class_pool.specs.declared.classes.CodeInfo.{CodeInfo}
use Rattle.jo_insn.specs.declared.jumps.Placed.{Placed}
use Rattle.class_pool.specs.ClassGrammar.{u2, AreInsnsFrom, ends, goes_on, Attribute, SpellsCode, HasCodes, no_code, not_code, code_attribute, codes_in, SpellsMethod, IsClass}
use Rattle.class_pool.specs.Fitting.{FitsCode, FitsMethod}
use Rattle.class_pool.proofs.KeptSizes.{kept_length}
use Rattle.class_pool.proofs.GrammarFits.{each_so}
use Rattle.class_pool.proofs.GrammarBytes.{AllBytes, bytes_behind, InBytes, each_in_bytes, code_bytes, contents_bytes, methods_bytes}
use Rattle.class_pool.proofs.KeptAgain.{again}
use Rattle.class_dis.specs.Insns.{insns_from, IsShortCode, Cover, IsListedWhole}
use Rattle.class_dis.proofs.InsnSteps.{one_more, none_left}

-- ---- short

short_code : (pool : List PoolEntry) (code : Option CodeInfo) → FitsCode pool code → IsShortCode code
short_code pool None fits = tt
short_code pool (Some code) fits = fits.0.bytes

pub short_codes : (pool : List PoolEntry) (methods : List MethodInfo) → AllByRecursion (FitsMethod pool) methods → AllByRecursion (λ (method : MethodInfo). IsShortCode method.code) methods
short_codes pool [] all = tt
short_codes pool (method ∷ more) all = (short_code pool method.code all.0.code, short_codes pool more all.1)

-- ---- the instructions are all of the code

module _ (pool : List PoolEntry) (code : List ℕ) where
  pub nothing_past : (pc k : ℕ) (read : Result (Insn × ℕ) InsnFault) → length code ≤ pc → decoded code pc ≡ read → insns_from k code pc ≡ []
  nothing_past pc k (Err fault) past is = none_left code k pc fault is
  nothing_past pc k (Ok (insn, next)) past is = let moves = decoded-moves code pc next insn is in absurd (omega arith)

  covered : (k : ℕ) {pc : ℕ} {insns : List Placed} → AreInsnsFrom pool code pc insns → length code ≤ k + pc → Cover pc (length code) (insns_from k code pc)
  covered k (ends pc end) enough = subst (Cover pc (length code)) (sym (nothing_past pc k (decoded code pc) (omega arith) refl)) end
  covered zero (goes_on pc next insn more is sound others) enough = let moves = decoded-moves code pc next insn is in absurd (omega arith)
  covered (suc k) (goes_on pc next insn more is sound others) enough =
      let moves = decoded-moves code pc next insn is in
      let rest = covered k others (omega arith) in
      subst (Cover pc (length code)) (sym (one_more code k pc next insn is)) (refl, rest)

-- ---- whole

code_whole : (pool : List PoolEntry) (c : CodeInfo) (content : List ℕ) → AllBytes content → SpellsCode pool c content → IsListedWhole (Some c)
code_whole pool c content all h =
    let bytes = are_bytes h.code (code_bytes pool c content all h) in
    let long = kept_length pool h.code h.instructions in
    let kept = ap length h.kept in
    let some : 0 < length h.code = h.not_empty in
    (omega arith, covered pool c.bytes (length c.bytes) (again pool h.code bytes c.bytes [] h.instructions refl h.kept) (omega arith))

-- ---- each code of a class

codes_so : {pool : List PoolEntry} (P : Option CodeInfo → Type 0) → ((code : CodeInfo) (content : List ℕ) → AllBytes content → SpellsCode pool code content → P (Some code)) → {attributes : List Attribute} {found : List CodeInfo}
    → HasCodes pool attributes found → AllByRecursion (λ (attribute : Attribute). AllBytes attribute.content) attributes → AllByRecursion (λ (code : CodeInfo). P (Some code)) found
codes_so P one no_code all = tt
codes_so P one (not_code attribute more found other has) all = codes_so P one has all.1
codes_so P one (code_attribute attribute more c found named spelled has) all = (one c attribute.content all.0 spelled, codes_so P one has all.1)

one_code : (P : Option CodeInfo → Type 0) → P None → (code : Option CodeInfo) → AllByRecursion (λ (c : CodeInfo). P (Some c)) (codes_in code) → P code
one_code P without None all = without
one_code P without (Some c) all = all.0

-- what holds of each code that is spelled, and where there is none, holds of each method's
pub each_code : (bytes : List ℕ) (c : ClassFile) → AllBytes bytes → IsClass bytes c → (P : Option CodeInfo → Type 0) → P None → ((code : CodeInfo) (content : List ℕ) → AllBytes content → SpellsCode c.pool code content → P (Some code))
    → AllByRecursion (λ (method : MethodInfo). P method.code) c.methods
each_code bytes c all h P without one =
    let (methods, at_methods, few_methods, each_method) = h.methods in
    let inside = bytes_behind (u2 (length c.methods)) methods (subst AllBytes at_methods (methods_bytes bytes c all h)) in
    let each = each_in_bytes (SpellsMethod c.pool) c.methods methods inside each_method in
    let method : (m : MethodInfo) (text : List ℕ) → InBytes (SpellsMethod c.pool) m text → P m.code = λ m text is. one_code P without m.code (codes_so P one is.1.body (contents_bytes c.pool m text is.0 is.1)) in
    each_so (InBytes (SpellsMethod c.pool)) (λ (m : MethodInfo). P m.code) method c.methods methods each

pub all_whole : (bytes : List ℕ) (c : ClassFile) → AllBytes bytes → IsClass bytes c → AllByRecursion (λ (method : MethodInfo). IsListedWhole method.code) c.methods
all_whole bytes c all h = each_code bytes c all h IsListedWhole tt (code_whole c.pool)
