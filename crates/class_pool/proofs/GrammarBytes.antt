-- The parts of a file of bytes are bytes.
use Rattle.std.proofs.Common.{ℕ, ◌+◌, ◌^◌, ◌<◌, List, [], ◌∷◌, ◌++◌, length, subst}
use Rattle.std.specs.List.{AllByRecursion}
use Rattle.class_pool.specs.declared.entries.PoolEntry.{PoolEntry}
use Rattle.class_pool.specs.declared.classes.ClassFile.{ClassFile}
use Rattle.class_pool.specs.declared.classes.MethodInfo.{MethodInfo}
use Rattle.class_pool.specs.declared.classes.CodeInfo.{CodeInfo}
use Rattle.class_pool.specs.ClassGrammar.{u2, u4, SpellsEach, Attribute, SpellsAttribute, SpellsCode, SpellsMethod, IsClass}
use Rattle.class_pool.proofs.GrammarFits.{each_so}

abbrev pub AllBytes : List ℕ → Type 0
AllBytes xs = AllByRecursion (λ (byte : ℕ). byte < 2 ^ 8) xs

pub bytes_behind : (front rest : List ℕ) → AllBytes (front ++ rest) → AllBytes rest
bytes_behind [] rest all = all
bytes_behind (x ∷ front) rest all = bytes_behind front rest all.1

pub bytes_before : (front rest : List ℕ) → AllBytes (front ++ rest) → AllBytes front
bytes_before [] rest all = tt
bytes_before (x ∷ front) rest all = (all.0, bytes_before front rest all.1)

-- what spells an item is bytes
abbrev pub InBytes : {X : Type 0} → (X → List ℕ → Type 0) → X → List ℕ → Type 0
InBytes Spells x bytes = AllBytes bytes × Spells x bytes

pub each_in_bytes : {X : Type 0} (Spells : X → List ℕ → Type 0) (xs : List X) (bytes : List ℕ) → AllBytes bytes → SpellsEach Spells xs bytes → SpellsEach (InBytes Spells) xs bytes
each_in_bytes Spells [] bytes all each = each
each_in_bytes Spells (x ∷ xs) bytes all (first, rest, both, spells, more) =
    let parts = subst AllBytes both all in
    (first, rest, both, (bytes_before first rest parts, spells), each_in_bytes Spells xs rest (bytes_behind first rest parts) more)

-- the code among the bytes of an attribute's content
pub code_bytes : (pool : List PoolEntry) (c : CodeInfo) (content : List ℕ) → AllBytes content → (h : SpellsCode pool c content) → AllBytes h.code
code_bytes pool c content all h =
    let behind = bytes_behind (u2 c.max_stack ++ u2 c.max_locals ++ u4 (length h.code)) (h.code ++ h.rows ++ h.attributes) (subst AllBytes h.spelled all) in
    bytes_before h.code h.rows (bytes_before (h.code ++ h.rows) h.attributes behind)

attribute_bytes : (pool : List PoolEntry) (attribute : Attribute) (bytes : List ℕ) → InBytes (SpellsAttribute pool) attribute bytes → AllBytes attribute.content
attribute_bytes pool attribute bytes (all, h) = bytes_behind (u2 attribute.name ++ u4 (length attribute.content)) attribute.content (subst AllBytes h.0 all)

-- the contents of a method's attributes
pub contents_bytes : (pool : List PoolEntry) (m : MethodInfo) (bytes : List ℕ) → AllBytes bytes → (h : SpellsMethod pool m bytes) → AllByRecursion (λ (attribute : Attribute). AllBytes attribute.content) h.attributes
contents_bytes pool m bytes all h =
    let (items, both, few, each) = h.attributes_spelled in
    let others = bytes_behind (u2 m.flags ++ u2 m.name ++ u2 m.desc) h.others (subst AllBytes h.spelled all) in
    let inside = bytes_behind (u2 (length h.attributes)) items (subst AllBytes both others) in
    each_so (InBytes (SpellsAttribute pool)) (λ (attribute : Attribute). AllBytes attribute.content) (attribute_bytes pool) h.attributes items (each_in_bytes (SpellsAttribute pool) h.attributes items inside each)

pub methods_bytes : (bytes : List ℕ) (c : ClassFile) → AllBytes bytes → (h : IsClass bytes c) → AllBytes h.method_bytes
methods_bytes bytes c all h =
    let front : List ℕ = h.pool_bytes ++ u2 c.flags ++ u2 c.this_class ++ u2 c.super_class ++ h.interface_bytes ++ h.field_bytes in
    let head : List ℕ = u4 0xcafebabe ++ u2 c.minor ++ u2 c.major ++ u2 (length c.pool + 1) in
    let behind = bytes_behind head (front ++ h.method_bytes ++ h.attribute_bytes) (subst AllBytes h.spelled all) in
    bytes_behind front h.method_bytes (bytes_before (front ++ h.method_bytes) h.attribute_bytes behind)
