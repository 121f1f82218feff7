-- The entries of the pool that the lines of a text need (JVM Specification SE 8, 4.4). They are made at first need (this
-- project's own): first the parts of an entry, in the order of its fields, then the entry, unless an equal one is there.
use Rattle.std.specs.Prelude.{ℕ, ◌+◌, ◌^◌, Bool, nat_lt, ◌==◌, if◌then◌else◌, List, [], ◌∷◌, ◌++◌, length, position, Option, Some, None, codes}
use Rattle.std.specs.Str.{bytes_eq}
use Rattle.class_pool.specs.declared.entries.PoolEntry.{PoolEntry}
use Rattle.class_pool.specs.declared.entries.PoolEntry.TheVariants.{Utf8, Integer, Class, Text, FieldRef, MethodRef, InterfaceMethodRef, NameAndType}
use Rattle.class_pool.specs.Writing.{spelled_entry}
use Rattle.asm_text.specs.declared.statements.Number.{Number}
use Rattle.asm_text.specs.declared.statements.Number.TheVariants.{Of, TooLarge}
use Rattle.asm_text.specs.declared.statements.Constant as constants
use Rattle.asm_text.specs.declared.statements.Constant.TheVariants as constant
use Rattle.asm_text.specs.declared.statements.Member.{Member}
use Rattle.asm_text.specs.Words.{◌>>=◌}

-- entries are equal where a class file spells them alike
abbrev pub is_same : PoolEntry → PoolEntry → Bool
is_same entry other = bytes_eq (spelled_entry entry) (spelled_entry other)

-- the pool once the entry is in it, and its index; none where the entry would get a number past 65,534
abbrev pub Needed : Type 0
Needed = Option (List PoolEntry × ℕ)

abbrev pub need_at : Option ℕ → PoolEntry → List PoolEntry → Needed
need_at (Some place) entry pool = Some (pool, place + 1)
need_at None entry pool = if nat_lt (length pool) 65534 then Some (pool ++ entry ∷ [], length pool + 1) else None

unfoldable pub need : PoolEntry → List PoolEntry → Needed
need entry pool = need_at (position (is_same entry) pool) entry pool

-- a text has at most 65,535 bytes
unfoldable pub need_text : List ℕ → List PoolEntry → Needed
need_text text pool = if nat_lt (length text) (2 ^ 16) then need (Utf8 text) pool else None

unfoldable pub need_class : List ℕ → List PoolEntry → Needed
need_class name pool = do
  text ← need_text name pool
  need (Class text.1) text.0

abbrev pub need_number : Number → List PoolEntry → Needed
need_number (Of n) pool = need (Integer n) pool
need_number TooLarge pool = None

abbrev pub need_string : List ℕ → List PoolEntry → Needed
need_string string pool = do
  text ← need_text string pool
  need (Text text.1) text.0

unfoldable pub need_constant : constants.Constant → List PoolEntry → Needed
need_constant (constant.Int number) pool = need_number number pool
need_constant (constant.Text string) pool = need_string string pool

-- getstatic to putfield name a field, invokeinterface an interface's method, other calls a class's
abbrev pub reference_by : ℕ → ℕ → ℕ → PoolEntry
reference_by op class type = if nat_lt op 182 then FieldRef class type else if op == 185 then InterfaceMethodRef class type else MethodRef class type

-- a member by its class, and by its name and descriptor
unfoldable pub need_member : (ℕ → ℕ → PoolEntry) → Member → List PoolEntry → Needed
need_member made member pool = do
  class ← need_class member.class pool
  name ← need_text member.name class.0
  desc ← need_text member.desc name.0
  type ← need (NameAndType name.1 desc.1) desc.0
  need (made class.1 type.1) type.0

-- the name and the descriptor of a field or a method
abbrev pub need_head : List ℕ → List ℕ → List PoolEntry → Option (List PoolEntry × ℕ × ℕ)
need_head name desc pool = do
  name ← need_text name pool
  desc ← need_text desc name.0
  Some (desc.0, name.1, desc.1)

-- the constant of a field, behind the name of its attribute
abbrev pub need_value : Option constants.Constant → List PoolEntry → Option (List PoolEntry × Option ℕ)
need_value None pool = Some (pool, None)
need_value (Some value) pool = do
  name ← need_text (codes "ConstantValue") pool
  index ← need_constant value name.0
  Some (index.0, Some index.1)

-- the class that a row catches; 0 catches all
abbrev pub need_caught : Option (List ℕ) → List PoolEntry → Needed
need_caught None pool = Some (pool, 0)
need_caught (Some name) pool = need_class name pool
