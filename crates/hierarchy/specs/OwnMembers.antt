-- The members of each class itself in tables, by their names and descriptors (this project's own).
use Rattle.std.specs.Prelude.{◌≡◌, ℕ, Bool, ◌&&◌, List, Option, option_and_then, slice_get}
use Rattle.std.specs.List.{AllZip}
use Rattle.std.specs.Str.{bytes_eq}
use Rattle.indexmap.specs.IndexMap.{IndexMap, get}
use Rattle.jo_prog.specs.declared.program.Program.{Program}
use Rattle.jo_prog.specs.declared.program.Class.{Class}
use Rattle.jo_prog.specs.Program.{first_with}
use Rattle.jo_prog.specs.Hierarchy.{first_field, own_method, own_field}
use Rattle.hierarchy.specs.declared.own_members.Signature.{Signature}
use Rattle.hierarchy.specs.declared.own_members.OwnMembers.{OwnMembers}

abbrev pub same_signature : Signature → Signature → Bool
same_signature a b = bytes_eq a.name.now b.name.now && bytes_eq a.desc.now b.desc.now

-- the number of the member with that name and descriptor
abbrev pub member_by : {S : Type 0} → IndexMap Signature ℕ S → Signature → Option ℕ
member_by table signature = get same_signature table signature

-- the table has the first of these methods with each name and descriptor
abbrev pub AreMethodsOf : {S : Type 0} → Program → List ℕ → IndexMap Signature ℕ S → Type 0
AreMethodsOf program methods table =
    (q : Signature) → member_by table q ≡ first_with program q.name.now q.desc.now methods

abbrev pub AreFieldsOf : {S : Type 0} → Program → List ℕ → IndexMap Signature ℕ S → Type 0
AreFieldsOf program fields table =
    (q : Signature) → member_by table q ≡ first_field program q.name.now q.desc.now fields

pub record AreMembersOf (program : Program) (class : Class) (own : OwnMembers) : Type 0 where
  pub methods : AreMethodsOf program class.methods own.methods
  pub fields : AreFieldsOf program class.fields own.fields

abbrev pub method_in : List OwnMembers → Signature → ℕ → Option ℕ
method_in tables q c = option_and_then (λ (own : OwnMembers). member_by own.methods q) (slice_get tables c)

abbrev pub field_in : List OwnMembers → Signature → ℕ → Option ℕ
field_in tables q c = option_and_then (λ (own : OwnMembers). member_by own.fields q) (slice_get tables c)

-- the tables of the classes have what the classes themselves have
pub record HasTables (program : Program) (tables : List OwnMembers) : Type 0 where
  pub methods : (q : Signature) (c : ℕ) → method_in tables q c ≡ own_method program q.name.now q.desc.now c
  pub fields : (q : Signature) (c : ℕ) → field_in tables q c ≡ own_field program q.name.now q.desc.now c

-- each class has its table
abbrev pub AreTables : Program → List Class → List OwnMembers → Type 0
AreTables program classes tables = AllZip (AreMembersOf program) classes tables
