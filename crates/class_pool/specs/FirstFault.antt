-- The first fault of a class file, item by item (JVM Specification SE 8, 4.1; the order, the codes and the places are this
-- project's own): each item before it passes its checks, and what is at its place fails the check that has its code, or isn't
-- all there.
use Rattle.std.specs.Prelude.{◌≡◌, ℕ, ◌≤◌, List, [], length}
use Rattle.class_pool.specs.declared.entries.PoolEntry.{PoolEntry}
use Rattle.class_pool.specs.declared.faults.ClassCode.TheVariants.{Magic, Version, Trailing}
use Rattle.class_pool.specs.declared.faults.ClassFault.{ClassFault}
use Rattle.class_pool.specs.Items.{place_of}
use Rattle.class_pool.specs.ClassGrammar.{SpellsClassIndex, SpellsField, SpellsMethod}
use Rattle.class_pool.specs.FirstFaultItems.{Never, Check, Item, Number, Counted}
use Rattle.class_pool.specs.FirstFaultPool.{PoolStops, SpellsPool}
use Rattle.class_pool.specs.FirstFaultParts.{ClassIndexStops, Attributes, FieldStops, MethodStops}

-- behind the pool
abbrev pub RestStops : ℕ → List PoolEntry → List ℕ → ClassFault → Type 0
RestStops size pool rest f =
    Number size 2 rest (λ flags at_this.
    Item (SpellsClassIndex pool) (ClassIndexStops size pool) at_this (λ this_class at_super.
    Item (SpellsClassIndex pool) (ClassIndexStops size pool) at_super (λ super_class at_interfaces.
    Counted size (SpellsClassIndex pool) (ClassIndexStops size pool) at_interfaces (λ interfaces at_fields.
    Counted size (SpellsField pool) (FieldStops size pool) at_fields (λ fields at_methods.
    Counted size (SpellsMethod pool) (MethodStops size pool) at_methods (λ methods at_attributes.
    Attributes size pool at_attributes (λ end.
    Check (end ≡ []) Trailing (place_of size end) Never))))))) f

abbrev pub FileStops : ℕ → List ℕ → ClassFault → Type 0
FileStops size file f =
    Number size 4 file (λ magic at_minor.
    Check (magic ≡ 0xcafebabe) Magic 0
    (Number size 2 at_minor (λ minor at_major.
    Number size 2 at_major (λ major at_pool.
    Check ((45 ≤ major) × (major ≤ 52)) Version (place_of size at_major)
    (Item SpellsPool (PoolStops size) at_pool (λ pool behind_pool.
    RestStops size pool behind_pool)))))) f

abbrev pub FirstFault : List ℕ → ClassFault → Type 0
FirstFault file f = FileStops (length file) file f
