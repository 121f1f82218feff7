-- Accessors of one cell on the two sides of a fork, one of them writing (this project's own).
use Rattle.std.specs.Prelude.{◌≡◌, ◌⊎◌, Bool, true, List, Option, Some, None, Contains}
use Rattle.jo_ids.specs.Rows.{has_number}
use Rattle.dep_nodes.specs.declared.access_table.Accessor.{Accessor}
use Rattle.thread_regions.specs.declared.tables.ForkRegions.{ForkRegions}
use Rattle.conflicts.specs.declared.clashes.Wanted.{Wanted}
use Rattle.conflicts.specs.declared.clashes.Wanted.TheVariants.{Any, Write}

-- whether an access is wanted, by whether it writes
abbrev pub counts : Wanted → Bool → Bool
counts Any writes = true
counts Write writes = writes

-- the accessor leads on, may run on the side, and is wanted
pub record IsOn (side leads : List Bool) (wanted : Wanted) (x : Accessor) : Type 0 where
  pub leads_on : has_number leads x.node ≡ true
  pub on_side : has_number side x.node ≡ true
  pub is_wanted : counts wanted x.write ≡ true

-- such an accessor, or there is none
abbrev pub IsAccessorOn : List Bool → List Bool → Wanted → List Accessor → Option Accessor → Type 0
IsAccessorOn side leads wanted accessors None =
    (x : Accessor) → Contains accessors x → IsOn side leads wanted x → ⊥
IsAccessorOn side leads wanted accessors (Some x) = Contains accessors x × IsOn side leads wanted x

-- the one accessor may run in what the fork starts, the other behind the fork
pub record AreOnBoth (r : ForkRegions) (leads : List Bool) (inside after : Wanted) (accessors : List Accessor)
    (a b : Accessor) : Type 0 where
  pub has_first : Contains accessors a
  pub has_second : Contains accessors b
  pub is_inside : IsOn r.child leads inside a
  pub is_after : IsOn r.after leads after b

-- two such accessors, or there are none
abbrev pub IsOnBoth : ForkRegions → List Bool → Wanted → Wanted → List Accessor
    → Option (Accessor × Accessor) → Type 0
IsOnBoth r leads inside after accessors None =
    (a b : Accessor) → AreOnBoth r leads inside after accessors a b → ⊥
IsOnBoth r leads inside after accessors (Some both) = AreOnBoth r leads inside after accessors both.0 both.1

-- two accessors on the two sides of the fork, one of them writing
pub record AreClashing (r : ForkRegions) (leads : List Bool) (accessors : List Accessor)
    (a b : Accessor) : Type 0 where
  pub on_both : AreOnBoth r leads Any Any accessors a b
  pub writes : (a.write ≡ true) ⊎ (b.write ≡ true)

-- two such accessors, or there are none
abbrev pub IsClash : ForkRegions → List Bool → List Accessor → Option (Accessor × Accessor) → Type 0
IsClash r leads accessors None = (a b : Accessor) → AreClashing r leads accessors a b → ⊥
IsClash r leads accessors (Some both) = AreClashing r leads accessors both.0 both.1
