-- The one name of an object, and what is made of the object that a number names.
use Rattle.std.specs.Prelude.{◌↔◌}
use Rattle.std.proofs.Common.{◌≡◌, ℕ, Bool, List, [], ◌∷◌, refl, ap, sym, ◌∙◌, subst}
use Rattle.std.proofs.lemmas.Option.{same_Some}
use Rattle.jo_ids.specs.declared.ObjKey.{ObjKey}
use Rattle.jo_ids.specs.declared.SiteList.{SiteList}
use Rattle.dep_nodes.specs.declared.accesses.ObjName.{ObjName}
use Rattle.dep_nodes.specs.declared.accesses.Cell.{Cell}
use Rattle.dep_nodes.specs.declared.accesses.Cell.TheVariants.{Field as FieldCell, Elements as ElementsCell}
use Rattle.dep_nodes.specs.Nodes.{sites_of}
use Rattle.dep_nodes.specs.OneForm.{plain_list, plain_object, plain_cell}
use Rattle.dependence.specs.FlowGraph.{AnObject}
use Rattle.fact_sets.specs.FactLists.{IsObject}
use Rattle.fact_sets.specs.Seen.{object_seen}
use Rattle.heap_deps.specs.declared.instructions.Part.{Part}
use Rattle.heap_deps.specs.declared.instructions.Part.TheVariants.{Field, Elements}
use Rattle.heap_deps.specs.Items.{Item, access}
use Rattle.heap_deps.specs.ObjectCells.{name_of, cell_of, IsPartAccess, OfObject}

plain_twice : (sites : List ℕ) → plain_list (sites_of (plain_list sites)) ≡ plain_list sites
plain_twice [] = refl
plain_twice (a ∷ []) = refl
plain_twice (a ∷ b ∷ more) = refl

abbrev name_with : ℕ → SiteList → ObjName
name_with site sites = record { site = site; sites = sites }

pub plain_name : (o : AnObject) → plain_object (name_of o) ≡ name_of o
plain_name o = ap (name_with o.site) (plain_twice o.context)

pub plain_part : (part : Part) (o : AnObject) → plain_cell (cell_of part (name_of o)) ≡ cell_of part (name_of o)
plain_part (Field f) o = ap (FieldCell f) (plain_name o)
plain_part Elements o = ap ElementsCell (plain_name o)

abbrev at_cell : ℕ → Bool → Cell → Item
at_cell node write cell = access node (record { cell = cell; write = write })

module _ {C : Type 0} (list : C → List ℕ) (objects : List (ℕ × C)) (n : ℕ) (key : ObjKey C) (is : IsObject objects n key) where
  abbrev the_key : ℕ → C → ObjKey C
  the_key site context = record { site = site; context = context }

  same_key : (other : ObjKey C) → IsObject objects n other → key ≡ other
  same_key other at = ap (λ (p : ℕ × C). the_key p.0 p.1) (same_Some (key.site, key.context) (other.site, other.context) (sym is ∙ at))

  -- what is made of the object that the number names
  pub of_object : {X : Type 0} (makes : AnObject → X → Type 0) (g : X) → makes (object_seen list key) g ↔ OfObject list objects makes n g
  of_object {X} makes g = (λ made. (object_seen list key, (key, is, refl), made), back)
    where
      back : OfObject list objects makes n g → makes (object_seen list key) g
      back (o, (other, at, seen), made) = subst (λ k. makes k g) (sym (ap (object_seen list) (same_key other at) ∙ seen)) made

  pub part_told : (node : ℕ) (part : Part) (write : Bool) (name : ObjName) (cell : Cell) → name ≡ name_of (object_seen list key) → cell ≡ cell_of part name
      → (x : Item) → (x ≡ access node (record { cell = plain_cell cell; write = write })) ↔ OfObject list objects (IsPartAccess node part write) n x
  part_told node part write name cell named made x = (λ e. told.0 (e ∙ same), λ of. told.1 of ∙ sym same)
    where
      same : access node (record { cell = plain_cell cell; write = write }) ≡ access node (record { cell = cell_of part (name_of (object_seen list key)); write = write })
      same = ap (λ (c : Cell). at_cell node write (plain_cell c)) (made ∙ ap (cell_of part) named) ∙ ap (at_cell node write) (plain_part part (object_seen list key))

      told : IsPartAccess node part write (object_seen list key) x ↔ OfObject list objects (IsPartAccess node part write) n x
      told = of_object (IsPartAccess node part write) x
