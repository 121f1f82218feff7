-- The one form of a cell, which all its names have in common (this project's own).
use Rattle.std.specs.Prelude.{ℕ, List, [], ◌∷◌}
use Rattle.jo_ids.specs.declared.SiteList.{SiteList}
use Rattle.dep_nodes.specs.declared.accesses.ObjName.{ObjName}
use Rattle.dep_nodes.specs.declared.accesses.Cell.{Cell}
use Rattle.dep_nodes.specs.declared.accesses.Cell.TheVariants.{Field, Elements, Static, Cursor, Started}
use Rattle.dep_nodes.specs.Nodes.{sites_of}

-- a list of at most two sites, with 0 in the places that it doesn't use
abbrev pub plain_list : List ℕ → SiteList
plain_list [] = record { len = 0; first = 0; second = 0 }
plain_list (first ∷ []) = record { len = 1; first = first; second = 0 }
plain_list (first ∷ second ∷ _) = record { len = 2; first = first; second = second }

abbrev pub plain_sites : SiteList → SiteList
plain_sites sites = plain_list (sites_of sites)

abbrev pub plain_object : ObjName → ObjName
plain_object object = record { site = object.site; sites = plain_sites object.sites }

abbrev pub plain_cell : Cell → Cell
plain_cell (Field field object) = Field field (plain_object object)
plain_cell (Elements object) = Elements (plain_object object)
plain_cell (Static field) = Static field
plain_cell (Cursor method) = Cursor method
plain_cell (Started object) = Started (plain_object object)
