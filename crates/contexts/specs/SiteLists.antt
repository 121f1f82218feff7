-- Contexts as lists of sites (this project's own).
use Rattle.std.specs.Prelude.{ℕ, zero, suc, List, [], ◌∷◌, Option, Some, None}
use Rattle.jo_ids.specs.declared.SiteList.{SiteList}
use Rattle.contexts.specs.declared.sites.ContextSite.{ContextSite}
use Rattle.contexts.specs.declared.sites.UpToTwo.{UpToTwo}
use Rattle.contexts.specs.declared.sites.UpToTwo.TheVariants.{NoSite, OneSite, TwoSites}

-- the sites of a context, in order
abbrev pub sites_in : SiteList → List ℕ
sites_in sites = sites_up_to sites.len
  where
    sites_up_to : ℕ → List ℕ
    sites_up_to zero = []
    sites_up_to (suc zero) = sites.first ∷ []
    sites_up_to (suc (suc n)) = sites.first ∷ sites.second ∷ []

-- the first two sites, with 0 in the places that are not used
abbrev pub site_list : List ℕ → SiteList
site_list [] = record { len = 0; first = 0; second = 0 }
site_list (a ∷ []) = record { len = 1; first = a; second = 0 }
site_list (a ∷ b ∷ more) = record { len = 2; first = a; second = b }

abbrev pub no_site : Unit {0} → List ℕ
no_site context = []

abbrev pub at_most_one : Option ContextSite → List ℕ
at_most_one None = []
at_most_one (Some a) = a.number ∷ []

abbrev pub at_most_two : UpToTwo → List ℕ
at_most_two NoSite = []
at_most_two (OneSite a) = a.number ∷ []
at_most_two (TwoSites a b) = a.number ∷ b.number ∷ []
