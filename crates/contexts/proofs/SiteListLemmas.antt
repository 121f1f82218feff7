-- A list of at most two sites is read back from its site list.
use Rattle.std.specs.Prelude.{◌≡◌, ℕ, List, [], ◌∷◌, length, ◌≤◌}
use Rattle.std.proofs.Common.{refl, ap, sym, ◌∙◌, arith}
use Rattle.contexts.specs.SiteLists.{sites_in, site_list}

read_back : (sites : List ℕ) → length sites ≤ 2 → sites_in (site_list sites) ≡ sites
read_back [] h = refl
read_back (a ∷ []) h = refl
read_back (a ∷ b ∷ []) h = refl
read_back (a ∷ b ∷ c ∷ more) h = absurd (omega (arith, h))

pub same_sites : (a b : List ℕ) → length a ≤ 2 → length b ≤ 2 → site_list a ≡ site_list b → a ≡ b
same_sites a b short also e = sym (read_back a short) ∙ ap sites_in e ∙ read_back b also
