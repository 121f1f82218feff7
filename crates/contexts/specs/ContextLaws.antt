-- The laws of the policies' contexts.
use Rattle.std.specs.Prelude.{◌≡◌, ℕ, ◌==◌, ◌≤◌, true, List, [], ◌∷◌, ◌&&◌, length, take, Option, Some, None}
use Rattle.std.specs.Bool.{Decides}
use Rattle.std.proofs.Common.{refl, ap, arith}
use Rattle.std.proofs.lemmas.Bool.Decides.{Decides-and, Decides-eqb, Decides-like}
use Rattle.contexts.specs.declared.sites.ContextSite.{ContextSite}
use Rattle.contexts.specs.declared.sites.UpToTwo.{UpToTwo}
use Rattle.contexts.specs.declared.sites.UpToTwo.TheVariants.{NoSite, OneSite, TwoSites}
use Rattle.contexts.specs.contracts.sites.ContextSitePartialEq.TheImpl.{ghosts as of_site}
use Rattle.contexts.specs.contracts.sites.UpToTwoPartialEq.TheImpl.{ghosts as of_two}
use Rattle.std.specs.Option.{option_eq}
use Rattle.contexts.specs.Policies.{KeepsTwo, insensitive, one_object_sensitive, two_object_sensitive}
use Rattle.contexts.specs.SiteLists.{no_site, at_most_one, at_most_two}

abbrev site_at : ℕ → ContextSite
site_at n = record { number = n }

abbrev first_of : List ℕ → ℕ
first_of [] = 0
first_of (x ∷ xs) = x

none_is_short : 0 ≤ 2
none_is_short = omega arith

one_is_short : 1 ≤ 2
one_is_short = omega arith

two_are_short : 2 ≤ 2
two_are_short = omega arith

pub none_short : (context : Unit {0}) → length (no_site context) ≤ 2
none_short context = none_is_short

pub none_same : (a b : Unit {0}) → no_site a ≡ no_site b → a ≡ b
none_same a b e = refl

pub none_decided : (a b : Unit {0}) → Decides true (a ≡ b)
none_decided a b = (λ e. refl, λ e. refl)

pub one_short : (context : Option ContextSite) → length (at_most_one context) ≤ 2
one_short None = none_is_short
one_short (Some a) = one_is_short

pub two_short : (context : UpToTwo) → length (at_most_two context) ≤ 2
two_short NoSite = none_is_short
two_short (OneSite a) = one_is_short
two_short (TwoSites a b) = two_are_short

same_site : (a b : ContextSite) → a.number ≡ b.number → a ≡ b
same_site a b e = ap (λ (n : ℕ). site_at n) e

pub one_same : (a b : Option ContextSite) → at_most_one a ≡ at_most_one b → a ≡ b
one_same None None e = refl
one_same None (Some b) e = absurd (cc)
one_same (Some a) None e = absurd (cc)
one_same (Some a) (Some b) e = ap Some (same_site a b (ap first_of e))

same_two : (a b c d : ContextSite) → a.number ≡ c.number → b.number ≡ d.number → TwoSites a b ≡ TwoSites c d
same_two a b c d e f = let left = same_site a c e in let right = same_site b d f in cc

pub two_same : (a b : UpToTwo) → at_most_two a ≡ at_most_two b → a ≡ b
two_same NoSite NoSite e = refl
two_same NoSite (OneSite c) e = absurd (cc)
two_same NoSite (TwoSites c d) e = absurd (cc)
two_same (OneSite a) NoSite e = absurd (cc)
two_same (OneSite a) (OneSite c) e = ap OneSite (same_site a c (ap first_of e))
two_same (OneSite a) (TwoSites c d) e = absurd (cc)
two_same (TwoSites a b) NoSite e = absurd (cc)
two_same (TwoSites a b) (OneSite c) e = absurd (cc)
two_same (TwoSites a b) (TwoSites c d) e = same_two a b c d (cc) (cc)

site_decided : (a b : ContextSite) → Decides (a.number == b.number) (a ≡ b)
site_decided a b =
    Decides-like (a.number == b.number) (same_site a b) (λ (e : a ≡ b). ap (λ (c : ContextSite). c.number) e)
    (Decides-eqb a.number b.number)

pub one_decided : (a b : Option ContextSite) → Decides (option_eq of_site.eq a b) (a ≡ b)
one_decided None None = (λ e. refl, λ e. refl)
one_decided None (Some b) = (λ e. absurd (cc), λ e. absurd (cc))
one_decided (Some a) None = (λ e. absurd (cc), λ e. absurd (cc))
one_decided (Some a) (Some b) =
    Decides-like (a.number == b.number) (λ (e : a ≡ b). ap Some e) (λ (e : Some a ≡ Some b). cc)
    (site_decided a b)

pub two_decided : (a b : UpToTwo) → Decides (of_two.eq a b) (a ≡ b)
two_decided NoSite NoSite = (λ e. refl, λ e. refl)
two_decided NoSite (OneSite c) = (λ e. absurd (cc), λ e. absurd (cc))
two_decided NoSite (TwoSites c d) = (λ e. absurd (cc), λ e. absurd (cc))
two_decided (OneSite a) NoSite = (λ e. absurd (cc), λ e. absurd (cc))
two_decided (OneSite a) (OneSite c) =
    Decides-like (a.number == c.number) (λ (e : a ≡ c). ap OneSite e) (λ (e : OneSite a ≡ OneSite c). cc)
    (site_decided a c)
two_decided (OneSite a) (TwoSites c d) = (λ e. absurd (cc), λ e. absurd (cc))
two_decided (TwoSites a b) NoSite = (λ e. absurd (cc), λ e. absurd (cc))
two_decided (TwoSites a b) (OneSite c) = (λ e. absurd (cc), λ e. absurd (cc))
two_decided (TwoSites a b) (TwoSites c d) =
    Decides-like (a.number == c.number && b.number == d.number)
    (λ (e : (a ≡ c) × (b ≡ d)). let left = e.0 in let right = e.1 in cc)
    (λ (e : TwoSites a b ≡ TwoSites c d). (cc, cc))
    (Decides-and (a.number == c.number) (b.number == d.number) (site_decided a c) (site_decided b d))

pub insensitive_keeps : KeepsTwo insensitive
insensitive_keeps =
    record {
      call = λ caller site h. none_is_short;
      call_on = λ caller context site made_at h k. none_is_short;
      heap = λ context site h. none_is_short;
    }

pub one_keeps : KeepsTwo one_object_sensitive
one_keeps =
    record {
      call = λ caller site h. h;
      call_on = λ caller context site made_at h k. one_is_short;
      heap = λ context site h. none_is_short;
    }

first_is_short : (sites : List ℕ) → length (take 1 sites) ≤ 2
first_is_short [] = none_is_short
first_is_short (x ∷ xs) = one_is_short

after_first : (made_at : ℕ) (sites : List ℕ) → length (made_at ∷ take 1 sites) ≤ 2
after_first made_at [] = one_is_short
after_first made_at (x ∷ xs) = two_are_short

pub two_keep : KeepsTwo two_object_sensitive
two_keep =
    record {
      call = λ caller site h. h;
      call_on = λ caller context site made_at h k. after_first made_at context;
      heap = λ context site h. first_is_short context;
    }
