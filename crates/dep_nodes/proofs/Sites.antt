-- The test of two calls decides whether they are one.
use Rattle.std.proofs.Common.{◌≡◌, ℕ, true, ◌==◌, ◌&&◌, List, ◌∙◌, ap, refl}
use Rattle.std.specs.Str.{bytes_eq}
use Rattle.std.proofs.lemmas.Bool.Decides.{Decides-eqb, Decides-and}
use Rattle.std.proofs.lemmas.Slice.Eq.{bytes_eq-Decides}
use Rattle.dep_nodes.specs.Nodes.{CallSite}
use Rattle.dep_nodes.specs.Chains.{same_site}

abbrev site_with : ℕ → List ℕ → ℕ → CallSite
site_with method context pc = record { caller = record { method = method; context = context }; pc = pc }

same_parts : (m n : ℕ) (cs ds : List ℕ) (p q : ℕ) → m ≡ n → cs ≡ ds → p ≡ q → site_with m cs p ≡ site_with n ds q
same_parts m n cs ds p q e f g = ap (λ x. site_with x cs p) e ∙ ap (λ x. site_with n x p) f ∙ ap (λ x. site_with n ds x) g

pub sites_equal : (a b : CallSite) → same_site a b ≡ true → a ≡ b
sites_equal a b same =
    let parts = (Decides-and (a.caller.method == b.caller.method) (bytes_eq a.caller.context b.caller.context && (a.pc == b.pc)) (Decides-eqb a.caller.method b.caller.method)
    (Decides-and (bytes_eq a.caller.context b.caller.context) (a.pc == b.pc) (bytes_eq-Decides a.caller.context b.caller.context) (Decides-eqb a.pc b.pc))).0 same in
    same_parts a.caller.method b.caller.method a.caller.context b.caller.context a.pc b.pc parts.0 parts.1.0 parts.1.1

pub site_itself : (a : CallSite) → same_site a a ≡ true
site_itself a =
    (Decides-and (a.caller.method == a.caller.method) (bytes_eq a.caller.context a.caller.context && (a.pc == a.pc)) (Decides-eqb a.caller.method a.caller.method)
    (Decides-and (bytes_eq a.caller.context a.caller.context) (a.pc == a.pc) (bytes_eq-Decides a.caller.context a.caller.context) (Decides-eqb a.pc a.pc))).1 (refl, (refl, refl))
