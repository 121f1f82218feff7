-- `names_on` tells the names of classes from all else.
use Rattle.std.proofs.Common.{◌≡◌, ℕ, ◌<◌, Bool, true, false, cond, ◌&&◌, ◌||◌, ◌==◌, List, [], ◌∷◌, ◌++◌, length, refl, sym, ap, ◌∙◌, arith}
use Rattle.std.specs.Prelude.{codes, IsTrue, ◌↔◌}
use Rattle.std.specs.List.{list_any, AllByRecursion}
use Rattle.std.proofs.lemmas.Bool.{eqb-true}
use Rattle.std.proofs.lemmas.Bool.Decides.{nat_tests}
use Rattle.std.proofs.lemmas.List.{append-nil}
use Rattle.jo_text.specs.Descriptors.{is_one_of, IsUnqualified, joined_by_slash, IsClassName}
use Rattle.jo_text.specs.Scan.{breaks_name, names_on}

-- a byte of an unqualified name is no `/`, and none of the other three
record IsNameByte (b : ℕ) : Type 0 where
  no_slash : (b == 47) ≡ false
  no_other : is_one_of (codes ".;[") b ≡ false

name_byte : (b : ℕ) → is_one_of (codes ".;[/") b ≡ false → IsNameByte b
name_byte b h = record { no_slash = grind (arith, nat_tests); no_other = grind (arith, nat_tests) }

pub any_false : (x y : Bool) → (x || y) ≡ false → (x ≡ false) × (y ≡ false)
any_false true y e = absurd cc
any_false false y e = (refl, e)

module _ (e : Bool) (b : ℕ) (bs : List ℕ) where
  at_name_byte : IsNameByte b → names_on e (b ∷ bs) ≡ names_on false bs
  unfolding names_on
  at_name_byte h = rw (h.no_slash, h.no_other) refl

-- an unqualified name, or what is left of one, goes by
through_name : (s more : List ℕ) → list_any (is_one_of (codes ".;[/")) s ≡ false → names_on false (s ++ more) ≡ names_on false more
through_name [] more h = refl
through_name (b ∷ s) more h =
    let p = any_false (is_one_of (codes ".;[/") b) (list_any (is_one_of (codes ".;[/")) s) h in
    at_name_byte false b (s ++ more) (name_byte b p.0) ∙ through_name s more p.1

through_whole : (e : Bool) (s more : List ℕ) → IsUnqualified s → names_on e (s ++ more) ≡ names_on false more
through_whole e [] more h = absurd (omega (arith, h.0))
through_whole e (b ∷ s) more h =
    let p = any_false (is_one_of (codes ".;[/") b) (list_any (is_one_of (codes ".;[/")) s) h.1 in
    at_name_byte e b (s ++ more) (name_byte b p.0) ∙ through_name s more p.1

joined_again : (first : List ℕ) (rest : List (List ℕ)) → IsUnqualified first → AllByRecursion IsUnqualified rest → names_on true (joined_by_slash first rest) ≡ true
unfolding names_on
joined_again first [] h all = ap (names_on true) (sym (append-nil first)) ∙ through_whole true first [] h
joined_again first (next ∷ rest) h all = through_whole true first (47 ∷ joined_by_slash next rest) h ∙ joined_again next rest all.0 all.1

pub class_name_again : (name : List ℕ) → IsClassName name → names_on true name ≡ true
class_name_again name h = ap (names_on true) h.2 ∙ joined_again h.0 h.1 h.3 h.4

-- what is left of a class's name, from the middle of an unqualified name on
record Joined (empty : Bool) (bs : List ℕ) : Type 0 where
  first : List ℕ
  rest : List (List ℕ)
  parts : bs ≡ joined_by_slash first rest
  plain : list_any (is_one_of (codes ".;[/")) first ≡ false
  whole : empty ≡ true → 0 < length first
  others : AllByRecursion IsUnqualified rest

joined-cons : (b : ℕ) (first : List ℕ) (rest : List (List ℕ)) → b ∷ joined_by_slash first rest ≡ joined_by_slash (b ∷ first) rest
joined-cons b first [] = refl
joined-cons b first (next ∷ rest) = refl

plain_byte : (b : ℕ) → (b == 47) ≡ false → is_one_of (codes ".;[") b ≡ false → is_one_of (codes ".;[/") b ≡ false
plain_byte b h k = grind (arith, nat_tests)

both_false : (x y : Bool) → x ≡ false → y ≡ false → (x || y) ≡ false
both_false x y p q = rw (p, q) refl

pub guard_true : (stop : Bool) (x : Bool) → cond stop false x ≡ true → (stop ≡ false) × (x ≡ true)
guard_true true x e = absurd cc
guard_true false x e = (refl, e)

joined_from_byte : (empty : Bool) (b : ℕ) (bs : List ℕ) (slash : Bool) → (b == 47) ≡ slash → breaks_name empty b ≡ false → Joined slash bs → Joined empty (b ∷ bs)
joined_from_byte empty b bs true is_slash h j = record {
  first = [];
  rest = j.first ∷ j.rest;
  parts = rw (eqb-true b 47 is_slash) (ap (λ (x : List ℕ). 47 ∷ x) j.parts);
  plain = refl;
  whole = λ e. absurd cc;
  others = ((j.whole refl, j.plain), j.others);
}
joined_from_byte empty b bs false is_slash h j = record {
  first = b ∷ j.first;
  rest = j.rest;
  parts = ap (λ (x : List ℕ). b ∷ x) j.parts ∙ joined-cons b j.first j.rest;
  plain = both_false _ _ (plain_byte b is_slash (any_false (b == 47 && empty) (is_one_of (codes ".;[") b) h).1) j.plain;
  whole = λ e. omega arith;
  others = j.others;
}

joined_from : (empty : Bool) (bs : List ℕ) → names_on empty bs ≡ true → Joined empty bs
unfolding names_on
joined_from empty [] h = record { first = []; rest = []; parts = refl; plain = refl; whole = λ e. absurd cc; others = tt }
joined_from empty (b ∷ bs) h =
    let g = guard_true (breaks_name empty b) (names_on (b == 47) bs) h in
    joined_from_byte empty b bs (b == 47) refl g.0 (joined_from (b == 47) bs g.1)

pub class_name_from : (bs : List ℕ) → names_on true bs ≡ true → IsClassName bs
class_name_from bs h = let j = joined_from true bs h in (j.first, j.rest, j.parts, (j.whole refl, j.plain), j.others)

pub class_name_tested : (bs : List ℕ) (result : Bool) → result ≡ names_on true bs → IsTrue result ↔ IsClassName bs
class_name_tested bs result e = (λ h. class_name_from bs (sym e ∙ h), λ c. e ∙ class_name_again bs c)
