-- A table of the names of classes, built from the last class to the first.
use Rattle.std.proofs.Common.{◌≡◌, ◌∙◌, ℕ, ◌+◌, ◌-◌, ◌<◌, ◌≤◌, Bool, true, false, cond, List, [], ◌∷◌, length, drop, get_or, Option, Some, None, refl, sym, ap, Vec, Global, arith}
use Rattle.std.specs.Str.{bytes_eq}
use Rattle.std.proofs.lemmas.List.{drop_more, drop_all}
use Rattle.std.proofs.lemmas.Slice.Eq.{bytes_eq-Decides}
use Rattle.indexmap.specs.IndexMap.{insert_entry}
use Rattle.jo_prog.specs.declared.program.Class.{Class}
use Rattle.typing_effects.specs.declared.class_names.ClassNames.{ClassNames}
use Rattle.typing_effects.specs.ClassNames.{number_at, class_by, first_named, AreNamesFrom}

either_way : (a b : Bool) → (a ≡ true → b ≡ true) → (b ≡ true → a ≡ true) → a ≡ b
either_way true true to back = refl
either_way true false to back = let e : false ≡ true = to refl in absurd (cc)
either_way false true to back = let e : false ≡ true = back refl in absurd (cc)
either_way false false to back = refl

turned : (xs ys : List ℕ) → bytes_eq xs ys ≡ bytes_eq ys xs
turned xs ys = either_way (bytes_eq xs ys) (bytes_eq ys xs)
    (λ h. (bytes_eq-Decides ys xs).1 (sym ((bytes_eq-Decides xs ys).0 h)))
    (λ h. (bytes_eq-Decides xs ys).1 (sym ((bytes_eq-Decides ys xs).0 h)))

-- ---- one name more

-- the value of a key that is there is replaced
replaced : (a b : Bool) (n x : ℕ) (more : Option ℕ) → a ≡ b → cond a (Some n) more ≡ cond b (Some n) (cond a (Some x) more)
replaced true true n x more e = refl
replaced true false n x more e = absurd (cc)
replaced false true n x more e = absurd (cc)
replaced false false n x more e = refl

-- two tests of which one fails may change places
passed : (a b : Bool) (n x : ℕ) (more : Option ℕ) → (a ≡ true → b ≡ true → ⊥) → cond a (Some x) (cond b (Some n) more) ≡ cond b (Some n) (cond a (Some x) more)
passed true true n x more apart = absurd (apart refl refl)
passed true false n x more apart = refl
passed false true n x more apart = refl
passed false false n x more apart = refl

abbrev pub inserted : List (Vec ℕ Global × ℕ) → Vec ℕ Global → ℕ → List (Vec ℕ Global × ℕ)
inserted entries key number = insert_entry (λ k other. bytes_eq k.items other.items) entries key number

one_more : (b : Bool) (entry : Vec ℕ Global × ℕ) (more : List (Vec ℕ Global × ℕ)) (key : Vec ℕ Global) (number : ℕ) (text : List ℕ)
    → bytes_eq key.items entry.0.items ≡ b
    → number_at (inserted more key number) text ≡ cond (bytes_eq key.items text) (Some number) (number_at more text)
    → number_at (cond b ((entry.0, number) ∷ more) (entry ∷ inserted more key number)) text
    ≡ cond (bytes_eq key.items text) (Some number) (cond (bytes_eq text entry.0.items) (Some entry.1) (number_at more text))
one_more true entry more key number text same rest =
    let is : key.items ≡ entry.0.items = (bytes_eq-Decides key.items entry.0.items).0 same in
    replaced (bytes_eq text entry.0.items) (bytes_eq key.items text) number entry.1 (number_at more text) (ap (λ (t : List ℕ). bytes_eq text t) (sym is) ∙ turned text key.items)
one_more false entry more key number text same rest =
    ap (λ (r : Option ℕ). cond (bytes_eq text entry.0.items) (Some entry.1) r) rest
    ∙ passed (bytes_eq text entry.0.items) (bytes_eq key.items text) number entry.1 (number_at more text) (λ this that.
    let both : key.items ≡ entry.0.items = (bytes_eq-Decides key.items text).0 that ∙ (bytes_eq-Decides text entry.0.items).0 this in
    let e : bytes_eq key.items entry.0.items ≡ true = (bytes_eq-Decides key.items entry.0.items).1 both in
    absurd (cc))

pub name_put : (entries : List (Vec ℕ Global × ℕ)) (key : Vec ℕ Global) (number : ℕ) (text : List ℕ)
    → number_at (inserted entries key number) text ≡ cond (bytes_eq key.items text) (Some number) (number_at entries text)
name_put [] key number text = ap (λ b. cond b (Some number) None) (turned text key.items)
name_put (entry ∷ more) key number text = one_more (bytes_eq key.items entry.0.items) entry more key number text refl (name_put more key number text)

-- ---- the classes from one on

pub no_names : (classes : List Class) (names : ClassNames) → names.numbers.entries ≡ [] → AreNamesFrom (length classes) (drop (length classes) classes) names
no_names classes names empty = λ text. ap (λ (es : List (Vec ℕ Global × ℕ)). number_at es text) empty
    ∙ sym (ap (λ (cs : List Class). first_named (length classes) cs text) (drop_all (length classes) classes (omega arith)))

pub one_name : (classes : List Class) (left : ℕ) (class : Class) (old new : ClassNames) → 0 < left → left ≤ length classes → class ≡ get_or classes (left - 1) class
    → AreNamesFrom left (drop left classes) old
    → ((text : List ℕ) → class_by new text ≡ cond (bytes_eq class.name text) (Some (left - 1)) (class_by old text))
    → AreNamesFrom (left - 1) (drop (left - 1) classes) new
one_name classes left class old new some within at are put = λ text.
    let e : (left - 1) + 1 ≡ left = omega arith in
    let drops : drop (left - 1) classes ≡ class ∷ drop ((left - 1) + 1) classes = drop_more classes (left - 1) class (omega arith) ∙ ap (λ (x : Class). x ∷ drop ((left - 1) + 1) classes) (sym at) in
    put text ∙ ap (λ (r : Option ℕ). cond (bytes_eq class.name text) (Some (left - 1)) r) (are text ∙ ap (λ n. first_named n (drop n classes) text) (sym e))
    ∙ sym (ap (λ (cs : List Class). first_named (left - 1) cs text) drops)
