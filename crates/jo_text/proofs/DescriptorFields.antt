-- Two laws a step: what `Scan` reads at the front of some bytes is spelled there (`_taken`), and what is spelled there is
-- read (`_again`).
use Rattle.std.proofs.Common.{◌≡◌, ℕ, zero, suc, ◌+◌, ◌<◌, ◌≤◌, Bool, true, false, cond, not, ◌==◌, List, [], ◌∷◌, ◌++◌, length, take, drop, refl, sym, ap, subst, ◌∙◌, append_assoc, inl, inr, ⊎_elim, arith}
use Rattle.std.specs.Prelude.{Option, Some, None, IfSome, MatchOption, is_some, IsTrue, ◌↔◌, option_map, option_and_then, position, nat_lt, codes, replicate}
use Rattle.std.specs.List.{prefix_len, position_or_len}
use Rattle.std.proofs.lemmas.Bool.{eqb-true}
use Rattle.std.proofs.lemmas.Bool.Decides.{nat_tests}
use Rattle.std.proofs.lemmas.List.{take_at, drop_at, length-append, length_push, length-replicate, append-nil, nil_from_length}
use Rattle.std.proofs.lemmas.List.Sums.{split_at_first, passes_at_first}
use Rattle.std.proofs.lemmas.Option.{cond_some, same_Some}
use Rattle.std.proofs.Math.Numerals.{one-add}
use Rattle.jo_text.specs.declared.descriptors.Base.{Base}
use Rattle.jo_text.specs.declared.descriptors.Base.TheVariants.{Byte, Char, Double, Float, Int, Long, Short, Boolean, Class}
use Rattle.jo_text.specs.declared.descriptors.FieldDesc.{FieldDesc}
use Rattle.jo_text.specs.Descriptors.{is_one_of, IsUnqualified, joined_by_slash, IsClassName, IsClassOrArray, base_text, field_text, HasName, IsType, SpellsField, IsFieldDesc}
use Rattle.jo_text.specs.Scan.{after_byte, breaks_name, names_on, read_class, letter_base, read_base, read_field}
use Rattle.jo_text.proofs.DescriptorNames.{any_false, guard_true, class_name_again, class_name_from}

-- ---- a fact of what is read, if anything is

module _ {A : Type 0} (P : A → Type 0) where
  if_cond : (test : Bool) (x y : Option A) → (test ≡ true → IfSome x P) → (test ≡ false → IfSome y P) → IfSome (cond test x y) P
  if_cond true x y p q = p refl
  if_cond false x y p q = q refl

  if_map : {X : Type 0} (f : X → A) (o : Option X) (Q : X → Type 0) → IfSome o Q → ((x : X) → Q x → P (f x)) → IfSome (option_map f o) P
  if_map f None Q h p = tt
  if_map f (Some x) Q h p = p x h

  if_then : {X : Type 0} (f : X → Option A) (o : Option X) → ((x : X) → o ≡ Some x → IfSome (f x) P) → IfSome (option_and_then f o) P
  if_then f None p = tt
  if_then f (Some x) p = p x refl

-- ---- a class's name and `;`

append_push : (xs : List ℕ) (y : ℕ) (ys : List ℕ) → xs ++ y ∷ ys ≡ (xs ++ y ∷ []) ++ ys
append_push xs y ys = sym (append_assoc xs (y ∷ []) ys)

-- a class's name has no `;`
no_end_within : (empty : Bool) (name rest : List ℕ) → names_on empty name ≡ true → prefix_len (λ b. not (b == 59)) (name ++ 59 ∷ rest) ≡ length name
unfolding names_on
no_end_within empty [] rest h = refl
no_end_within empty (b ∷ name) rest h =
    let g = guard_true (breaks_name empty b) (names_on (b == 47) name) h in
    let other : (b == 59) ≡ false = grind (arith, nat_tests, g.0) in
    let more = no_end_within (b == 47) name rest g.1 in
    rw (other, more) (one-add (length name))

class_again : (name rest : List ℕ) → IsClassName name → read_class (name ++ 59 ∷ rest) ≡ Some (name, rest)
unfolding read_class
class_again name rest h =
    let tested = class_name_again name h in
    let at = no_end_within true name rest tested in
    let within : nat_lt (length name) (length (name ++ 59 ∷ rest)) ≡ true = grind (arith, nat_tests, length-append name (59 ∷ rest)) in
    let behind : drop (length name + 1) (name ++ 59 ∷ rest) ≡ rest = ap (drop (length name + 1)) (append_push name 59 rest) ∙ drop_at (name ++ 59 ∷ []) rest (length name + 1) (length_push name 59) in
    rw (at, within, take_at name (59 ∷ rest) (length name) refl, tested, behind) refl

abbrev BeginsClass : List ℕ → List ℕ × List ℕ → Type 0
BeginsClass bs r = (bs ≡ r.0 ++ 59 ∷ r.1) × IsClassName r.0

class_taken : (bs : List ℕ) → IfSome (read_class bs) (BeginsClass bs)
unfolding read_class
class_taken bs =
    if_then (BeginsClass bs) _ (position (λ b. b == 59) bs) (λ end at.
    let found = cond_some (nat_lt (position_or_len (λ b. b == 59) bs) (length bs)) (position_or_len (λ b. b == 59) bs) end at in
    let within : position_or_len (λ b. b == 59) bs < length bs = grind (arith, nat_tests, found.0) in
    let last = eqb-true _ _ (passes_at_first (λ b. b == 59) bs 0 within) in
    if_cond (BeginsClass bs) (names_on true (take end bs)) _ None (λ is. (split_at_first (λ b. b == 59) bs 0 within ∙ rw (last, found.1) refl, class_name_from (take end bs) is)) (λ _. tt))

-- ---- a base type

abbrev IsLetter : ℕ → Base → Type 0
IsLetter b base = (b ∷ [] ≡ base_text base) × HasName base

letter_taken : (b : ℕ) → IfSome (letter_base b) (IsLetter b)
unfolding letter_base
letter_taken b =
    let is : (code : ℕ) → (b == code) ≡ true → b ∷ [] ≡ code ∷ [] = λ code e. ap (λ (x : ℕ). x ∷ []) (eqb-true b code e) in
    if_cond (IsLetter b) (b == 66) _ _ (λ e. (is 66 e, tt)) (λ _.
    if_cond (IsLetter b) (b == 67) _ _ (λ e. (is 67 e, tt)) (λ _.
    if_cond (IsLetter b) (b == 68) _ _ (λ e. (is 68 e, tt)) (λ _.
    if_cond (IsLetter b) (b == 70) _ _ (λ e. (is 70 e, tt)) (λ _.
    if_cond (IsLetter b) (b == 73) _ _ (λ e. (is 73 e, tt)) (λ _.
    if_cond (IsLetter b) (b == 74) _ _ (λ e. (is 74 e, tt)) (λ _.
    if_cond (IsLetter b) (b == 83) _ _ (λ e. (is 83 e, tt)) (λ _.
    if_cond (IsLetter b) (b == 90) _ _ (λ e. (is 90 e, tt)) (λ _. tt))))))))

base_again : (base : Base) (rest : List ℕ) → HasName base → read_base (base_text base ++ rest) ≡ Some (base, rest)
unfolding read_base letter_base
base_again Byte rest h = refl
base_again Char rest h = refl
base_again Double rest h = refl
base_again Float rest h = refl
base_again Int rest h = refl
base_again Long rest h = refl
base_again Short rest h = refl
base_again Boolean rest h = refl
base_again (Class name) rest h = rw (append_assoc name (59 ∷ []) rest, class_again name rest h) refl

abbrev BeginsBase : List ℕ → Base × List ℕ → Type 0
BeginsBase bs r = (bs ≡ base_text r.0 ++ r.1) × HasName r.0

base_taken : (bs : List ℕ) → IfSome (read_base bs) (BeginsBase bs)
unfolding read_base
base_taken [] = tt
base_taken (b ∷ bs) =
    if_cond (BeginsBase (b ∷ bs)) (b == 76) _ _
    (λ is_class. if_map (BeginsBase (b ∷ bs)) _ (read_class bs) (BeginsClass bs) (class_taken bs) (λ r t.
    (rw (eqb-true b 76 is_class) (ap (λ (x : List ℕ). 76 ∷ x) (t.0 ∙ append_push r.0 59 r.1)), t.1)))
    (λ _. if_map (BeginsBase (b ∷ bs)) _ (letter_base b) (IsLetter b) (letter_taken b) (λ base t. (ap (λ (x : List ℕ). x ++ bs) t.0, t.1)))

-- ---- a field descriptor

abbrev dims_of : List ℕ → ℕ
dims_of bs = prefix_len (λ b. b == 91) bs

no_dims : (base : Base) (rest : List ℕ) → dims_of (base_text base ++ rest) ≡ 0
no_dims Byte rest = refl
no_dims Char rest = refl
no_dims Double rest = refl
no_dims Float rest = refl
no_dims Int rest = refl
no_dims Long rest = refl
no_dims Short rest = refl
no_dims Boolean rest = refl
no_dims (Class name) rest = refl

dims_again : (dims : ℕ) (bs : List ℕ) → dims_of bs ≡ 0 → dims_of (replicate dims 91 ++ bs) ≡ dims
dims_again zero bs h = h
dims_again (suc n) bs h = rw (dims_again n bs h) (one-add n)

dims_front_by : (b : ℕ) (bs : List ℕ) (yes : Bool) → (b == 91) ≡ yes → bs ≡ replicate (dims_of bs) 91 ++ drop (dims_of bs) bs
    → b ∷ bs ≡ replicate (cond yes (1 + dims_of bs) 0) 91 ++ drop (cond yes (1 + dims_of bs) 0) (b ∷ bs)
dims_front_by b bs true is_open h = rw (one-add (dims_of bs)) (rw (eqb-true b 91 is_open) (ap (λ (x : List ℕ). 91 ∷ x) h))
dims_front_by b bs false is_open h = refl

dims_front : (bs : List ℕ) → bs ≡ replicate (dims_of bs) 91 ++ drop (dims_of bs) bs
dims_front [] = refl
dims_front (b ∷ bs) = dims_front_by b bs (b == 91) refl (dims_front bs)

counts_dims : (desc : FieldDesc) (rest : List ℕ) → prefix_len (λ b. b == 91) (field_text desc ++ rest) ≡ desc.dims
counts_dims desc rest = ap dims_of (append_assoc (replicate desc.dims 91) (base_text desc.base) rest) ∙ dims_again desc.dims (base_text desc.base ++ rest) (no_dims desc.base rest)

pub field_again : (desc : FieldDesc) (rest : List ℕ) → IsType desc → read_field (field_text desc ++ rest) ≡ Some (desc, rest)
unfolding read_field
field_again desc rest h =
    let few : nat_lt 255 desc.dims ≡ false = grind (arith, nat_tests, h.0) in
    rw (counts_dims desc rest, few, append_assoc (replicate desc.dims 91) (base_text desc.base) rest, drop_at (replicate desc.dims 91) (base_text desc.base ++ rest) desc.dims (length-replicate desc.dims 91), base_again desc.base rest h.1) refl

abbrev BeginsField : List ℕ → FieldDesc × List ℕ → Type 0
BeginsField bs r = (bs ≡ field_text r.0 ++ r.1) × IsType r.0

field_taken_at : (bs : List ℕ) → IfSome (read_field bs) (BeginsField bs)
unfolding read_field
field_taken_at bs =
    let dims = dims_of bs in
    if_cond (BeginsField bs) (nat_lt 255 dims) None _ (λ _. tt)
    (λ few. if_map (BeginsField bs) _ (read_base (drop dims bs)) (BeginsBase (drop dims bs)) (base_taken (drop dims bs)) (λ r t.
    (dims_front bs ∙ ap (λ (x : List ℕ). replicate dims 91 ++ x) t.0 ∙ sym (append_assoc (replicate dims 91) (base_text r.0) r.1), (let le : dims ≤ 255 = grind (arith, nat_tests, few) in le, t.1))))

pub field_taken : (bs : List ℕ) (desc : FieldDesc) (rest : List ℕ) → Some (desc, rest) ≡ read_field bs → BeginsField bs (desc, rest)
field_taken bs desc rest h = subst (λ (o : Option (FieldDesc × List ℕ)). IfSome o (BeginsField bs)) (sym h) (field_taken_at bs)

-- ---- bytes that are one field descriptor

whole_again : (desc : FieldDesc) (bs : List ℕ) → SpellsField desc bs → read_field bs ≡ Some (desc, [])
whole_again desc bs h = ap read_field (h.0 ∙ sym (append-nil (field_text desc))) ∙ field_again desc [] h.1

pub whole_once : (one other : FieldDesc) (bs : List ℕ) → SpellsField one bs → SpellsField other bs → one ≡ other
whole_once one other bs h k = ap (λ (r : FieldDesc × List ℕ). r.0) (same_Some (one, []) (other, []) (sym (whole_again one bs h) ∙ whole_again other bs k))

pub whole_none : (bs : List ℕ) → None ≡ read_field bs → IsFieldDesc bs → ⊥
whole_none bs e h = absurd (cc (whole_again h.0 bs h.1))

pub whole_some : (bs : List ℕ) (desc : FieldDesc) (rest : List ℕ) → Some (desc, rest) ≡ read_field bs → true ≡ (length rest == 0) → SpellsField desc bs
whole_some bs desc rest e done =
    let t = field_taken bs desc rest e in
    (t.0 ∙ ap (λ (x : List ℕ). field_text desc ++ x) (nil_from_length rest (eqb-true _ _ (sym done))) ∙ append-nil (field_text desc), t.1)

pub whole_more : (bs : List ℕ) (desc : FieldDesc) (rest : List ℕ) → Some (desc, rest) ≡ read_field bs → false ≡ (length rest == 0) → IsFieldDesc bs → ⊥
whole_more bs desc rest e more h =
    let nothing : rest ≡ [] = ap (λ (r : FieldDesc × List ℕ). r.1) (same_Some (desc, rest) (h.0, []) (e ∙ whole_again h.0 bs h.1)) in
    absurd (cc (more, nothing))

pub whole_tested : {A : Type 0} (found : Option A) (seen : A → FieldDesc) (bs : List ℕ) → MatchOption found (IsFieldDesc bs → ⊥) (λ x. SpellsField (seen x) bs) → IsTrue (is_some found) ↔ IsFieldDesc bs
whole_tested None seen bs h = (λ e. absurd cc, λ d. absurd (h d))
whole_tested (Some x) seen bs h = (λ e. (seen x, h), λ d. refl)

-- ---- a byte at the front

pub byte_taken : (byte : ℕ) (bs rest : List ℕ) → Some rest ≡ after_byte byte bs → bs ≡ byte ∷ rest
byte_taken byte [] rest h = absurd cc
byte_taken byte (b ∷ bs) rest h = let g = cond_some (b == byte) bs rest (sym h) in rw (eqb-true b byte g.0, g.1) refl

pub byte_again : (byte : ℕ) (rest : List ℕ) → Some rest ≡ after_byte byte (byte ∷ rest)
byte_again byte rest = let same : (byte == byte) ≡ true = grind (arith, nat_tests) in rw same refl

-- ---- a class's name, or an array's descriptor

bad_byte : (b : ℕ) → b ≡ 91 → is_one_of (codes ".;[/") b ≡ false → ⊥
bad_byte b same h = grind (arith, nat_tests)

class_begins : (first : List ℕ) (names : List (List ℕ)) (rest : List ℕ) → 91 ∷ rest ≡ joined_by_slash first names → IsUnqualified first → ⊥
class_begins [] names rest e h = omega (arith, h.0)
class_begins (b ∷ first) [] rest e h = let same : b ≡ 91 = cc in absurd (bad_byte b same (any_false _ _ h.1).0)
class_begins (b ∷ first) (n ∷ names) rest e h = let same : b ≡ 91 = cc in absurd (bad_byte b same (any_false _ _ h.1).0)

array_begins : (dims : ℕ) (text : List ℕ) → 0 < dims → (rest : List ℕ) × (replicate dims 91 ++ text ≡ 91 ∷ rest)
array_begins zero text lt = absurd (omega arith)
array_begins (suc n) text lt = (replicate n 91 ++ text, refl)

array_dims : (desc : FieldDesc) (rest : List ℕ) → 91 ∷ rest ≡ field_text desc → 0 < desc.dims
array_dims desc rest e = let at = ap (prefix_len (λ b. b == 91)) (e ∙ sym (append-nil (field_text desc))) ∙ counts_dims desc [] in omega arith

pub or_array : (bytes : List ℕ) (found : Option (List ℕ)) (answer : Bool) → found ≡ after_byte 91 bytes
    → MatchOption found (IsTrue answer ↔ IsClassName bytes) (λ _. IsTrue answer ↔ IsFieldDesc bytes) → IsTrue answer ↔ IsClassOrArray bytes
or_array bytes None answer e h = (
  λ yes. inl (h.0 yes),
  λ c. ⊎_elim (λ n. h.1 n) (λ d. let a = array_begins d.0.dims (base_text d.0.base) d.1 in absurd (cc (e, byte_again 91 a.0, d.2.0, a.1))) c,
)
or_array bytes (Some rest) answer e h =
    let is = byte_taken 91 bytes rest e in (
      λ yes. let d = h.0 yes in inr (d.0, array_dims d.0 rest (sym is ∙ d.1.0), d.1),
      λ c. ⊎_elim (λ n. absurd (class_begins n.0 n.1 rest (sym is ∙ n.2) n.3)) (λ d. h.1 (d.0, d.2)) c,
    )
