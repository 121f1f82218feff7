-- Each test decides its grammar.
use Rattle.std.proofs.Common.{◌≡◌, ◌⊎◌, ℕ, zero, suc, ◌<◌, ◌≤◌, Bool, true, false, ◌==◌, ◌&&◌, cond, not, List, [], ◌∷◌, length, refl, sym, ap, ◌∙◌, inl, inr, ⊎_elim, arith}
use Rattle.std.specs.Prelude.{Option, Some, None, MatchOption, option_map, codes, nat_le}
use Rattle.std.specs.Bool.{Decides}
use Rattle.std.specs.List.{list_any}
use Rattle.std.proofs.lemmas.Bool.Decides.{nat_tests, Decides-eqb, Decides-not, Decides-and, Decides-or, Decides-like}
use Rattle.std.proofs.lemmas.List.{nil_from_length}
use Rattle.std.proofs.lemmas.Slice.Eq.{bytes_eq-Decides}
use Rattle.jo_text.specs.declared.descriptors.FieldDesc.{FieldDesc}
use Rattle.jo_text.specs.declared.mutf8.Awaited.{Awaited}
use Rattle.jo_text.specs.Descriptors.{is_one_of, IsMemberName, IsClassName, IsFieldDesc, IsMethodDesc, IsClassOrArray}
use Rattle.jo_text.specs.Scan.{names_on, after_byte, read_field, read_base, BeginsFields, SpellsResult, IsResultDesc}
use Rattle.jo_text.specs.CharScan.{mutf8_lead, Completes, GoesOn}
use Rattle.jo_text.specs.Mutf8.{IsMutf8}
use Rattle.jo_text.specs.Tests.{where_found, is_member_name, is_class_name, ends_there, is_field_desc, after_fields, is_result_desc, is_params_desc, is_method_desc, is_class_or_array, mutf8_on, is_mutf8}
use Rattle.jo_text.proofs.DescriptorNames.{class_name_tested}
use Rattle.jo_text.proofs.DescriptorFields.{whole_none, whole_some, whole_more, or_array}
use Rattle.jo_text.proofs.DescriptorMethods.{begins_more, rest_shorter, method_tested}
use Rattle.jo_text.proofs.Mutf8Leads.{IsMutf8-nil, mutf8_goes_on}

-- ---- names

-- there is a byte
some_decided : (n : ℕ) → Decides (not (n == 0)) (0 < n)
some_decided n = Decides-like _ (λ h. omega arith) (λ h. omega arith) (Decides-not (n == 0) (Decides-eqb n 0))

false_decided : (b : Bool) → Decides (not b) (b ≡ false)
false_decided true = (λ e. sym e, λ e. sym e)
false_decided false = (λ e. refl, λ e. refl)

pub member_decided : (name : List ℕ) → Decides (is_member_name name) (IsMemberName name)
member_decided name = Decides-and _ _ (some_decided (length name)) (false_decided (list_any (is_one_of (codes ".;[/(:")) name))

pub class_decided : (name : List ℕ) → Decides (is_class_name name) (IsClassName name)
class_decided name = class_name_tested name (is_class_name name) refl

-- ---- field descriptors

pub field_decided : (bytes : List ℕ) → Decides (is_field_desc bytes) (IsFieldDesc bytes)
field_decided bytes = by (read_field bytes) refl
  where
    by_rest : (desc : FieldDesc) (rest : List ℕ) (ends : Bool) → Some (desc, rest) ≡ read_field bytes → ends ≡ (length rest == 0) → Decides ends (IsFieldDesc bytes)
    by_rest desc rest true read is = (λ _. (desc, whole_some bytes desc rest read is), λ _. refl)
    by_rest desc rest false read is = (λ e. absurd cc, λ d. absurd (whole_more bytes desc rest read is d))

    by : (found : Option (FieldDesc × List ℕ)) → found ≡ read_field bytes → Decides (ends_there found) (IsFieldDesc bytes)
    by None read = (λ e. absurd cc, λ d. absurd (whole_none bytes read d))
    by (Some r) read = by_rest r.0 r.1 (length r.1 == 0) read refl

-- ---- method descriptors

-- field descriptors begin the bytes, and no other one follows
abbrev PassesAll : List ℕ → List ℕ → Type 0
PassesAll bytes rest = BeginsFields bytes rest × (read_field rest ≡ None)

passes_one : (bytes rest : List ℕ) (next : List ℕ → List ℕ) (found : Option (FieldDesc × List ℕ)) → found ≡ read_field rest → BeginsFields bytes rest
    → ((after : List ℕ) → BeginsFields bytes after → length after < length rest → PassesAll bytes (next after)) → PassesAll bytes (where_found found rest (λ r. next r.1))
passes_one bytes rest next None read p more = (p, sym read)
passes_one bytes rest next (Some r) read p more =
    let is : Some r.1 ≡ option_map (λ r. r.1) (read_field rest) = ap (option_map (λ (r : FieldDesc × List ℕ). r.1)) read in
    more r.1 (begins_more bytes rest r.1 p is) (rest_shorter rest r.1 is)

nothing_in_none : read_field [] ≡ None
unfolding read_field read_base
nothing_in_none = refl

passes_all : (n : ℕ) (bytes rest : List ℕ) → length rest ≤ n → BeginsFields bytes rest → PassesAll bytes (after_fields n rest)
passes_all zero bytes rest short p = (p, ap read_field (nil_from_length rest (omega arith)) ∙ nothing_in_none)
passes_all (suc n) bytes rest short p = passes_one bytes rest (after_fields n) (read_field rest) refl p (λ after q shorter. passes_all n bytes after (omega arith) q)

result_decided : (bytes : List ℕ) → Decides (is_result_desc (Some bytes)) (IsResultDesc bytes)
result_decided bytes =
    Decides-like _ (λ h. ⊎_elim (λ void. (None, (void, tt))) (λ d. (Some d.0, d.1)) h) (λ r. by r.0 r.1) (Decides-or _ _ (bytes_eq-Decides bytes (codes "V")) (field_decided bytes))
  where
    by : (result : Option FieldDesc) → SpellsResult result bytes → (bytes ≡ codes "V") ⊎ IsFieldDesc bytes
    by None h = inl h.0
    by (Some d) h = inr (d, h)

pub method_decided : (bytes : List ℕ) → Decides (is_method_desc bytes) (IsMethodDesc bytes)
method_decided bytes = by (after_byte 40 bytes) refl
  where
    closed : (result : Option (List ℕ)) → MatchOption result (is_result_desc result ≡ false) (λ r. Decides (is_result_desc result) (IsResultDesc r))
    closed None = refl
    closed (Some r) = result_decided r

    by : (params : Option (List ℕ)) → params ≡ after_byte 40 bytes → Decides (is_params_desc params) (IsMethodDesc bytes)
    by None is_open = (λ e. absurd cc, λ d. absurd (cc (is_open, ap (after_byte 40) d.1.0)))
    by (Some params) is_open =
        let rest = after_fields (length params) params in
        let p = passes_all (length params) params params (omega arith) ([], record { parts = refl; types = tt }) in
        method_tested bytes params rest is_open p.0 p.1 (after_byte 41 rest) _ refl (closed (after_byte 41 rest))

-- ---- a class's name, or an array's descriptor

no_empty_name : Decides false (IsClassName [])
unfolding names_on
no_empty_name = class_name_tested [] false refl

pub class_or_array_decided : (name : List ℕ) → Decides (is_class_or_array name) (IsClassOrArray name)
class_or_array_decided [] = or_array [] None false refl no_empty_name
class_or_array_decided (b ∷ bytes) = by (b == 91) refl
  where
    by : (is_open : Bool) → is_open ≡ (b == 91) → Decides (cond is_open (is_field_desc (b ∷ bytes)) (is_class_name (b ∷ bytes))) (IsClassOrArray (b ∷ bytes))
    by true e = or_array (b ∷ bytes) (Some bytes) _ (rw (← e) refl) (field_decided (b ∷ bytes))
    by false e = or_array (b ∷ bytes) None _ (rw (← e) refl) (class_decided (b ∷ bytes))

-- ---- modified UTF-8

lead_decided : (b : ℕ) (bytes : List ℕ) (lead : Option Awaited) → GoesOn IsMutf8 [] b lead → (go : Awaited → Bool) → ((a : Awaited) → Decides (go a) (Completes IsMutf8 a.count a.least a.most bytes))
    → Decides (where_found lead false go) (IsMutf8 (b ∷ bytes))
lead_decided b bytes None g go each = (λ e. absurd cc, λ t. absurd (g (bytes, t)))
lead_decided b bytes (Some a) g go each = Decides-like (go a) ((g.exact bytes).1) ((g.exact bytes).0) (each a)

within_decided : (least most b : ℕ) → Decides (nat_le least b && nat_le b most) ((least ≤ b) × (b ≤ most))
within_decided least most b = Decides-and _ _ (at_most least b) (at_most b most)
  where
    at_most : (m n : ℕ) → Decides (nat_le m n) (m ≤ n)
    at_most m n = (λ e. grind (arith, nat_tests), λ h. grind (arith, nat_tests))

on_decided : (count least most : ℕ) (bytes : List ℕ) → Decides (mutf8_on count least most bytes) (Completes IsMutf8 count least most bytes)
on_decided zero least most [] = (λ _. IsMutf8-nil, λ _. refl)
on_decided (suc n) least most [] = (λ e. grind (arith, nat_tests), λ h. absurd h)
on_decided zero least most (b ∷ bytes) =
    lead_decided b bytes (mutf8_lead b) (mutf8_goes_on b) (λ a. mutf8_on a.count a.least a.most bytes) (λ a. on_decided a.count a.least a.most bytes)
on_decided (suc n) least most (b ∷ bytes) =
    Decides-like _ (λ h. (h.0.0, h.0.1, h.1)) (λ h. ((h.0, h.1), h.2)) (Decides-and _ _ (within_decided least most b) (on_decided n 0x80 0xBF bytes))

pub mutf8_decided : (bytes : List ℕ) → Decides (is_mutf8 bytes) (IsMutf8 bytes)
mutf8_decided bytes = on_decided 0 0x80 0xBF bytes
