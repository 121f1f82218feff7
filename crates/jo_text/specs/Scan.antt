-- Names and descriptors read from left to right. Private functions compute these; the public contracts cite `Descriptors` alone.
use Rattle.std.specs.Prelude.{◌≡◌, ℕ, ◌+◌, nat_lt, Bool, true, false, ◌&&◌, ◌||◌, ◌==◌, not, if◌then◌else◌, List, [], ◌∷◌, ◌++◌, take, drop, codes, Option, Some, None, option_map, option_and_then, position}
use Rattle.std.specs.List.{prefix_len, flat_map, AllByRecursion}
use Rattle.jo_text.specs.declared.descriptors.Base.{Base}
use Rattle.jo_text.specs.declared.descriptors.Base.TheVariants.{Byte, Char, Double, Float, Int, Long, Short, Boolean, Class}
use Rattle.jo_text.specs.declared.descriptors.BaseView.{BaseView}
use Rattle.jo_text.specs.declared.descriptors.BaseView.TheVariants.{Letter, Named}
use Rattle.jo_text.specs.declared.descriptors.FieldDesc.{FieldDesc}
use Rattle.jo_text.specs.declared.descriptors.FieldView.{FieldView}
use Rattle.jo_text.specs.Descriptors.{is_one_of, field_text, result_text, IsType, IsResult}

-- the byte can't stand in a class's name, behind an unqualified name that is empty so far or not
abbrev pub breaks_name : Bool → ℕ → Bool
breaks_name empty b = (b == 47 && empty) || is_one_of (codes ".;[") b

-- the bytes go on and end a class's name, of which the last unqualified name so far is empty or not
unfoldable pub names_on : Bool → List ℕ → Bool
names_on empty [] = not empty
names_on empty (b ∷ bs) = if breaks_name empty b then false else names_on (b == 47) bs

-- what follows a byte
abbrev pub after_byte : ℕ → List ℕ → Option (List ℕ)
after_byte byte [] = None
after_byte byte (b ∷ rest) = if b == byte then Some rest else None

-- ---- what a descriptor's view stands for

abbrev pub base_seen : BaseView → Base
base_seen (Letter base) = base
base_seen (Named name) = Class name.now

abbrev pub field_seen : FieldView → FieldDesc
field_seen view = record { dims = view.dims; base = base_seen view.base }

-- ---- what begins the bytes, and what follows it

-- a class's name, up to a `;`
unfoldable pub read_class : List ℕ → Option (List ℕ × List ℕ)
read_class bytes = option_and_then (λ end. if names_on true (take end bytes) then Some (take end bytes, drop (end + 1) bytes) else None) (position (λ b. b == 59) bytes)

-- the base type that is one letter
unfoldable pub letter_base : ℕ → Option Base
letter_base b =
    if b == 66 then Some Byte else if b == 67 then Some Char else if b == 68 then Some Double else if b == 70 then Some Float
    else if b == 73 then Some Int else if b == 74 then Some Long else if b == 83 then Some Short else if b == 90 then Some Boolean else None

-- a base type
unfoldable pub read_base : List ℕ → Option (Base × List ℕ)
read_base [] = None
read_base (b ∷ rest) = if b == 76 then option_map (λ r. (Class r.0, r.1)) (read_class rest) else option_map (λ base. (base, rest)) (letter_base b)

-- a field descriptor
unfoldable pub read_field : List ℕ → Option (FieldDesc × List ℕ)
read_field bytes =
    let dims = prefix_len (λ b. b == 91) bytes in
    if nat_lt 255 dims then None else option_map (λ r. (record { dims = dims; base = r.0 }, r.1)) (read_base (drop dims bytes))

-- the bytes are those field descriptors, and what follows
pub record PassFields (descs : List FieldDesc) (bytes rest : List ℕ) : Type 0 where
  pub parts : bytes ≡ flat_map field_text descs ++ rest
  pub types : AllByRecursion IsType descs

abbrev pub BeginsFields : List ℕ → List ℕ → Type 0
BeginsFields bytes rest = (descs : List FieldDesc) × PassFields descs bytes rest

-- the bytes are that result's, or some result's
abbrev pub SpellsResult : Option FieldDesc → List ℕ → Type 0
SpellsResult result bytes = (bytes ≡ result_text result) × IsResult result

abbrev pub IsResultDesc : List ℕ → Type 0
IsResultDesc bytes = (result : Option FieldDesc) × SpellsResult result bytes
