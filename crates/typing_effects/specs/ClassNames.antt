-- The classes of a program by their names in a table (this project's own).
use Rattle.std.specs.Prelude.{◌≡◌, ℕ, List, Option, Vec}
use Rattle.std.specs.declared.alloc.Global.{Global}
use Rattle.std.specs.List.{position_from}
use Rattle.std.specs.Map.{lookup}
use Rattle.std.specs.Str.{bytes_eq}
use Rattle.jo_prog.specs.declared.program.Class.{Class}
use Rattle.typing_effects.specs.declared.class_names.ClassNames.{ClassNames}

abbrev pub number_at : List (Vec ℕ Global × ℕ) → List ℕ → Option ℕ
number_at entries text = lookup (λ (key : Vec ℕ Global). bytes_eq text key.items) entries

abbrev pub class_by : ClassNames → List ℕ → Option ℕ
class_by names text = number_at names.numbers.entries text

-- the first of these classes with that name, where they have numbers from a first one on
abbrev pub first_named : ℕ → List Class → List ℕ → Option ℕ
first_named first classes text = position_from (λ (class : Class). bytes_eq class.name text) first classes

-- the table has the first class with each name
abbrev pub AreNamesFrom : ℕ → List Class → ClassNames → Type 0
AreNamesFrom first classes names = (text : List ℕ) → class_by names text ≡ first_named first classes text

abbrev pub AreNamesOf : List Class → ClassNames → Type 0
AreNamesOf classes names = AreNamesFrom 0 classes names
