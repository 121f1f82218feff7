-- The string constants of a program in a set that keeps the order (JVM Specification SE 8, 5.1; one object for each text is this
-- project's own).
use Rattle.std.specs.Prelude.{◌≡◌, ℕ, ◌<◌, ◌^◌, List, length, map, Vec}
use Rattle.std.specs.Borrow.{Bor}
use Rattle.std.specs.declared.alloc.Global.{Global}
use Rattle.jo_prog.specs.declared.program.Program.{Program}
use Rattle.jo_prog.specs.Constants.{string_constants}
use Rattle.resolved_insns.specs.declared.strings.Strings.{Strings}

-- texts that were lent
abbrev pub lent : List (Bor (List ℕ)) → List (List ℕ)
lent texts = map (λ (text : Bor (List ℕ)). text.now) texts

abbrev pub key_text : Vec ℕ Global → List ℕ
key_text key = key.items

abbrev pub texts_in : Strings → List (List ℕ)
texts_in strings = map key_text strings.texts.keys

abbrev pub AreStringsOf : Program → Strings → Type 0
AreStringsOf program strings = (texts_in strings ≡ string_constants program) × (length strings.texts.keys < 2 ^ 32)
