-- Where a class file stops first: items, checks and parts in the order in which they are read and checked (this project's own).
-- `rest` is what the file has from some item or part on, and `size` the file's length, so the place of what begins there is
-- what the two differ by. Each relation says which fault is the first of a part that begins at `rest`: each item before
-- passes its checks and is spelled as the grammar has it, and one fails a check or isn't all there.
use Rattle.std.specs.Prelude.{◌≡◌, ℕ, ◌^◌, ◌<◌, ◌⊎◌, List, ◌++◌, length}
use Rattle.byteorder.specs.Endian.{big_bytes}
use Rattle.class_pool.specs.declared.faults.ClassCode.{ClassCode}
use Rattle.class_pool.specs.declared.faults.ClassCode.TheVariants.{Truncated}
use Rattle.class_pool.specs.declared.faults.ClassFault.{ClassFault}
use Rattle.class_pool.specs.Items.{fault}
use Rattle.class_pool.specs.ClassGrammar.{SpellsEach}

-- so many bytes aren't all there: the place is the file's length
abbrev pub IsCut : ℕ → ℕ → List ℕ → ClassFault → Type 0
IsCut size count rest f = (length rest < count) × (f ≡ fault Truncated size)

-- nothing stops
abbrev pub Never : ClassFault → Type 0
Never f = ⊥

-- A check, with its code and its place: it fails, or it passes and what comes next stops.
pub data Check (P : Type 0) (code : ClassCode) (place : ℕ) (Next : ClassFault → Type 0) (f : ClassFault) : Type 0 where
  fails : (P → ⊥) → f ≡ fault code place → Check P code place Next f
  passes : P → Next f → Check P code place Next f

-- where P holds the one stops, else the other
abbrev pub Either : Type 0 → (ClassFault → Type 0) → (ClassFault → Type 0) → ClassFault → Type 0
Either P One Other f = (P × One f) ⊎ ((P → ⊥) × Other f)

-- An item or a part: it stops itself, or these bytes spell it and what stands behind them stops.
pub data Item {X : Type 0} (Spells : X → List ℕ → Type 0) (Stops : List ℕ → ClassFault → Type 0) (rest : List ℕ) (Next : X → List ℕ → ClassFault → Type 0) (f : ClassFault) : Type 0 where
  stops : Stops rest f → Item Spells Stops rest Next f
  behind : (x : X) (text left : List ℕ) → rest ≡ text ++ left → Spells x text → Next x left f → Item Spells Stops rest Next f

-- a number in so many bytes, the highest first
abbrev pub SpellsNumber : ℕ → ℕ → List ℕ → Type 0
SpellsNumber k n text = (text ≡ big_bytes k n) × (n < 256 ^ k)

abbrev pub Number : ℕ → ℕ → List ℕ → (ℕ → List ℕ → ClassFault → Type 0) → ClassFault → Type 0
Number size k rest Next f = Item (SpellsNumber k) (IsCut size k) rest Next f

-- so many bytes
abbrev pub SpellsBytes : ℕ → List ℕ → List ℕ → Type 0
SpellsBytes count content text = (text ≡ content) × (length content ≡ count)

abbrev pub Bytes : ℕ → ℕ → List ℕ → (List ℕ → List ℕ → ClassFault → Type 0) → ClassFault → Type 0
Bytes size count rest Next f = Item (SpellsBytes count) (IsCut size count) rest Next f

-- One of so many items stops, and those before it are spelled.
pub record OneStops {X : Type 0} (Spells : X → List ℕ → Type 0) (Stops : List X → List ℕ → ClassFault → Type 0) (n : ℕ) (rest : List ℕ) (f : ClassFault) : Type 0 where
  pub before : List X
  pub text : List ℕ
  pub left : List ℕ
  pub parts : rest ≡ text ++ left
  pub spelled : SpellsEach Spells before text
  pub fewer : length before < n
  pub next : Stops before left f

-- so many items, each with what it spells and how it stops
abbrev pub SpellsMany : {X : Type 0} → (X → List ℕ → Type 0) → ℕ → List X → List ℕ → Type 0
SpellsMany Spells n xs text = SpellsEach Spells xs text × (length xs ≡ n)

abbrev pub Many : {X : Type 0} → (X → List ℕ → Type 0) → (List ℕ → ClassFault → Type 0) → ℕ → List ℕ → (List X → List ℕ → ClassFault → Type 0) → ClassFault → Type 0
Many Spells Stops n rest Next f = Item (SpellsMany Spells n) (OneStops Spells (λ _. Stops) n) rest Next f

-- items behind their count
abbrev pub Counted : {X : Type 0} → ℕ → (X → List ℕ → Type 0) → (List ℕ → ClassFault → Type 0) → List ℕ → (List X → List ℕ → ClassFault → Type 0) → ClassFault → Type 0
Counted size Spells Stops rest Next f = Number size 2 rest (λ n items. Many Spells Stops n items Next) f
