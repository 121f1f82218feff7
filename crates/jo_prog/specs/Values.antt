-- Values, and what an instruction does with them, as one pure function over any type of addresses (JVM Specification SE 8,
-- 2.11 and chapter 6). It looks at references through what stands at them, equality and null alone.
use Rattle.std.specs.Prelude.{ℕ, ℤ, List, [], ◌∷◌, Option, Some, None}
use Rattle.std.specs.Int.{w32, int_wrapping_add, int_wrapping_sub}
use Rattle.jo_text.specs.declared.descriptors.FieldDesc.{FieldDesc}
use Rattle.jo_prog.specs.declared.operations.Operation.{Operation}
use Rattle.jo_prog.specs.declared.operations.Operation.TheVariants.{Constant, Load, Store, Add, Subtract, Return}

-- an int, null, or a reference
pub data Value (A : Type 0) : Type 0 where
  int : ℤ → Value A
  null : Value A
  ref : A → Value A

-- what stands at an address: an object of a class, or an array of an element type, with its length
pub data Info : Type 0 where
  object : ℕ → Info
  array : FieldDesc → ℕ → Info

-- a cell: a field of an object, an element of an array, a static field, how many ints a source has given, whether a thread
-- object was started
pub data Cell (A : Type 0) : Type 0 where
  field : A → ℕ → Cell A
  element : A → ℕ → Cell A
  static : ℕ → Cell A
  cursor : ℕ → Cell A
  started : A → Cell A

-- what comes of an instruction that is no call
pub data Effect (A : Type 0) : Type 0 where
  pushes : List (Value A) → Effect A
  stores : ℕ → Value A → Effect A
  returns : Option (Value A) → Effect A

-- the effect, and the one cell that is written with its new value, if one is
pub record Outcome (A : Type 0) : Type 0 where
  pub effect : Effect A
  pub written : Option (Cell A × Value A)

abbrev pub plainly : {A : Type 0} → Effect A → Option (Outcome A)
plainly effect = Some (record { effect = effect; written = None })

-- the one cell that an instruction reads, from the values that it reads: none in plain code
abbrev pub cell_read : {A : Type 0} → Operation → List (Value A) → Option (Cell A)
cell_read operation values = None

-- What an instruction that is no call does with the values that it pops or loads, the top of the stack first, and with
-- the content of the cell that it reads. None where the values aren't those that it needs.
abbrev pub exec : {A : Type 0} → Operation → (A → Info) → Option (Value A) → List (Value A) → Option (Outcome A)
exec (Constant z) info content [] = plainly (pushes (int z ∷ []))
exec (Load k) info content (v ∷ []) = plainly (pushes (v ∷ []))
exec (Store k) info content (v ∷ []) = plainly (stores k v)
exec Add info content (int y ∷ int x ∷ []) = plainly (pushes (int (int_wrapping_add w32 x y) ∷ []))
exec Subtract info content (int y ∷ int x ∷ []) = plainly (pushes (int (int_wrapping_sub w32 x y) ∷ []))
exec Return info content [] = plainly (returns None)
exec _ info content _ = None
