-- The grammar of lines by their items (this project's own). `Statements` reads it, item by item.
use Rattle.std.specs.Prelude.{◌≡◌, ℕ, ◌-◌, true, false, List, [], ◌∷◌, length, take, Option, Some, None, codes}
use Rattle.jo_insn.specs.Opcodes.{operands_of, opcode_named}
use Rattle.asm_text.specs.declared.statements.Number.{Number}
use Rattle.asm_text.specs.declared.statements.Constant.{Constant}
use Rattle.asm_text.specs.declared.statements.Operation.{Operation}
use Rattle.asm_text.specs.declared.statements.Statement.{Statement}
use Rattle.asm_text.specs.declared.statements.Statement.TheVariants.{Class, Implements, Field, Method, Label, Instruction, Catch, End}
use Rattle.asm_text.specs.declared.words.Kind.TheVariants.{ClassName, MemberName, FieldDesc, MethodDesc}
use Rattle.asm_text.specs.Lines.{items_of, ends_in_space}
use Rattle.asm_text.specs.Words.{name_of_kind, label_in, number_in, flags_in}
use Rattle.asm_text.specs.Statements.{Items, constant_in, caught_in, operand_words, ends_in_colon}

-- a line's items, and what it says
pub data Says : Statement → Items → Type 0 where
  class : {name above n a f : List ℕ} {flags : ℕ}
      → name_of_kind ClassName n ≡ Some name → name_of_kind ClassName a ≡ Some above → flags_in f ≡ Some flags
      → Says (Class name above flags) (codes "class" ∷ n ∷ codes "super" ∷ a ∷ codes "flags" ∷ f ∷ [])
  implements : {name n : List ℕ} → name_of_kind ClassName n ≡ Some name
      → Says (Implements name) (codes "implements" ∷ n ∷ [])
  field : {name desc n d f : List ℕ} {flags : ℕ}
      → name_of_kind MemberName n ≡ Some name → name_of_kind FieldDesc d ≡ Some desc → flags_in f ≡ Some flags
      → Says (Field name desc flags None) (codes "field" ∷ n ∷ d ∷ codes "flags" ∷ f ∷ [])
  field_with_value : {name desc n d f c : List ℕ} {flags : ℕ} {constant : Constant}
      → name_of_kind MemberName n ≡ Some name → name_of_kind FieldDesc d ≡ Some desc → flags_in f ≡ Some flags
      → constant_in c ≡ Some constant
      → Says (Field name desc flags (Some constant))
      (codes "field" ∷ n ∷ d ∷ codes "flags" ∷ f ∷ codes "value" ∷ c ∷ [])
  method : {name desc n d f : List ℕ} {flags : ℕ}
      → name_of_kind MemberName n ≡ Some name → name_of_kind MethodDesc d ≡ Some desc → flags_in f ≡ Some flags
      → Says (Method name desc flags None) (codes "method" ∷ n ∷ d ∷ codes "flags" ∷ f ∷ [])
  method_with_code : {name desc n d f s l : List ℕ} {flags : ℕ} {stack locals : Number}
      → name_of_kind MemberName n ≡ Some name → name_of_kind MethodDesc d ≡ Some desc → flags_in f ≡ Some flags
      → number_in s ≡ Some stack → number_in l ≡ Some locals
      → Says (Method name desc flags (Some (record { stack = stack; locals = locals })))
      (codes "method" ∷ n ∷ d ∷ codes "flags" ∷ f ∷ codes "stack" ∷ s ∷ codes "locals" ∷ l ∷ [])
  -- a label's spelling and a `:`
  label : {name word : List ℕ} → ends_in_colon word ≡ true → label_in (take (length word - 1) word) ≡ Some name
      → Says (Label name) (word ∷ [])
  instruction : {word : List ℕ} {op : ℕ} {items : Items} {operation : Operation}
      → opcode_named word ≡ Some op → operand_words op items (operands_of op) ≡ Some operation
      → Says (Instruction operation) (word ∷ items)
  catch : {start end handler s e h c : List ℕ} {caught : Option (List ℕ)}
      → label_in s ≡ Some start → label_in e ≡ Some end → label_in h ≡ Some handler → caught_in c ≡ Some caught
      → Says (Catch start end handler caught) (codes "catch" ∷ s ∷ e ∷ h ∷ c ∷ [])
  end : Says End (codes "end" ∷ [])

-- no line that says something ends in a space
pub record IsLine (line : List ℕ) (statement : Statement) : Type 0 where
  pub spaced : ends_in_space line ≡ false
  pub says : Says statement (items_of line)
