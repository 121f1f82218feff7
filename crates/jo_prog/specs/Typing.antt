-- Typing by the paths of the code (JVM Specification SE 8, 4.10; the form by paths is this project's own), in its part
-- for plain code.
use Rattle.std.specs.Prelude.{◌≡◌, ℕ, zero, suc, ◌++◌, ◌&&◌, nat_le, nat_lt, if◌then◌else◌, List, [], ◌∷◌, length, replicate, Option, Some, None, IsSome, option_map, option_and_then, slice_get, slice_set, codes}
use Rattle.std.specs.Str.{bytes_eq}
use Rattle.jo_prog.specs.declared.operations.Operation.{Operation}
use Rattle.jo_prog.specs.declared.operations.Operation.TheVariants.{Constant, Load, Store, Add, Subtract, InvokeStatic, Return, Other}
use Rattle.jo_prog.specs.declared.program.Program.{Program}
use Rattle.jo_prog.specs.declared.program.Method.{Method}
use Rattle.jo_prog.specs.declared.program.Code.{Code}
use Rattle.jo_prog.specs.declared.program.TypeRef.{TypeRef}
use Rattle.jo_prog.specs.Program.{method_at, code_at, operation_at, callee_at}

-- the kind of what a place holds
pub data Kind : Type 0 where
  Int : Kind
  Null : Kind
  Ref : TypeRef → Kind
  Unset : Kind

-- what a path makes of the locals and of the stack, its top first
pub record Shape : Type 0 where
  pub locals : List Kind
  pub stack : List Kind

-- where a path goes on, if it does, and with which shape
pub record After : Type 0 where
  pub next : Option ℕ
  pub shape : Shape

-- at a method's start every local is unset: here no method with code has a parameter
abbrev pub shape_at_start : Code → Shape
shape_at_start code = record { locals = replicate code.max_locals Unset; stack = [] }

abbrev pub with_stack : Shape → List Kind → Shape
with_stack s stack = record { locals = s.locals; stack = stack }

-- the path goes on at a pc inside the code, with a stack within its bound
abbrev pub goes_to : Code → ℕ → Shape → Option After
goes_to code next s = if nat_lt next (length code.bytes) && nat_le (length s.stack) code.max_stack then Some (record { next = Some next; shape = s }) else None

-- how many ints a call pops and pushes, by the descriptor: here those without parameter or with one int
abbrev pub call_effect : List ℕ → Option (ℕ × ℕ)
call_effect desc =
    if bytes_eq desc (codes "()V") then Some (0, 0)
    else if bytes_eq desc (codes "()I") then Some (0, 1)
    else if bytes_eq desc (codes "(I)V") then Some (1, 0)
    else if bytes_eq desc (codes "(I)I") then Some (1, 1)
    else None

abbrev pub call_effect_of : Program → Option ℕ → Option (ℕ × ℕ)
call_effect_of program None = None
call_effect_of program (Some m) = option_and_then (λ (method : Method). call_effect method.desc) (method_at program m)

-- the stack with that many ints off its top, where they are there
abbrev pub pop_ints : ℕ → List Kind → Option (List Kind)
pop_ints zero stack = Some stack
pop_ints (suc n) (Int ∷ stack) = pop_ints n stack
pop_ints (suc n) _ = None

-- the stack with that many ints more on its top
abbrev pub push_ints : ℕ → List Kind → List Kind
push_ints n stack = replicate n Int ++ stack

-- the stack after a pop and a push of so many ints
abbrev pub exchange : ℕ → ℕ → Shape → Option Shape
exchange pops pushes s = option_map (λ stack. with_stack s (push_ints pushes stack)) (pop_ints pops s.stack)

abbrev pub exchange_by : Option (ℕ × ℕ) → Shape → Option Shape
exchange_by None s = None
exchange_by (Some effect) s = exchange effect.0 effect.1 s

-- the shape with the int of a local on the stack, where the local holds one
abbrev pub loaded : Option Kind → Shape → Option Shape
loaded (Some Int) s = Some (with_stack s (Int ∷ s.stack))
loaded _ s = None

-- the shape with the int on the stack in a local, where both are there
abbrev pub stored : ℕ → Shape → List Kind → Option Shape
stored k s (Int ∷ stack) = if nat_lt k (length s.locals) then Some (record { locals = slice_set s.locals k Int; stack = stack }) else None
stored k s _ = None

-- the shape after an operation, where its operands are there and of the right kinds. The callee is the method that a call names.
abbrev pub shape_after : Program → Option ℕ → Operation → Shape → Option Shape
shape_after program callee (Constant z) s = exchange 0 1 s
shape_after program callee (Load k) s = loaded (slice_get s.locals k) s
shape_after program callee (Store k) s = stored k s s.stack
shape_after program callee Add s = exchange 2 1 s
shape_after program callee Subtract s = exchange 2 1 s
shape_after program callee (InvokeStatic k) s = exchange_by (call_effect_of program callee) s
shape_after program callee Return s = Some s
shape_after program callee Other s = None

-- a path ends at a return, and goes on elsewhere
abbrev pub leads_on : Code → Operation → ℕ → Shape → Option After
leads_on code Return next s = Some (record { next = None; shape = s })
leads_on code _ next s = goes_to code next s

-- What a typing path does at an instruction: None is a fault there, of an underflow, an overflow, a wrong kind, a local
-- out of range, or a way past the end of the code.
abbrev pub typed_by : Program → Code → Option ℕ → Option (Operation × ℕ) → Shape → Option After
typed_by program code callee None s = None
typed_by program code callee (Some found) s = option_and_then (leads_on code found.0 found.1) (shape_after program callee found.0 s)

abbrev pub typed_at : Program → ℕ → Code → ℕ → Shape → Option After
typed_at program m code pc s = typed_by program code (callee_at program m pc) (operation_at program m pc) s

-- a typing path of a method with this code arrives at a pc with a shape
pub data Arrives (program : Program) (m : ℕ) (code : Code) : ℕ → Shape → Type 0 where
  at_start : Arrives program m code 0 (shape_at_start code)
  by_step : (pc next : ℕ) (s : Shape) (after : After) → Arrives program m code pc s → typed_at program m code pc s ≡ Some after → after.next ≡ Some next → Arrives program m code next after.shape

-- no path meets a fault, and two paths that arrive at one pc have one height there
pub record IsTypedCode (program : Program) (m : ℕ) (code : Code) : Type 0 where
  pub no_fault : (pc : ℕ) (s : Shape) → Arrives program m code pc s → IsSome (typed_at program m code pc s)
  pub one_height : (pc : ℕ) (s t : Shape) → Arrives program m code pc s → Arrives program m code pc t → length s.stack ≡ length t.stack

-- the method has code that is typed
abbrev pub IsTyped : Program → ℕ → Type 0
IsTyped program m = (code : Code) × (code_at program m ≡ Some code) × IsTypedCode program m code

-- a typing path arrives at a pc of a method with a stack of this height
abbrev pub HasHeight : Program → ℕ → ℕ → ℕ → Type 0
HasHeight program m pc height = (code : Code) × (s : Shape) × (code_at program m ≡ Some code) × Arrives program m code pc s × (length s.stack ≡ height)
