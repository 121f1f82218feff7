-- The flow graph of a method, by one rule an edge, and what its nodes read and write (this project's own), in its part
-- for plain code: there the wide graph and the flow graph of an instance are one.
use Rattle.std.specs.Prelude.{◌≡◌, ℕ, ◌+◌, ◌-◌, ◌<◌, Bool, true, false, List, [], ◌∷◌, Option, Some, None, Contains, option_map}
use Rattle.jo_insn.specs.AccessFlags.{has_flag, native_flag}
use Rattle.jo_prog.specs.declared.operations.Operation.{Operation}
use Rattle.jo_prog.specs.declared.operations.Operation.TheVariants.{Constant, Load, Store, Add, Subtract, InvokeStatic, Return, Other}
use Rattle.jo_prog.specs.declared.program.Program.{Program}
use Rattle.jo_prog.specs.declared.program.Method.{Method}
use Rattle.jo_prog.specs.Program.{method_at, operation_at, callee_at}
use Rattle.jo_prog.specs.Typing.{HasHeight, call_effect_of}
use Rattle.dependence.specs.declared.flow.Place.{Place}
use Rattle.dependence.specs.declared.flow.Place.TheVariants.{Local, Stack}
use Rattle.dep_nodes.specs.declared.kinds.NodeKind.{NodeKind}
use Rattle.dep_nodes.specs.declared.kinds.NodeKind.TheVariants.{Entry, Exit, Instr, Call, RetVal}
use Rattle.jo_ids.specs.Path.{Path}
use Rattle.dependence.specs.Dependence.{Reaches, Controls}

-- the node at which a thread stands whose pc this is
abbrev pub node_of : ℕ → Option (Operation × ℕ) → NodeKind
node_of pc (Some (InvokeStatic k, next)) = Call pc
node_of pc _ = Instr pc

abbrev pub node_at : Program → ℕ → ℕ → NodeKind
node_at program m pc = node_of pc (operation_at program m pc)

-- the operation is no call, and the code goes on behind it
abbrev pub falls_through : Operation → Bool
falls_through (Constant z) = true
falls_through (Load k) = true
falls_through (Store k) = true
falls_through Add = true
falls_through Subtract = true
falls_through (InvokeStatic k) = false
falls_through Return = false
falls_through Other = false

-- the call names a native method
abbrev pub is_native_method : Option Method → Bool
is_native_method None = false
is_native_method (Some method) = has_flag native_flag method.flags

abbrev pub calls_native : Program → Option ℕ → Bool
calls_native program None = false
calls_native program (Some m) = is_native_method (method_at program m)

-- an edge of the flow graph of a method
pub data FlowEdge (program : Program) (m : ℕ) : NodeKind → NodeKind → Type 0 where
  begins : (n : NodeKind) → node_at program m 0 ≡ n → FlowEdge program m Entry n
  skips : FlowEdge program m Entry Exit
  falls : (pc next : ℕ) (operation : Operation) (n : NodeKind) → operation_at program m pc ≡ Some (operation, next) → falls_through operation ≡ true
      → node_at program m next ≡ n → FlowEdge program m (Instr pc) n
  leaves : (pc next : ℕ) → operation_at program m pc ≡ Some (Return, next) → FlowEdge program m (Instr pc) Exit
  calls : (pc next k : ℕ) → operation_at program m pc ≡ Some (InvokeStatic k, next) → calls_native program (callee_at program m pc) ≡ true
      → FlowEdge program m (Call pc) (RetVal pc)
  arrives : (pc next k : ℕ) (n : NodeKind) → operation_at program m pc ≡ Some (InvokeStatic k, next) → calls_native program (callee_at program m pc) ≡ true
      → node_at program m next ≡ n → FlowEdge program m (RetVal pc) n

-- a path along flow edges
abbrev pub FlowPath : Program → ℕ → NodeKind → NodeKind → Type 0
FlowPath program m = Path (FlowEdge program m)

-- the flow graph has the nodes that Entry reaches
abbrev pub IsFlowNode : Program → ℕ → NodeKind → Type 0
IsFlowNode program m n = FlowPath program m Entry n

-- ---- places

-- what an operation other than a call reads and writes, from a stack of this height
abbrev pub reads_of : Operation → ℕ → List Place
reads_of (Constant z) height = []
reads_of (Load k) height = Local k ∷ []
reads_of (Store k) height = Stack (height - 1) ∷ []
reads_of Add height = Stack (height - 1) ∷ Stack (height - 2) ∷ []
reads_of Subtract height = Stack (height - 1) ∷ Stack (height - 2) ∷ []
reads_of (InvokeStatic k) height = []
reads_of Return height = []
reads_of Other height = []

abbrev pub writes_of : Operation → ℕ → List Place
writes_of (Constant z) height = Stack height ∷ []
writes_of (Load k) height = Stack height ∷ []
writes_of (Store k) height = Local k ∷ []
writes_of Add height = Stack (height - 2) ∷ []
writes_of Subtract height = Stack (height - 2) ∷ []
writes_of (InvokeStatic k) height = []
writes_of Return height = []
writes_of Other height = []

-- how many arguments the call at a pc takes, and whether a result comes
abbrev pub arguments_at : Program → ℕ → ℕ → Option ℕ
arguments_at program m pc = option_map (λ (effect : ℕ × ℕ). effect.0) (call_effect_of program (callee_at program m pc))

abbrev pub results_at : Program → ℕ → ℕ → Option ℕ
results_at program m pc = option_map (λ (effect : ℕ × ℕ). effect.1) (call_effect_of program (callee_at program m pc))

-- A node reads a place. A Call reads none and writes none: its arguments are read by its Args.
pub data Reads (program : Program) (m : ℕ) : NodeKind → Place → Type 0 where
  by_instr : (pc next height : ℕ) (operation : Operation) (v : Place) → operation_at program m pc ≡ Some (operation, next) → HasHeight program m pc height
      → Contains (reads_of operation height) v → Reads program m (Instr pc) v

pub data Writes (program : Program) (m : ℕ) : NodeKind → Place → Type 0 where
  by_instr : (pc next height : ℕ) (operation : Operation) (v : Place) → operation_at program m pc ≡ Some (operation, next) → HasHeight program m pc height
      → Contains (writes_of operation height) v → Writes program m (Instr pc) v
  by_result : (pc height arguments : ℕ) (v : Place) → HasHeight program m pc height → arguments_at program m pc ≡ Some arguments → results_at program m pc ≡ Some 1
      → v ≡ Stack (height - arguments) → Writes program m (RetVal pc) v

-- the place of an argument of the call at a pc, counted from 0
pub data ArgumentPlace (program : Program) (m : ℕ) : ℕ → ℕ → Place → Type 0 where
  of_argument : (pc height arguments i : ℕ) (v : Place) → HasHeight program m pc height → arguments_at program m pc ≡ Some arguments → i < arguments
      → v ≡ Stack (height - arguments + i) → ArgumentPlace program m pc i v

-- ---- dependence along flow edges

abbrev pub FlowReaches : Program → ℕ → Place → NodeKind → NodeKind → Type 0
FlowReaches program m = Reaches (FlowEdge program m) (Writes program m)

abbrev pub FlowControls : Program → ℕ → NodeKind → NodeKind → Type 0
FlowControls program m = Controls (FlowEdge program m) (λ n. n ≡ Exit)
