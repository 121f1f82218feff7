-- Two programs as literal data, and what instructions and calls may ask where nothing fits. The one divides by zero and catches what comes of it; in the other a thread starts a second, and each
-- shows an int. Both show at the same native method.
--   static void main() { try { int i = 1 / 0; } catch (Throwable t) { show(5); } }
--   class Main extends Thread { static void main() { new Main().start(); show(2); }  public void run() { show(1); } }
use Rattle.std.specs.Prelude.{ℕ, ◌==◌, Bool, true, false, List, [], ◌∷◌, Some, None, codes}
use Rattle.jo_text.specs.declared.descriptors.Base.TheVariants.{Int}
use Rattle.jo_prog.specs.declared.labels.Label.TheVariants.{Sink}
use Rattle.jo_prog.specs.declared.labels.Labels.{Labels}
use Rattle.jo_prog.specs.declared.program.Program.{Program}
use Rattle.jo_prog.specs.declared.program.Class.{Class}
use Rattle.jo_prog.specs.declared.program.Method.{Method}
use Rattle.jo_prog.specs.declared.program.Code.{Code}
use Rattle.jo_prog.specs.declared.program.Operand.{Operand}
use Rattle.jo_prog.specs.declared.program.Operand.TheVariants.{Unused, Member, OfType}
use Rattle.jo_prog.specs.declared.program.TypeRef.TheVariants.{Class as OfClass}
use Rattle.jo_prog.specs.declared.calls.Taken.TheVariants.{Start, Nothing}
use Rattle.jo_prog.specs.Program.{program_with}
use Rattle.jo_prog.specs.PreludeClasses.{object_class}
use Rattle.jo_prog.specs.Values.{array}
use Rattle.machine.specs.Execution.{Ways, Fits}
use Rattle.machine.specs.Invocation.{Callee}

abbrev pub code_without_rows : List ℕ → Code
code_without_rows bytes = record { max_stack = 2; max_locals = 1; bytes = bytes; rows = [] }

abbrev pub method_of : ℕ → List ℕ → List ℕ → ℕ → Code → Method
method_of class name desc flags code = record { class = class; name = name; desc = desc; flags = flags; code = Some code }

abbrev pub native_show : ℕ → Method
native_show class = record { class = class; name = codes "show"; desc = codes "(I)V"; flags = 0x0108; code = None }

abbrev pub show_of : ℕ → Operand
show_of class = Member (record { owner = OfClass class; name = codes "show"; desc = codes "(I)V" })

-- the class Main on another, with these methods and operands
abbrev pub main_class : ℕ → List ℕ → List Operand → Class
main_class superclass methods operands = record {
  name = codes "Main";
  flags = 0x0021;
  superclass = Some superclass;
  interfaces = [];
  fields = [];
  methods = methods;
  operands = operands;
}

-- one observer at the one level sees what is shown
abbrev pub shows_at : ℕ → ℕ → Labels
shows_at entry show = record { levels = codes "low" ∷ []; flows = []; observers = 0 ∷ []; entry = entry; labelled = (show, Sink 0) ∷ [] }

-- ---- a division by zero

-- 0 iconst_1, 1 iconst_0, 2 idiv, 3 istore_0, 4 return, and from 5 on, for what is thrown before 4, 5 pop, 6 iconst_5, 7 invokestatic
-- show, 10 return
abbrev pub dividing_code : Code
dividing_code = record {
  max_stack = 2;
  max_locals = 1;
  bytes = 0x04 ∷ 0x03 ∷ 0x6c ∷ 0x3b ∷ 0xb1 ∷ 0x57 ∷ 0x08 ∷ 0xb8 ∷ 0 ∷ 1 ∷ 0xb1 ∷ [];
  rows = record { start = 0; end = 4; handler = 5; catches = None } ∷ [];
}

abbrev pub dividing_methods : List Method
dividing_methods = method_of 1 (codes "main") (codes "()V") 0x0008 dividing_code ∷ native_show 1 ∷ []

abbrev pub dividing_program : Program
dividing_program = program_with (object_class ∷ main_class 0 (0 ∷ 1 ∷ []) (Unused ∷ show_of 1 ∷ []) ∷ []) [] dividing_methods

-- ---- two threads

-- java/lang/Thread has the number 3, behind three classes of which none is used
abbrev pub thread_class : Class
thread_class = record {
  name = codes "java/lang/Thread";
  flags = 0x0021;
  superclass = Some 0;
  interfaces = [];
  fields = [];
  methods = 0 ∷ [];
  operands = [];
}

abbrev pub start_method : Method
start_method = record { class = 3; name = codes "start"; desc = codes "()V"; flags = 0x0001; code = None }

-- 0 new Main, 3 invokevirtual start, 6 iconst_2, 7 invokestatic show, 10 return
abbrev pub starting_code : Code
starting_code = code_without_rows (0xbb ∷ 0 ∷ 1 ∷ 0xb6 ∷ 0 ∷ 2 ∷ 0x05 ∷ 0xb8 ∷ 0 ∷ 3 ∷ 0xb1 ∷ [])

-- 0 iconst_1, 1 invokestatic show, 4 return
abbrev pub started_code : Code
started_code = code_without_rows (0x04 ∷ 0xb8 ∷ 0 ∷ 3 ∷ 0xb1 ∷ [])

abbrev pub starting_operands : List Operand
starting_operands =
    Unused ∷ OfType (OfClass 4) ∷ Member (record { owner = OfClass 4; name = codes "start"; desc = codes "()V" }) ∷ show_of 4 ∷ []

abbrev pub starting_methods : List Method
starting_methods =
    start_method ∷ method_of 4 (codes "main") (codes "()V") 0x0008 starting_code ∷ method_of 4 (codes "run") (codes "()V") 0x0001 started_code
    ∷ native_show 4 ∷ []

abbrev pub starting_program : Program
starting_program =
    program_with (object_class ∷ object_class ∷ object_class ∷ thread_class ∷ main_class 3 (1 ∷ 2 ∷ 3 ∷ []) starting_operands ∷ []) [] starting_methods

-- ---- where nothing fits

-- at every address stands an array of three ints
abbrev pub arrays_of_three : Ways ℕ
arrays_of_three = record { same = ◌==◌; info = λ a. array (record { dims = 0; base = Int }) 3; text = λ text. None }

abbrev pub nothing_fits : Fits
nothing_fits = record { of_type = λ info type. false; as_element = λ type info. false }

-- a call that takes Thread.start for every receiver
abbrev pub starts_all : Bool → Callee
starts_all implements = record {
  has_receiver = true;
  implements = λ info. implements;
  taken = λ info. Start;
  run = λ info. Nothing;
  label = λ m. None;
}
