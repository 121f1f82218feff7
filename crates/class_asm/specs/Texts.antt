-- Texts and their classes as relations, line by line (this project's own; the parts are those of the JVM Specification SE 8,
-- 4.1, 4.5 to 4.7). A text says a class where each of its lines may stand, has its labels set, and fits its fields; else the
-- first line that fails is at fault, by the first of these three that it fails. `Assembly` computes both.
use Rattle.std.specs.Prelude.{◌≡◌, ◌⊎◌, ℕ, ◌+◌, ◌<◌, Bool, true, false, ◌&&◌, ◌==◌, List, [], ◌∷◌, ◌++◌, length, Option, Some, None, Ok, codes}
use Rattle.class_pool.specs.declared.entries.PoolEntry.{PoolEntry}
use Rattle.class_pool.specs.declared.classes.ClassFile.{ClassFile}
use Rattle.asm_text.specs.declared.statements.Constant.{Constant}
use Rattle.asm_text.specs.declared.statements.Limits.{Limits}
use Rattle.asm_text.specs.declared.statements.Operation.{Operation}
use Rattle.asm_text.specs.declared.statements.Operation.TheVariants.{Jump, TableSwitch, LookupSwitch}
use Rattle.asm_text.specs.declared.statements.Statement.{Statement}
use Rattle.asm_text.specs.declared.statements.Statement.TheVariants.{Class, Implements, Field, Method, Label, Instruction, Catch, End}
use Rattle.asm_text.specs.declared.texts.NumberedLine.{NumberedLine}
use Rattle.asm_text.specs.Lines.{lines_of}
use Rattle.asm_text.specs.Numbered.{numbered}
use Rattle.class_asm.specs.declared.causes.Cause.{Cause}
use Rattle.class_asm.specs.declared.causes.Cause.TheVariants as causes
use Rattle.class_asm.specs.declared.causes.Fault.{Fault}
use Rattle.class_asm.specs.Needs.{need_text, need_class, need_head, need_value, need_caught}
use Rattle.class_asm.specs.Layout.{Setting, body_of, stands, settings_of, size_of, setting_of}
use Rattle.class_asm.specs.Encoding.{unsigned_in, pc_of, is_set, are_set, are_cases_set, need_operand, operation_bytes}
use Rattle.class_asm.specs.Assembly.{OpenMethod, Made, nothing, class_of, may_come, closed, is_whole}

-- ---- which lines may stand

-- outside of code: the class's own line first, then its interfaces, its fields and its methods
abbrev pub stands_in_class : ℕ → Statement → Bool
stands_in_class stage (Class name above flags) = may_come stage 0
stands_in_class stage (Implements name) = may_come stage 1
stands_in_class stage (Field name desc flags constant) = may_come stage 2
stands_in_class stage (Method name desc flags limits) = may_come stage 3
stands_in_class stage _ = false

-- in code: labels and instructions, then rows, then `end`
abbrev pub stands_in_code : Bool → Statement → Bool
stands_in_code caught End = true
stands_in_code caught statement = stands caught statement

-- where no method is open, and where one is; a line outside the grammar stands nowhere
abbrev pub stands_where : Made → Option OpenMethod → Option Statement → Bool
stands_where made None None = false
stands_where made (Some method) None = false
stands_where made None (Some statement) = stands_in_class made.stage statement
stands_where made (Some method) (Some statement) = stands_in_code method.caught statement

abbrev pub may_stand : Made → NumberedLine → Bool
may_stand made line = stands_where made made.opened line.said

-- ---- whether the labels of a line are set in its method

abbrev pub has_labels : List Setting → Operation → Bool
has_labels settings (Jump op label) = is_set settings label
has_labels settings (TableSwitch low other labels) = is_set settings other && are_set settings labels
has_labels settings (LookupSwitch other cases) = is_set settings other && are_cases_set settings cases
has_labels settings _ = true

abbrev pub is_at : ℕ → Option Setting → Bool
is_at number None = false
is_at number (Some setting) = setting.line == number

-- a label that the line sets is set in no line before
abbrev pub labels_in_code : OpenMethod → ℕ → Statement → Bool
labels_in_code method number (Label name) = is_at number (setting_of method.settings name)
labels_in_code method number (Instruction operation) = has_labels method.settings operation
labels_in_code method number (Catch start end handler class) =
    is_set method.settings start && (is_set method.settings end && is_set method.settings handler)
labels_in_code method number _ = true

abbrev pub labels_where : Option OpenMethod → ℕ → Option Statement → Bool
labels_where None number said = true
labels_where (Some method) number None = true
labels_where (Some method) number (Some statement) = labels_in_code method number statement

abbrev pub has_its_labels : Made → NumberedLine → Bool
has_its_labels made line = labels_where made.opened line.number line.said

-- ---- what a line makes, where all that it says fits

-- a method's code so far, and the pool
abbrev pub CodeAndPool : Type 0
CodeAndPool = OpenMethod × List PoolEntry

-- an instruction: its bytes, once what it names has an index
abbrev pub InsnMakes : OpenMethod → List PoolEntry → Operation → CodeAndPool → Type 0
InsnMakes method pool operation next =
    (needed : List PoolEntry × ℕ) × (need_operand operation pool ≡ Ok needed)
    × ((bytes : List ℕ) × (operation_bytes method.settings (length method.bytes) needed.1 operation ≡ Ok bytes)
    × (◌≡◌ {A = CodeAndPool} next (record method { bytes = method.bytes ++ bytes }, needed.0)))

-- a row: the pcs of its labels, and the class that it catches
abbrev pub RowMakes : OpenMethod → List PoolEntry → List ℕ → List ℕ → List ℕ → Option (List ℕ) → CodeAndPool
    → Type 0
RowMakes method pool start end handler class next =
    (from : ℕ) × (pc_of method.settings start ≡ Ok from)
    × ((to : ℕ) × (pc_of method.settings end ≡ Ok to)
    × ((at : ℕ) × (pc_of method.settings handler ≡ Ok at)
    × ((needed : List PoolEntry × ℕ) × (need_caught class pool ≡ Some needed)
    × ((length method.rows < 65535)
    × (◌≡◌ {A = CodeAndPool} next (
      record method {
        caught = true;
        rows = method.rows ++ record { start = from; end = to; handler = at; catch_type = needed.1 } ∷ [];
      },
      needed.0,
    ))))))

abbrev pub CodeMakes : OpenMethod → List PoolEntry → Statement → CodeAndPool → Type 0
CodeMakes method pool (Label name) next = ◌≡◌ {A = CodeAndPool} next (method, pool)
CodeMakes method pool (Instruction operation) next = InsnMakes method pool operation next
CodeMakes method pool (Catch start end handler class) next = RowMakes method pool start end handler class next
CodeMakes method pool _ next = ⊥

-- `end` closes the method; each other line adds to its code
abbrev pub OpenedMakes : Made → OpenMethod → Statement → Made → Type 0
OpenedMakes made method End next = next ≡ closed made method
OpenedMakes made method statement next =
    (coded : CodeAndPool) × CodeMakes method made.pool statement coded
    × (next ≡ record made { opened = Some coded.0; pool = coded.1 })

abbrev pub ClassMakes : Made → List ℕ → List ℕ → ℕ → Made → Type 0
ClassMakes made name above flags next =
    (this : List PoolEntry × ℕ) × (need_class name made.pool ≡ Some this)
    × ((upper : List PoolEntry × ℕ) × (need_class above this.0 ≡ Some upper)
    × (next ≡ record made {
      stage = 1;
      flags = flags;
      this_class = this.1;
      super_class = upper.1;
      pool = upper.0;
    }))

abbrev pub InterfaceMakes : Made → List ℕ → Made → Type 0
InterfaceMakes made name next =
    (needed : List PoolEntry × ℕ) × (need_class name made.pool ≡ Some needed)
    × ((length made.interfaces < 65535)
    × (next ≡ record made { pool = needed.0; interfaces = made.interfaces ++ needed.1 ∷ [] }))

abbrev pub FieldMakes : Made → List ℕ → List ℕ → ℕ → Option Constant → Made → Type 0
FieldMakes made name desc flags constant next =
    (head : List PoolEntry × ℕ × ℕ) × (need_head name desc made.pool ≡ Some head)
    × ((value : List PoolEntry × Option ℕ) × (need_value constant head.0 ≡ Some value)
    × ((length made.fields < 65535)
    × (next ≡ record made {
      stage = 2;
      pool = value.0;
      fields = made.fields ++ record { flags = flags; name = head.1; desc = head.2; constant = value.1 } ∷ [];
    })))

-- a method without code; or one with limits, whose code follows, and which needs the name of its attribute
abbrev pub MethodMakes : Made → List ℕ → List ℕ → ℕ → Option Limits → List NumberedLine → Made → Type 0
MethodMakes made name desc flags None rest next =
    (head : List PoolEntry × ℕ × ℕ) × (need_head name desc made.pool ≡ Some head)
    × ((length made.methods < 65535)
    × (next ≡ record made {
      stage = 3;
      pool = head.0;
      methods = made.methods ++ record { flags = flags; name = head.1; desc = head.2; code = None } ∷ [];
    }))
MethodMakes made name desc flags (Some limits) rest next =
    (head : List PoolEntry × ℕ × ℕ) × (need_head name desc made.pool ≡ Some head)
    × ((code : List PoolEntry × ℕ) × (need_text (codes "Code") head.0 ≡ Some code)
    × ((stack : ℕ) × (unsigned_in 65536 limits.stack ≡ Ok stack)
    × ((locals : ℕ) × (unsigned_in 65536 limits.locals ≡ Ok locals)
    × ((size_of (body_of rest) < 65536)
    × ((length made.methods < 65535)
    × (next ≡ record made {
      stage = 3;
      pool = code.0;
      opened = Some (record {
        flags = flags;
        name = head.1;
        desc = head.2;
        stack = stack;
        locals = locals;
        settings = settings_of (body_of rest);
        caught = false;
        bytes = [];
        rows = [];
      });
    }))))))

abbrev pub MemberMakes : Made → Statement → List NumberedLine → Made → Type 0
MemberMakes made (Class name above flags) rest next = ClassMakes made name above flags next
MemberMakes made (Implements name) rest next = InterfaceMakes made name next
MemberMakes made (Field name desc flags constant) rest next = FieldMakes made name desc flags constant next
MemberMakes made (Method name desc flags limits) rest next = MethodMakes made name desc flags limits rest next
MemberMakes made _ rest next = ⊥

abbrev pub MakesWhere : Made → Option OpenMethod → Option Statement → List NumberedLine → Made → Type 0
MakesWhere made None None rest next = ⊥
MakesWhere made (Some method) None rest next = ⊥
MakesWhere made None (Some statement) rest next = MemberMakes made statement rest next
MakesWhere made (Some method) (Some statement) rest next = OpenedMakes made method statement next

abbrev pub LineMakes : Made → NumberedLine → List NumberedLine → Made → Type 0
LineMakes made line rest next = MakesWhere made made.opened line.said rest next

-- ---- a line that passes, and one that fails

pub record Passes (made : Made) (line : NumberedLine) (rest : List NumberedLine) (next : Made) : Type 0 where
  pub stands : may_stand made line ≡ true
  pub labels : has_its_labels made line ≡ true
  pub makes : LineMakes made line rest next

-- by the first of the three that it fails
abbrev pub Fails : Made → NumberedLine → List NumberedLine → Cause → Type 0
Fails made line rest causes.Line = may_stand made line ≡ false
Fails made line rest causes.Label = (may_stand made line ≡ true) × (has_its_labels made line ≡ false)
Fails made line rest causes.Range =
    (may_stand made line ≡ true) × (has_its_labels made line ≡ true)
    × ((next : Made) → ¬ LineMakes made line rest next)

-- ---- texts

-- each line passes, and they make this in all
pub data AllPass : Made → List NumberedLine → Made → Type 0 where
  nothing_more : {made : Made} → AllPass made [] made
  first : {made next last : Made} {line : NumberedLine} {more : List NumberedLine}
      → Passes made line more next → AllPass next more last → AllPass made (line ∷ more) last

-- each line before one that fails passes
pub data FailsFirst : Made → List NumberedLine → Fault → Type 0 where
  here : {made : Made} {line : NumberedLine} {more : List NumberedLine} {cause : Cause}
      → Fails made line more cause → FailsFirst made (line ∷ more) (record { line = line.number; cause = cause })
  later : {made next : Made} {line : NumberedLine} {more : List NumberedLine} {fault : Fault}
      → Passes made line more next → FailsFirst next more fault → FailsFirst made (line ∷ more) fault

-- the lines of a text that aren't empty
abbrev pub said_in : List ℕ → List NumberedLine
said_in text = numbered 1 (lines_of text)

-- the text says the class: its lines pass, there is a class among them, and no method is without its `end`
pub record Says (text : List ℕ) (class : ClassFile) : Type 0 where
  pub made : Made
  pub lines : AllPass nothing (said_in text) made
  pub whole : is_whole made ≡ true
  pub is : class ≡ class_of made

-- the text ends too early, which is a fault of the line behind its last
pub record EndsEarly (text : List ℕ) (fault : Fault) : Type 0 where
  pub made : Made
  pub lines : AllPass nothing (said_in text) made
  pub early : is_whole made ≡ false
  pub is : fault ≡ record { line = length (lines_of text) + 1; cause = causes.Line }

abbrev pub IsFirstFault : List ℕ → Fault → Type 0
IsFirstFault text fault = FailsFirst nothing (said_in text) fault ⊎ EndsEarly text fault
