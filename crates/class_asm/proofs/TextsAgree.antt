-- What `assembled` computes is what the relations of texts say.
use Rattle.std.proofs.Common.{◌≡◌, ◌↔◌, inl, inr, ℕ, ◌+◌, ◌<◌, Bool, true, false, ◌&&◌, not, nat_lt, ◌==◌, List, [], ◌∷◌, ◌++◌, length, Option, Some, None, Result, Ok, Err, refl, sym, subst, arith}
use Rattle.std.specs.Prelude.{if◌then◌else◌, codes}
use Rattle.std.proofs.lemmas.Bool.Decides.{nat_tests}
use Rattle.class_pool.specs.declared.entries.PoolEntry.{PoolEntry}
use Rattle.class_pool.specs.declared.classes.ClassFile.{ClassFile}
use Rattle.asm_text.specs.declared.statements.Constant.{Constant}
use Rattle.asm_text.specs.declared.statements.Limits.{Limits}
use Rattle.asm_text.specs.declared.statements.Operation.{Operation}
use Rattle.asm_text.specs.declared.statements.Statement.{Statement}
use Rattle.asm_text.specs.declared.statements.Statement.TheVariants.{Class, Implements, Field, Method, Label, Instruction, Catch, End}
use Rattle.asm_text.specs.declared.texts.NumberedLine.{NumberedLine}
use Rattle.asm_text.specs.Lines.{lines_of}
use Rattle.class_asm.specs.declared.causes.Cause.{Cause}
use Rattle.class_asm.specs.declared.causes.Cause.TheVariants as causes
use Rattle.class_asm.specs.declared.causes.Fault.{Fault}
use Rattle.class_asm.specs.Needs.{need_text, need_class, need_head, need_value, need_caught}
use Rattle.class_asm.specs.Layout.{Setting, body_of, size_of, setting_of}
use Rattle.class_asm.specs.Encoding.{◌>>=◌, in_range, unsigned_in, pc_of, or_range, is_set, need_operand, operation_bytes}
use Rattle.class_asm.specs.Assembly.{OpenMethod, Made, nothing, class_of, set_here, insn_line, row_line, code_line, may_come, class_line, interface_line, field_line, method_line, member_line, opened_line, line_by, line_in, fault_in, made_by, is_whole, ended, assembled}
use Rattle.class_asm.specs.Texts.{stands_in_class, stands_in_code, stands_where, may_stand, has_labels, is_at, labels_in_code, labels_where, has_its_labels, CodeAndPool, InsnMakes, RowMakes, OpenedMakes, ClassMakes, InterfaceMakes, FieldMakes, MethodMakes, MemberMakes, MakesWhere, LineMakes, Passes, Fails, AllPass, FailsFirst, said_in, Says, IsFirstFault}
use Rattle.class_asm.specs.Texts.AllPass.{nothing_more, first}
use Rattle.class_asm.specs.Texts.FailsFirst.{here, later}
use Rattle.class_asm.proofs.OnlyRanges.{OnlyRange, both, found, unsigned, only_ranges, operand_ranges, unset, unset_row}

same_ok : {X E : Type 0} (x y : X) → ◌≡◌ {A = Result X E} (Ok x) (Ok y) → x ≡ y
same_ok x y e = cc

same_err : {X E : Type 0} (x y : E) → ◌≡◌ {A = Result X E} (Err x) (Err y) → x ≡ y
same_err x y e = cc

same_some : {X : Type 0} (x y : X) → ◌≡◌ {A = Option X} (Some x) (Some y) → x ≡ y
same_some x y e = cc

-- ---- a step that fails by a range alone

-- it makes exactly what is said; or nothing is said, and it fails by a range
Right : {X : Type 0} → (X → Type 0) → Result X Cause → Type 0
Right {X} Is (Ok x) = Is x × ((y : X) → Is y → y ≡ x)
Right {X} Is (Err cause) = (cause ≡ causes.Range) × ((y : X) → ¬ Is y)

and_right : {A B : Type 0} (P : A → Type 0) (Q : A → B → Type 0) (read : Result A Cause) (more : A → Result B Cause) → Right P read → ((x : A) → P x → Right (Q x) (more x)) → Right (λ y. (x : A) × P x × Q x y) (read >>= more)
unfolding Right
and_right P Q (Err cause) more r goes = (r.0, λ y s. r.1 s.0 s.1)
and_right {A} {B} P Q (Ok x) more r goes = by (more x) (goes x r.0)
  where
    moved : (y : B) (a : A) → a ≡ x → Q a y → Q x y
    moved y a e q = let F : A → Type 0 = λ z. Q z y in subst F e q

    by : (b : Result B Cause) → Right (Q x) b → Right (λ y. (a : A) × P a × Q a y) b
    by (Ok y) s = ((x, r.0, s.0), λ z t. s.1 z (moved z t.0 (r.1 t.0 t.1) t.2))
    by (Err cause) s = (s.0, λ z t. s.1 z (moved z t.0 (r.1 t.0 t.1) t.2))

right_same : {X : Type 0} (read : Result X Cause) → OnlyRange read → Right (λ x. read ≡ Ok x) read
unfolding Right
right_same (Ok x) p = (refl, λ y e. same_ok y x (sym e))
right_same (Err cause) p = (p, λ y e. absurd (cc))

right_need : {X : Type 0} (needed : Option X) → Right (λ x. needed ≡ Some x) (or_range needed)
unfolding Right
right_need None = (refl, λ y e. absurd (cc))
right_need (Some x) = (refl, λ y e. same_some y x (sym e))

right_ok : {X : Type 0} (x : X) → Right (λ y. y ≡ x) (Ok x)
unfolding Right
right_ok x = (refl, λ y e. e)

right_test : {A B : Type 0} (Q : B → Type 0) (n limit : ℕ) (x : A) (more : A → Result B Cause) → Right Q (more x) → Right (λ y. (n < limit) × Q y) (in_range (nat_lt n limit) x >>= more)
unfolding Right
right_test {A} {B} Q n limit x more r = by (nat_lt n limit) refl
  where
    with_fact : n < limit → (b : Result B Cause) → Right Q b → Right (λ y. (n < limit) × Q y) b
    with_fact below (Ok y) s = ((below, s.0), λ z t. s.1 z t.1)
    with_fact below (Err cause) s = (s.0, λ z t. s.1 z t.1)

    by : (v : Bool) → nat_lt n limit ≡ v → Right (λ y. (n < limit) × Q y) (in_range v x >>= more)
    by true is = let below : n < limit = grind (arith, nat_tests) in with_fact below (more x) r
    by false is = (refl, λ y t. let below : n < limit = t.0 in absurd (grind (arith, nat_tests)))

-- ---- a line

Agrees : {X : Type 0} → Bool → Bool → (X → Type 0) → Result X Cause → Type 0
Agrees false labels Makes result = result ≡ Err causes.Line
Agrees true false Makes result = result ≡ Err causes.Label
Agrees true true Makes result = Right Makes result

-- ---- lines of code

module _ (method : OpenMethod) (pool : List PoolEntry) where
  abbrev Same : CodeAndPool → Type 0
  Same next = ◌≡◌ {A = CodeAndPool} next (method, pool)

  label_agrees : (number : ℕ) (setting : Option Setting) → Agrees true (is_at number setting) Same (set_here number setting method >>= (λ same. Ok (same, pool)))
  unfolding Agrees
  label_agrees number None = refl
  label_agrees number (Some setting) = by (setting.line == number)
    where
      by : (v : Bool) → Agrees true v Same ((if v then Ok method else Err causes.Label) >>= (λ same. Ok (same, pool)))
      by true = right_ok {X = CodeAndPool} (method, pool)
      by false = refl

  insn_agrees : (operation : Operation) (v : Bool) → has_labels method.settings operation ≡ v → Agrees true v (InsnMakes method pool operation) (insn_line method pool operation)
  unfolding Agrees
  insn_agrees operation true is =
      and_right _ _ (need_operand operation pool) _ (right_same (need_operand operation pool) (operand_ranges operation pool)) (λ needed p.
      and_right _ _ (operation_bytes method.settings (length method.bytes) needed.1 operation) _ (right_same (operation_bytes method.settings (length method.bytes) needed.1 operation) (only_ranges method.settings (length method.bytes) needed.1 operation is)) (λ bytes q.
      right_ok {X = CodeAndPool} (record method { bytes = method.bytes ++ bytes }, needed.0)))
  insn_agrees operation false is = unset {B = CodeAndPool} method.settings (length method.bytes) operation pool (λ needed bytes. Ok (record method { bytes = method.bytes ++ bytes }, needed.0)) is

  row_agrees : (start end handler : List ℕ) (class : Option (List ℕ)) (v : Bool) → (is_set method.settings start && (is_set method.settings end && is_set method.settings handler)) ≡ v
      → Agrees true v (RowMakes method pool start end handler class) (row_line method pool start end handler class)
  unfolding Agrees
  row_agrees start end handler class true is =
      let first_set = both (is_set method.settings start) (is_set method.settings end && is_set method.settings handler) is in
      let others_set = both (is_set method.settings end) (is_set method.settings handler) first_set.1 in
      and_right _ _ (pc_of method.settings start) _ (right_same (pc_of method.settings start) (found method.settings start first_set.0)) (λ from a.
      and_right _ _ (pc_of method.settings end) _ (right_same (pc_of method.settings end) (found method.settings end others_set.0)) (λ to b.
      and_right _ _ (pc_of method.settings handler) _ (right_same (pc_of method.settings handler) (found method.settings handler others_set.1)) (λ at d.
      and_right _ _ (or_range (need_caught class pool)) _ (right_need (need_caught class pool)) (λ needed p.
      right_test _ (length method.rows) 65535 _ _ (right_ok {X = CodeAndPool} _)))))
  row_agrees start end handler class false is = unset_row {B = CodeAndPool} method.settings start end handler _ is

-- a line that may stand or not, and what it adds to its method
adds : (made : Made) (v labels : Bool) (Makes : CodeAndPool → Type 0) (coded : Result CodeAndPool Cause) → Agrees true labels Makes coded
    → Agrees v labels (λ (next : Made). (c : CodeAndPool) × Makes c × (next ≡ record made { opened = Some c.0; pool = c.1 })) ((if v then coded else Err causes.Line) >>= (λ c. Ok (record made { opened = Some c.0; pool = c.1 })))
unfolding Agrees
adds made false labels Makes coded agrees = refl
adds made true false Makes coded agrees = rw agrees refl
adds made true true Makes coded agrees = and_right Makes _ coded _ agrees (λ c p. right_ok _)

opened_agrees : (made : Made) (method : OpenMethod) (number : ℕ) (statement : Statement)
    → Agrees (stands_in_code method.caught statement) (labels_in_code method number statement) (OpenedMakes made method statement) (opened_line made method number (Some statement))
unfolding Agrees code_line
opened_agrees made method number End = right_ok _
opened_agrees made method number (Label name) = adds made (not method.caught) _ _ _ (label_agrees method made.pool number (setting_of method.settings name))
opened_agrees made method number (Instruction operation) = adds made (not method.caught) _ _ _ (insn_agrees method made.pool operation (has_labels method.settings operation) refl)
opened_agrees made method number (Catch start end handler class) = adds made true _ _ _ (row_agrees method made.pool start end handler class _ refl)
opened_agrees made method number (Class name above flags) = refl
opened_agrees made method number (Implements name) = refl
opened_agrees made method number (Field name desc flags constant) = refl
opened_agrees made method number (Method name desc flags limits) = refl

-- ---- lines of the class

staged : (v : Bool) (Makes : Made → Type 0) (next : Result Made Cause) → Right Makes next → Agrees v true Makes (if v then next else Err causes.Line)
unfolding Agrees
staged true Makes next right = right
staged false Makes next right = refl

module _ (made : Made) where
  class_right : (name above : List ℕ) (flags : ℕ) → Right (ClassMakes made name above flags) (class_line made name above flags)
  class_right name above flags =
      and_right _ _ (or_range (need_class name made.pool)) _ (right_need (need_class name made.pool)) (λ this p.
      and_right _ _ (or_range (need_class above this.0)) _ (right_need (need_class above this.0)) (λ upper q. right_ok _))

  interface_right : (name : List ℕ) → Right (InterfaceMakes made name) (interface_line made name)
  interface_right name =
      and_right _ _ (or_range (need_class name made.pool)) _ (right_need (need_class name made.pool)) (λ needed p.
      right_test _ (length made.interfaces) 65535 _ _ (right_ok _))

  field_right : (name desc : List ℕ) (flags : ℕ) (constant : Option Constant) → Right (FieldMakes made name desc flags constant) (field_line made name desc flags constant)
  field_right name desc flags constant =
      and_right _ _ (or_range (need_head name desc made.pool)) _ (right_need (need_head name desc made.pool)) (λ head p.
      and_right _ _ (or_range (need_value constant head.0)) _ (right_need (need_value constant head.0)) (λ value q.
      right_test _ (length made.fields) 65535 _ _ (right_ok _)))

  method_right : (name desc : List ℕ) (flags : ℕ) (limits : Option Limits) (rest : List NumberedLine) → Right (MethodMakes made name desc flags limits rest) (method_line made name desc flags limits rest)
  method_right name desc flags None rest =
      and_right _ _ (or_range (need_head name desc made.pool)) _ (right_need (need_head name desc made.pool)) (λ head p.
      right_test _ (length made.methods) 65535 _ _ (right_ok _))
  method_right name desc flags (Some limits) rest =
      and_right _ _ (or_range (need_head name desc made.pool)) _ (right_need (need_head name desc made.pool)) (λ head p.
      and_right _ _ (or_range (need_text (codes "Code") head.0)) _ (right_need (need_text (codes "Code") head.0)) (λ code q.
      and_right _ _ (unsigned_in 65536 limits.stack) _ (right_same (unsigned_in 65536 limits.stack) (unsigned 65536 limits.stack)) (λ stack r.
      and_right _ _ (unsigned_in 65536 limits.locals) _ (right_same (unsigned_in 65536 limits.locals) (unsigned 65536 limits.locals)) (λ locals s.
      right_test _ (size_of (body_of rest)) 65536 _ _ (right_test _ (length made.methods) 65535 _ _ (right_ok _))))))

  member_agrees : (statement : Statement) (rest : List NumberedLine) → Agrees (stands_in_class made.stage statement) true (MemberMakes made statement rest) (member_line made (Some statement) rest)
  unfolding Agrees member_line
  member_agrees (Class name above flags) rest = staged (may_come made.stage 0) _ (class_line made name above flags) (class_right name above flags)
  member_agrees (Implements name) rest = staged (may_come made.stage 1) _ (interface_line made name) (interface_right name)
  member_agrees (Field name desc flags constant) rest = staged (may_come made.stage 2) _ (field_line made name desc flags constant) (field_right name desc flags constant)
  member_agrees (Method name desc flags limits) rest = staged (may_come made.stage 3) _ (method_line made name desc flags limits rest) (method_right name desc flags limits rest)
  member_agrees _ rest = refl

-- ---- any line

module _ (made : Made) (line : NumberedLine) (rest : List NumberedLine) where
  where_it_is : (opened : Option OpenMethod) (number : ℕ) (said : Option Statement)
      → Agrees (stands_where made opened said) (labels_where opened number said) (MakesWhere made opened said rest) (line_by made opened (record { number = number; said = said }) rest)
  unfolding Agrees line_by member_line code_line
  where_it_is None number None = refl
  where_it_is (Some method) number None = refl
  where_it_is None number (Some statement) = member_agrees made statement rest
  where_it_is (Some method) number (Some statement) = opened_agrees made method number statement

  agrees : Agrees (may_stand made line) (has_its_labels made line) (LineMakes made line rest) (line_in made line rest)
  agrees = where_it_is made.opened line.number line.said

  pass : (next : Made) → line_in made line rest ≡ Ok next → Passes made line rest next
  unfolding Agrees Right
  pass next is = by (may_stand made line) (has_its_labels made line) refl refl (line_in made line rest) is agrees
    where
      by : (v w : Bool) → may_stand made line ≡ v → has_its_labels made line ≡ w → (r : Result Made Cause) → r ≡ Ok next → Agrees v w (LineMakes made line rest) r → Passes made line rest next
      by false w stands labels r e a = absurd (cc)
      by true false stands labels r e a = absurd (cc)
      by true true stands labels (Ok x) e a = let P : Made → Type 0 = LineMakes made line rest in record { stands = stands; labels = labels; makes = subst P (same_ok x next e) a.0 }
      by true true stands labels (Err cause) e a = absurd (cc)

  passed : (next : Made) → Passes made line rest next → line_in made line rest ≡ Ok next
  unfolding Agrees Right
  passed next p = by (may_stand made line) (has_its_labels made line) p.stands p.labels (line_in made line rest) agrees
    where
      by : (v w : Bool) → v ≡ true → w ≡ true → (r : Result Made Cause) → Agrees v w (LineMakes made line rest) r → r ≡ Ok next
      by false w stands labels r a = absurd (cc)
      by true false stands labels r a = absurd (cc)
      by true true stands labels (Ok x) a = let e : next ≡ x = a.1 next p.makes in cc
      by true true stands labels (Err cause) a = absurd (a.1 next p.makes)

  abbrev FailsBy : Cause → Type 0
  FailsBy cause = Fails made line rest cause

  fail : (cause : Cause) → line_in made line rest ≡ Err cause → Fails made line rest cause
  unfolding Agrees Right
  fail cause is = by (may_stand made line) (has_its_labels made line) refl refl (line_in made line rest) is agrees
    where
      by : (v w : Bool) → may_stand made line ≡ v → has_its_labels made line ≡ w → (r : Result Made Cause) → r ≡ Err cause → Agrees v w (LineMakes made line rest) r → Fails made line rest cause
      by false w stands labels r e a = let same : causes.Line ≡ cause = same_err {X = Made} causes.Line cause (cc) in subst FailsBy same stands
      by true false stands labels r e a = let same : causes.Label ≡ cause = same_err {X = Made} causes.Label cause (cc) in subst FailsBy same (stands, labels)
      by true true stands labels (Ok x) e a = absurd (cc)
      by true true stands labels (Err c) e a = let same : causes.Range ≡ cause = cc in subst FailsBy same (stands, labels, a.1)

  failed : (cause : Cause) → Fails made line rest cause → line_in made line rest ≡ Err cause
  unfolding Agrees Right
  failed causes.Line f = by (may_stand made line) (has_its_labels made line) f agrees
    where
      by : (v w : Bool) → v ≡ false → Agrees v w (LineMakes made line rest) (line_in made line rest) → line_in made line rest ≡ Err causes.Line
      by false w e a = a
      by true w e a = absurd (cc)
  failed causes.Label f = by (may_stand made line) (has_its_labels made line) f.0 f.1 agrees
    where
      by : (v w : Bool) → v ≡ true → w ≡ false → Agrees v w (LineMakes made line rest) (line_in made line rest) → line_in made line rest ≡ Err causes.Label
      by false w e d a = absurd (cc)
      by true false e d a = a
      by true true e d a = absurd (cc)
  failed causes.Range f = by (may_stand made line) (has_its_labels made line) f.0 f.1 (line_in made line rest) agrees
    where
      by : (v w : Bool) → v ≡ true → w ≡ true → (r : Result Made Cause) → Agrees v w (LineMakes made line rest) r → r ≡ Err causes.Range
      by false w e d r a = absurd (cc)
      by true false e d r a = absurd (cc)
      by true true e d (Ok x) a = absurd (f.2 x a.0)
      by true true e d (Err c) a = let same : c ≡ causes.Range = a.0 in cc

-- ---- the lines one behind another

all_pass : (made : Made) (lines : List NumberedLine) (last : Made) → made_by made lines ≡ Ok last → AllPass made lines last
all_pass made [] last is = let P : Made → Type 0 = AllPass made [] in subst P (same_ok {E = Fault} made last is) nothing_more
all_pass made (line ∷ more) last is = by (line_in made line more) refl is (λ next e. all_pass next more last e)
  where
    by : (r : Result Made Cause) → line_in made line more ≡ r → (fault_in line.number r >>= (λ next. made_by next more)) ≡ Ok last
        → ((next : Made) → made_by next more ≡ Ok last → AllPass next more last) → AllPass made (line ∷ more) last
    by (Ok next) e so again = first (pass made line more next e) (again next so)
    by (Err cause) e so again = absurd (cc)

all_passed : (made : Made) (lines : List NumberedLine) (last : Made) → AllPass made lines last → made_by made lines ≡ Ok last
all_passed made _ _ nothing_more = refl
all_passed made _ last (first {next = next} {line = line} {more = more} p others) = rw (passed made line more next p) (all_passed next more last others)

fails_first : (made : Made) (lines : List NumberedLine) (fault : Fault) → made_by made lines ≡ Err fault → FailsFirst made lines fault
fails_first made [] fault is = absurd (cc)
fails_first made (line ∷ more) fault is = by (line_in made line more) refl is (λ next e. fails_first next more fault e)
  where
    by : (r : Result Made Cause) → line_in made line more ≡ r → (fault_in line.number r >>= (λ next. made_by next more)) ≡ Err fault
        → ((next : Made) → made_by next more ≡ Err fault → FailsFirst next more fault) → FailsFirst made (line ∷ more) fault
    by (Ok next) e so again = later (pass made line more next e) (again next so)
    by (Err cause) e so again =
        let P : Fault → Type 0 = FailsFirst made (line ∷ more) in
        subst P (same_err {X = Made} (record { line = line.number; cause = cause }) fault so) (here (fail made line more cause e))

failed_first : (made : Made) (lines : List NumberedLine) (fault : Fault) → FailsFirst made lines fault → made_by made lines ≡ Err fault
failed_first made _ _ (here {line = line} {more = more} {cause = cause} f) = rw (failed made line more cause f) refl
failed_first made _ fault (later {next = next} {line = line} {more = more} p others) = rw (passed made line more next p) (failed_first next more fault others)

-- ---- the text

module _ (text : List ℕ) where
  abbrev early_fault : Fault
  early_fault = record { line = length (lines_of text) + 1; cause = causes.Line }

  says_it : (class : ClassFile) (r : Result Made Fault) → made_by nothing (said_in text) ≡ r → (r >>= ended (length (lines_of text))) ≡ Ok class → Says text class
  says_it class (Ok made) e so = whole (is_whole made) refl so
    where
      whole : (v : Bool) → is_whole made ≡ v → (if v then Ok (class_of made) else Err early_fault) ≡ Ok class → Says text class
      whole true w so = record { made = made; lines = all_pass nothing (said_in text) made e; whole = w; is = sym (same_ok {E = Fault} (class_of made) class so) }
      whole false w so = absurd (cc)
  says_it class (Err fault) e so = absurd (cc)

  faults_so : (fault : Fault) (r : Result Made Fault) → made_by nothing (said_in text) ≡ r → (r >>= ended (length (lines_of text))) ≡ Err fault → IsFirstFault text fault
  faults_so fault (Ok made) e so = early (is_whole made) refl so
    where
      early : (v : Bool) → is_whole made ≡ v → (if v then Ok (class_of made) else Err early_fault) ≡ Err fault → IsFirstFault text fault
      early true w so = absurd (cc)
      early false w so = inr (record { made = made; lines = all_pass nothing (said_in text) made e; early = w; is = sym (same_err {X = ClassFile} early_fault fault so) })
  faults_so fault (Err f) e so = let P : Fault → Type 0 = FailsFirst nothing (said_in text) in inl (subst P (same_err {X = ClassFile} f fault so) (fails_first nothing (said_in text) f e))

  pub says : (class : ClassFile) → (assembled text ≡ Ok class) ↔ Says text class
  unfolding assembled
  says class = (λ is. says_it class (made_by nothing (said_in text)) refl is, λ s. rw (all_passed nothing (said_in text) s.made s.lines, s.whole, s.is) refl)

  pub faults : (fault : Fault) → (assembled text ≡ Err fault) ↔ IsFirstFault text fault
  unfolding assembled
  faults fault = (
    λ is. faults_so fault (made_by nothing (said_in text)) refl is,
    λ f. elim f [ inl early ↦ rw (failed_first nothing (said_in text) fault early) refl | inr late ↦ rw (all_passed nothing (said_in text) late.made late.lines, late.early, late.is) refl ],
  )
