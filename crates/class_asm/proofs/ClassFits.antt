-- The class that a text says fits a class file: what its lines make so far does, line by line.
use Rattle.std.proofs.Common.{◌≡◌, ℕ, ◌+◌, ◌^◌, ◌<◌, Bool, true, false, ◌&&◌, not, nat_lt, cond, List, [], ◌∷◌, length, Option, Some, None, Result, Ok, Err, refl, sym, subst, arith}
use Rattle.std.specs.Prelude.{if◌then◌else◌, codes, pos, int_lt, unsigned_abs}
use Rattle.std.specs.List.{AllByRecursion}
use Rattle.std.specs.Result.{IfOk}
use Rattle.std.proofs.lemmas.Bool.Decides.{nat_tests}
use Rattle.class_pool.specs.declared.entries.PoolEntry.{PoolEntry}
use Rattle.class_pool.specs.declared.classes.ClassFile.{ClassFile}
use Rattle.class_pool.specs.declared.classes.FieldInfo.{FieldInfo}
use Rattle.class_pool.specs.declared.classes.MethodInfo.{MethodInfo}
use Rattle.class_pool.specs.declared.classes.CodeInfo.{CodeInfo}
use Rattle.class_pool.specs.Writing.{FitsPool}
use Rattle.class_pool.specs.Fitting.{FitsConstant, FitsField, FitsCode, FitsMethod, FitsClass}
use Rattle.asm_text.specs.declared.statements.Constant as constants
use Rattle.asm_text.specs.declared.statements.Limits.{Limits}
use Rattle.asm_text.specs.declared.statements.Number.{Number}
use Rattle.asm_text.specs.declared.statements.Number.TheVariants.{Of, TooLarge}
use Rattle.asm_text.specs.declared.statements.Statement.{Statement}
use Rattle.asm_text.specs.declared.statements.Statement.TheVariants.{Class, Implements, Field, Method}
use Rattle.asm_text.specs.declared.texts.NumberedLine.{NumberedLine}
use Rattle.asm_text.specs.Lines.{lines_of}
use Rattle.asm_text.specs.Numbered.{numbered}
use Rattle.class_asm.specs.declared.causes.Cause.{Cause}
use Rattle.class_asm.specs.declared.causes.Cause.TheVariants as causes
use Rattle.class_asm.specs.declared.causes.Fault.{Fault}
use Rattle.class_asm.specs.Needs.{need_text, need_class, need_head, need_value}
use Rattle.class_asm.specs.Layout.{body_of, ends, size_of, size_from}
use Rattle.class_asm.specs.Encoding.{◌>>=◌, in_range, unsigned_in, or_range}
use Rattle.class_asm.specs.Assembly.{OpenMethod, Made, nothing, class_of, one_more, code_line, may_come, class_line, interface_line, field_line, open_line, method_line, member_line, closed, opened_line, line_by, line_in, fault_in, made_by, is_whole, ended, assembled}
use Rattle.class_asm.proofs.Sizes.{at_least}
use Rattle.class_asm.proofs.OperationSizes.{and_then, ranged, at_ok}
use Rattle.class_asm.proofs.StatementNumbers.{FitsOptional, FitsSaid, AllFit, lines_fit}
use Rattle.class_asm.proofs.PoolGrows.{Keeps, along, has_still, all_more, Added, TextAdded, HeadAdded, ValueAdded, text_added, class_added, head_added, value_added, or_range_so}
use Rattle.class_asm.proofs.CodeFits.{Open, HasRoom, one_more_so, longer, settings_small, code_fits}

-- ---- what fits a pool fits one that keeps its texts

each : {X : Type 0} (P Q : X → Type 0) → ((x : X) → P x → Q x) → (xs : List X) → AllByRecursion P xs → AllByRecursion Q xs
each P Q goes [] all = tt
each P Q goes (x ∷ xs) all = (goes x all.0, each P Q goes xs all.1)

constant_still : {old new : List PoolEntry} → Keeps old new → (constant : Option ℕ) → FitsConstant old constant → FitsConstant new constant
constant_still keeps None fits = tt
constant_still keeps (Some constant) fits = (fits.0, has_still keeps fits.1)

code_still : {old new : List PoolEntry} → Keeps old new → (code : Option CodeInfo) → FitsCode old code → FitsCode new code
code_still keeps None fits = tt
code_still keeps (Some code) fits = (fits.0, has_still keeps fits.1)

field_still : {old new : List PoolEntry} → Keeps old new → (f : FieldInfo) → FitsField old f → FitsField new f
field_still keeps f fits = record { flags = fits.flags; name = fits.name; desc = fits.desc; constant = constant_still keeps f.constant fits.constant }

method_still : {old new : List PoolEntry} → Keeps old new → (m : MethodInfo) → FitsMethod old m → FitsMethod new m
method_still keeps m fits = record { flags = fits.flags; name = fits.name; desc = fits.desc; code = code_still keeps m.code fits.code }

-- ---- what is made so far

record Parts (entries : List PoolEntry) (made : Made) : Type 0 where
  pool : FitsPool entries
  flags : made.flags < 2 ^ 16
  this_class : made.this_class < 2 ^ 16
  super_class : made.super_class < 2 ^ 16
  few_interfaces : length made.interfaces < 2 ^ 16
  interfaces : AllByRecursion (λ (index : ℕ). index < 2 ^ 16) made.interfaces
  few_fields : length made.fields < 2 ^ 16
  fields : AllByRecursion (FitsField entries) made.fields
  few_methods : length made.methods < 2 ^ 16
  methods : AllByRecursion (FitsMethod entries) made.methods

-- an opened method finds room among the methods
abbrev Opened : List PoolEntry → List NumberedLine → ℕ → Option OpenMethod → Type 0
Opened pool rest count None = Unit {0}
Opened pool rest count (Some method) = Open pool method × HasRoom method.caught (length method.bytes) rest × (count < 65535)

abbrev FitsMade : List NumberedLine → Made → Type 0
FitsMade rest made = Parts made.pool made × Opened made.pool rest (length made.methods) made.opened

grown : {old new : List PoolEntry} (made : Made) → Keeps old new → FitsPool new → Parts old made → Parts new made
grown {old = old} {new = new} made keeps pool parts = record {
  pool = pool;
  flags = parts.flags;
  this_class = parts.this_class;
  super_class = parts.super_class;
  few_interfaces = parts.few_interfaces;
  interfaces = parts.interfaces;
  few_fields = parts.few_fields;
  fields = each (FitsField old) (FitsField new) (field_still keeps) made.fields parts.fields;
  few_methods = parts.few_methods;
  methods = each (FitsMethod old) (FitsMethod new) (method_still keeps) made.methods parts.methods;
}

staged : {X : Type 0} (P : X → Type 0) (test : Bool) (next : Result X Cause) → IfOk next P → IfOk (if test then next else Err causes.Line) P
staged P true next p = p
staged P false next p = tt

below : (m n : ℕ) → nat_lt m n ≡ true → m < n
below m n test = grind (arith, nat_tests)

second : (a b : Bool) → (a && b) ≡ true → b ≡ true
second true b is = is
second false b is = absurd (cc)

unsigned_small : (number : Number) → IfOk (unsigned_in 65536 number) (λ n. n < 2 ^ 16)
unsigned_small (Of z) =
    ranged (λ (n : ℕ). n < 2 ^ 16) (not (int_lt z (pos 0)) && nat_lt (unsigned_abs z) 65536) (unsigned_abs z)
    (λ test. below (unsigned_abs z) 65536 (second (not (int_lt z (pos 0))) (nat_lt (unsigned_abs z) 65536) test))
unsigned_small TooLarge = tt

-- ---- a line of the class

module _ (made : Made) (rest : List NumberedLine) (parts : Parts made.pool made) (none : made.opened ≡ None) where
  idle : (pool : List PoolEntry) (count : ℕ) → Opened pool rest count made.opened
  idle pool count = subst (λ (o : Option OpenMethod). Opened pool rest count o) (sym none) tt

  class_line_fits : (name above : List ℕ) (flags : ℕ) → flags < 2 ^ 16 → IfOk (class_line made name above flags) (FitsMade rest)
  class_line_fits name above flags small =
      and_then _ _ (or_range (need_class name made.pool)) _ (or_range_so (Added made.pool) (need_class name made.pool) (class_added name made.pool parts.pool)) (λ this p.
      and_then _ _ (or_range (need_class above this.0)) _ (or_range_so (Added this.0) (need_class above this.0) (class_added above this.0 p.pool)) (λ upper q.
      let more = grown made (along p.keeps q.keeps) q.pool parts in (
        record {
          pool = q.pool;
          flags = small;
          this_class = p.index;
          super_class = q.index;
          few_interfaces = more.few_interfaces;
          interfaces = more.interfaces;
          few_fields = more.few_fields;
          fields = more.fields;
          few_methods = more.few_methods;
          methods = more.methods;
        },
        idle upper.0 (length made.methods),
      )))

  interface_fits : (name : List ℕ) → IfOk (interface_line made name) (FitsMade rest)
  interface_fits name =
      and_then _ _ (or_range (need_class name made.pool)) _ (or_range_so (Added made.pool) (need_class name made.pool) (class_added name made.pool parts.pool)) (λ needed p.
      let more = grown made p.keeps p.pool parts in
      and_then (λ interfaces. (length interfaces < 2 ^ 16) × AllByRecursion (λ (index : ℕ). index < 2 ^ 16) interfaces) _ (one_more made.interfaces needed.1) _
      (one_more_so _ made.interfaces needed.1 (λ few. (longer made.interfaces needed.1 few, all_more (λ (index : ℕ). index < 2 ^ 16) made.interfaces needed.1 parts.interfaces p.index)))
      (λ interfaces q. (
        record {
          pool = p.pool;
          flags = more.flags;
          this_class = more.this_class;
          super_class = more.super_class;
          few_interfaces = q.0;
          interfaces = q.1;
          few_fields = more.few_fields;
          fields = more.fields;
          few_methods = more.few_methods;
          methods = more.methods;
        },
        idle needed.0 (length made.methods),
      )))

  field_fits : (name desc : List ℕ) (flags : ℕ) (constant : Option constants.Constant) → flags < 2 ^ 16 → FitsOptional constant → IfOk (field_line made name desc flags constant) (FitsMade rest)
  field_fits name desc flags constant small said =
      and_then _ _ (or_range (need_head name desc made.pool)) _ (or_range_so (HeadAdded made.pool) (need_head name desc made.pool) (head_added name desc made.pool parts.pool)) (λ head p.
      and_then _ _ (or_range (need_value constant head.0)) _ (or_range_so (ValueAdded head.0) (need_value constant head.0) (value_added constant head.0 p.pool said)) (λ value q.
      let more = grown made (along p.keeps q.keeps) q.pool parts in
      let field : FieldInfo = record { flags = flags; name = head.1; desc = head.2; constant = value.1 } in
      let fits : FitsField value.0 field = record { flags = small; name = p.name; desc = p.desc; constant = q.value } in
      and_then (λ fields. (length fields < 2 ^ 16) × AllByRecursion (FitsField value.0) fields) _ (one_more made.fields field) _
      (one_more_so _ made.fields field (λ few. (longer made.fields field few, all_more (FitsField value.0) made.fields field more.fields fits)))
      (λ fields r. (
        record {
          pool = q.pool;
          flags = more.flags;
          this_class = more.this_class;
          super_class = more.super_class;
          few_interfaces = more.few_interfaces;
          interfaces = more.interfaces;
          few_fields = r.0;
          fields = r.1;
          few_methods = more.few_methods;
          methods = more.methods;
        },
        idle value.0 (length made.methods),
      ))))

  open_fits : (name desc : List ℕ) (flags : ℕ) (limits : Limits) → flags < 2 ^ 16 → IfOk (open_line made name desc flags limits (body_of rest)) (FitsMade rest)
  open_fits name desc flags limits small =
      and_then _ _ (or_range (need_head name desc made.pool)) _ (or_range_so (HeadAdded made.pool) (need_head name desc made.pool) (head_added name desc made.pool parts.pool)) (λ head p.
      and_then _ _ (or_range (need_text (codes "Code") head.0)) _ (or_range_so (TextAdded (codes "Code") head.0) (need_text (codes "Code") head.0) (text_added (codes "Code") head.0 p.pool)) (λ code q.
      and_then _ _ (unsigned_in 65536 limits.stack) _ (unsigned_small limits.stack) (λ stack a.
      and_then _ _ (unsigned_in 65536 limits.locals) _ (unsigned_small limits.locals) (λ locals b.
      and_then (λ (size : ℕ). size_of (body_of rest) < 2 ^ 16) _ (in_range (nat_lt (size_of (body_of rest)) 65536) (size_of (body_of rest))) _
      (ranged _ (nat_lt (size_of (body_of rest)) 65536) (size_of (body_of rest)) (λ test. below (size_of (body_of rest)) 65536 test)) (λ size short.
      and_then (λ (count : ℕ). length made.methods < 65535) _ (in_range (nat_lt (length made.methods) 65535) (length made.methods)) _
      (ranged _ (nat_lt (length made.methods) 65535) (length made.methods) (λ test. below (length made.methods) 65535 test)) (λ count few.
      let none_yet : 0 < 2 ^ 16 = omega arith in
      let more = grown made (along p.keeps q.0.keeps) q.0.pool parts in (
        record {
          pool = q.0.pool;
          flags = more.flags;
          this_class = more.this_class;
          super_class = more.super_class;
          few_interfaces = more.few_interfaces;
          interfaces = more.interfaces;
          few_fields = more.few_fields;
          fields = more.fields;
          few_methods = more.few_methods;
          methods = more.methods;
        },
        (
          record {
            flags = small;
            name = p.name;
            desc = p.desc;
            stack = a;
            locals = b;
            settings = settings_small [] false 0 (body_of rest) tt short;
            few_rows = none_yet;
            rows = tt;
            text = (code.1, q.1);
          },
          short,
          few,
        ),
      )))))))

  method_fits : (name desc : List ℕ) (flags : ℕ) (limits : Option Limits) → flags < 2 ^ 16 → IfOk (method_line made name desc flags limits rest) (FitsMade rest)
  method_fits name desc flags (Some limits) small = open_fits name desc flags limits small
  method_fits name desc flags None small =
      and_then _ _ (or_range (need_head name desc made.pool)) _ (or_range_so (HeadAdded made.pool) (need_head name desc made.pool) (head_added name desc made.pool parts.pool)) (λ head p.
      let more = grown made p.keeps p.pool parts in
      let method : MethodInfo = record { flags = flags; name = head.1; desc = head.2; code = None } in
      let fits : FitsMethod head.0 method = record { flags = small; name = p.name; desc = p.desc; code = tt } in
      and_then (λ methods. (length methods < 2 ^ 16) × AllByRecursion (FitsMethod head.0) methods) _ (one_more made.methods method) _
      (one_more_so _ made.methods method (λ few. (longer made.methods method few, all_more (FitsMethod head.0) made.methods method more.methods fits)))
      (λ methods r. (
        record {
          pool = p.pool;
          flags = more.flags;
          this_class = more.this_class;
          super_class = more.super_class;
          few_interfaces = more.few_interfaces;
          interfaces = more.interfaces;
          few_fields = more.few_fields;
          fields = more.fields;
          few_methods = r.0;
          methods = r.1;
        },
        idle head.0 (length methods),
      )))

  member_fits : (said : Option Statement) → FitsSaid said → IfOk (member_line made said rest) (FitsMade rest)
  unfolding member_line
  member_fits (Some (Class name above flags)) said = staged _ (may_come made.stage 0) (class_line made name above flags) (class_line_fits name above flags said)
  member_fits (Some (Implements name)) said = staged _ (may_come made.stage 1) (interface_line made name) (interface_fits name)
  member_fits (Some (Field name desc flags constant)) said = staged _ (may_come made.stage 2) (field_line made name desc flags constant) (field_fits name desc flags constant said.0 said.1)
  member_fits (Some (Method name desc flags limits)) said = staged _ (may_come made.stage 3) (method_line made name desc flags limits rest) (method_fits name desc flags limits said)
  member_fits _ said = tt

-- ---- a line in an opened method

module _ (made : Made) (method : OpenMethod) (line : NumberedLine) (rest : List NumberedLine) (parts : Parts made.pool made) (open_so : Open made.pool method) (few : length made.methods < 65535) where
  closed_fits : HasRoom method.caught (length method.bytes) (line ∷ rest) → FitsMade rest (closed made method)
  closed_fits room =
      let least = at_least method.caught (length method.bytes) (body_of (line ∷ rest)) in
      let code : CodeInfo = record { max_stack = method.stack; max_locals = method.locals; bytes = method.bytes; rows = method.rows } in
      let added : MethodInfo = record { flags = method.flags; name = method.name; desc = method.desc; code = Some code } in
      let fits : FitsMethod made.pool added = record {
        flags = open_so.flags;
        name = open_so.name;
        desc = open_so.desc;
        code = (record { max_stack = open_so.stack; max_locals = open_so.locals; bytes = omega (arith, least, room); few_rows = open_so.few_rows; rows = open_so.rows }, open_so.text);
      } in (
        record {
          pool = parts.pool;
          flags = parts.flags;
          this_class = parts.this_class;
          super_class = parts.super_class;
          few_interfaces = parts.few_interfaces;
          interfaces = parts.interfaces;
          few_fields = parts.few_fields;
          fields = parts.fields;
          few_methods = longer made.methods added few;
          methods = all_more (FitsMethod made.pool) made.methods added parts.methods fits;
        },
        tt,
      )

  opened_fits : HasRoom method.caught (length method.bytes) (line ∷ rest) → FitsSaid line.said → IfOk (opened_line made method line.number line.said) (FitsMade rest)
  opened_fits room said = by_end (ends line.said) room
    where
      by_end : (v : Bool) → size_from method.caught (length method.bytes) (cond v [] (line ∷ body_of rest)) < 2 ^ 16
          → IfOk (if v then Ok (closed made method) else (code_line method made.pool line.number line.said >>= (λ coded. Ok (record made { opened = Some coded.0; pool = coded.1 })))) (FitsMade rest)
      by_end true left = closed_fits room
      by_end false left =
          and_then _ _ (code_line method made.pool line.number line.said) _ (code_fits method made.pool rest parts.pool open_so line.number line.said said left) (λ coded p.
          let more = grown made p.keeps p.pool parts in (
            record {
              pool = p.pool;
              flags = more.flags;
              this_class = more.this_class;
              super_class = more.super_class;
              few_interfaces = more.few_interfaces;
              interfaces = more.interfaces;
              few_fields = more.few_fields;
              fields = more.fields;
              few_methods = more.few_methods;
              methods = more.methods;
            },
            (p.method, p.room, few),
          ))

line_fits : (made : Made) (line : NumberedLine) (rest : List NumberedLine) → FitsMade (line ∷ rest) made → FitsSaid line.said → IfOk (line_in made line rest) (FitsMade rest)
unfolding line_by
line_fits made line rest fits said = by_opened made.opened refl
  where
    by_opened : (o : Option OpenMethod) → made.opened ≡ o → IfOk (line_by made o line rest) (FitsMade rest)
    by_opened None is = member_fits made rest fits.0 is line.said said
    by_opened (Some method) is =
        let there : Opened made.pool (line ∷ rest) (length made.methods) (Some method) = subst (λ (o : Option OpenMethod). Opened made.pool (line ∷ rest) (length made.methods) o) is fits.1 in
        opened_fits made method line rest fits.0 there.0 there.2 there.1 said

-- ---- the text

faulted : {X : Type 0} (P : X → Type 0) (number : ℕ) (read : Result X Cause) → IfOk read P → IfOk (fault_in number read) P
faulted P number (Ok x) p = p
faulted P number (Err cause) p = tt

made_fits : (made : Made) (lines : List NumberedLine) → FitsMade lines made → AllFit lines → IfOk (made_by made lines) (FitsMade [])
made_fits made [] fits all = fits
made_fits made (line ∷ more) fits all =
    and_then (FitsMade more) (FitsMade []) (fault_in line.number (line_in made line more)) _ (faulted (FitsMade more) line.number (line_in made line more) (line_fits made line more fits all.0)) (λ next p. made_fits next more p all.1)

starts : (lines : List NumberedLine) → FitsMade lines nothing
starts lines =
    let none : 0 < 2 ^ 16 = omega arith in
    let few : 0 < 65535 = omega arith in (
      record {
        pool = record { few = few; entries = tt; spaced = refl };
        flags = none;
        this_class = none;
        super_class = none;
        few_interfaces = none;
        interfaces = tt;
        few_fields = none;
        fields = tt;
        few_methods = none;
        methods = tt;
      },
      tt,
    )

class_fits : (made : Made) → Parts made.pool made → FitsClass (class_of made)
class_fits made parts =
    let minor : 0 < 2 ^ 16 = omega arith in
    let major : 52 < 2 ^ 16 = omega arith in
    record {
      minor = minor;
      major = major;
      pool = parts.pool;
      flags = parts.flags;
      this_class = parts.this_class;
      super_class = parts.super_class;
      few_interfaces = parts.few_interfaces;
      interfaces = parts.interfaces;
      few_fields = parts.few_fields;
      fields = parts.fields;
      few_methods = parts.few_methods;
      methods = parts.methods;
    }

ended_fits : (count : ℕ) (made : Made) → FitsMade [] made → IfOk (ended count made) FitsClass
ended_fits count made fits = by_test (is_whole made) (record { line = count + 1; cause = causes.Line })
  where
    by_test : (v : Bool) (fault : Fault) → IfOk (if v then Ok (class_of made) else Err fault) FitsClass
    by_test true fault = class_fits made fits.0
    by_test false fault = tt

what_is_assembled : (text : List ℕ) → IfOk (assembled text) FitsClass
unfolding assembled
what_is_assembled text =
    and_then (FitsMade []) FitsClass (made_by nothing (numbered 1 (lines_of text))) _ (made_fits nothing (numbered 1 (lines_of text)) (starts (numbered 1 (lines_of text))) (lines_fit 1 (lines_of text)))
    (λ made p. ended_fits (length (lines_of text)) made p)

pub assembled_fits : (text : List ℕ) (class : ClassFile) → assembled text ≡ Ok class → FitsClass class
assembled_fits text class is = at_ok FitsClass (assembled text) class (what_is_assembled text) is
