-- What a line of code makes of an opened method fits a class file.
use Rattle.std.proofs.Common.{◌≡◌, ℕ, ◌^◌, ◌<◌, Bool, true, false, not, nat_lt, ◌==◌, cond, List, [], ◌∷◌, ◌++◌, length, Option, Some, None, Ok, Err, refl, sym, subst, ◌∙◌, arith, length-append}
use Rattle.std.specs.Prelude.{if◌then◌else◌, codes, IfSome}
use Rattle.std.specs.List.{AllByRecursion}
use Rattle.std.specs.Result.{IfOk}
use Rattle.std.specs.Str.{bytes_eq}
use Rattle.std.proofs.lemmas.Bool.Decides.{nat_tests}
use Rattle.class_pool.specs.declared.entries.PoolEntry.{PoolEntry}
use Rattle.class_pool.specs.declared.classes.RowInfo.{RowInfo}
use Rattle.class_pool.specs.Writing.{FitsPool}
use Rattle.class_pool.specs.Fitting.{HasText, FitsRow}
use Rattle.asm_text.specs.declared.statements.Operation.{Operation}
use Rattle.asm_text.specs.declared.statements.Statement.{Statement}
use Rattle.asm_text.specs.declared.statements.Statement.TheVariants.{Label, Instruction, Catch}
use Rattle.asm_text.specs.declared.texts.NumberedLine.{NumberedLine}
use Rattle.class_asm.specs.declared.causes.Cause.TheVariants as causes
use Rattle.class_asm.specs.Needs.{need_caught}
use Rattle.class_asm.specs.Layout.{Setting, body_of, stands, is_catch, pc_behind, pc_after, setting_of, first_set, set_by, where_stands, next_caught, next_pc, next_settings, settings_by, size_from}
use Rattle.class_asm.specs.Encoding.{pc_in, pc_of, or_range, need_operand, operation_bytes}
use Rattle.class_asm.specs.Assembly.{OpenMethod, one_more, set_here, insn_line, row_line, standing_line, code_line}
use Rattle.class_asm.proofs.Sizes.{at_least}
use Rattle.class_asm.proofs.OperationSizes.{and_then, ranged, has_its_size}
use Rattle.class_asm.proofs.StatementNumbers.{either, FitsOperation, FitsStatement, FitsSaid}
use Rattle.class_asm.proofs.PoolGrows.{Keeps, itself, has_still, all_more, Added, or_range_so, caught_added, operand_added}

-- ---- labels stand within the code

abbrev pub AreSmall : List Setting → Type 0
AreSmall settings = AllByRecursion (λ (setting : Setting). setting.pc < 2 ^ 16) settings

first_small : (settings : List Setting) (setting : Setting) (earlier : Option Setting) → AreSmall settings → setting.pc < 2 ^ 16 → AreSmall (first_set settings setting earlier)
first_small settings setting None all small = all_more (λ (s : Setting). s.pc < 2 ^ 16) settings setting all small
first_small settings setting (Some earlier) all small = all

set_small : (settings : List Setting) (number pc : ℕ) (statement : Statement) → AreSmall settings → pc < 2 ^ 16 → AreSmall (set_by settings number pc statement)
set_small settings number pc (Label name) all small = first_small settings (record { name = name; line = number; pc = pc }) (setting_of settings name) all small
set_small settings number pc _ all small = all

said_small : (settings : List Setting) (caught : Bool) (number pc : ℕ) (said : Option Statement) → AreSmall settings → pc < 2 ^ 16 → AreSmall (where_stands caught said settings (set_by settings number pc))
said_small settings caught number pc None all small = all
said_small settings caught number pc (Some statement) all small = elim (stands caught statement) as (λ v. AreSmall (cond v (set_by settings number pc statement) settings)) [ true ↦ set_small settings number pc statement all small | false ↦ all ]

pub settings_small : (settings : List Setting) (caught : Bool) (pc : ℕ) (body : List NumberedLine) → AreSmall settings → size_from caught pc body < 2 ^ 16 → AreSmall (settings_by settings caught pc body)
settings_small settings caught pc [] all small = all
settings_small settings caught pc (line ∷ more) all small =
    let below = at_least caught pc (line ∷ more) in
    settings_small (next_settings settings caught pc line) (next_caught caught line.said) (next_pc caught pc line.said) more (said_small settings caught line.number pc line.said all (omega (arith, below, small))) small

setting_small : (settings : List Setting) (name : List ℕ) → AreSmall settings → IfSome (setting_of settings name) (λ s. s.pc < 2 ^ 16)
setting_small [] name all = tt
setting_small (setting ∷ more) name all = either _ (bytes_eq name setting.name) (Some setting) (setting_of more name) all.0 (setting_small more name all.1)

pc_in_small : (setting : Option Setting) → IfSome setting (λ s. s.pc < 2 ^ 16) → IfOk (pc_in setting) (λ pc. pc < 2 ^ 16)
pc_in_small None small = tt
pc_in_small (Some setting) small = small

pc_small : (settings : List Setting) (name : List ℕ) → AreSmall settings → IfOk (pc_of settings name) (λ pc. pc < 2 ^ 16)
pc_small settings name all = pc_in_small (setting_of settings name) (setting_small settings name all)

-- ---- an opened method

pub record Open (pool : List PoolEntry) (method : OpenMethod) : Type 0 where
  pub flags : method.flags < 2 ^ 16
  pub name : method.name < 2 ^ 16
  pub desc : method.desc < 2 ^ 16
  pub stack : method.stack < 2 ^ 16
  pub locals : method.locals < 2 ^ 16
  pub settings : AreSmall method.settings
  pub few_rows : length method.rows < 2 ^ 16
  pub rows : AllByRecursion FitsRow method.rows
  pub text : HasText pool (codes "Code")

-- its code, with these lines to come, isn't too long
abbrev pub HasRoom : Bool → ℕ → List NumberedLine → Type 0
HasRoom caught pc rest = size_from caught pc (body_of rest) < 2 ^ 16

pub record Coded (old : List PoolEntry) (rest : List NumberedLine) (coded : OpenMethod × List PoolEntry) : Type 0 where
  pub pool : FitsPool coded.1
  pub keeps : Keeps old coded.1
  pub method : Open coded.1 coded.0
  pub room : HasRoom coded.0.caught (length coded.0.bytes) rest

pub one_more_so : {X : Type 0} (P : List X → Type 0) (xs : List X) (x : X) → (length xs < 65535 → P (xs ++ x ∷ [])) → IfOk (one_more xs x) P
one_more_so P xs x p = ranged P (nat_lt (length xs) 65535) (xs ++ x ∷ []) (λ test. let few : length xs < 65535 = grind (arith, nat_tests) in p few)

pub longer : {X : Type 0} (xs : List X) (x : X) → length xs < 65535 → length (xs ++ x ∷ []) < 2 ^ 16
longer xs x few = let long = length-append xs (x ∷ []) in omega (arith, long, few)

here_so : (P : OpenMethod → Type 0) (number : ℕ) (setting : Option Setting) (method : OpenMethod) → P method → IfOk (set_here number setting method) P
here_so P number None method p = tt
here_so P number (Some setting) method p = by_test (setting.line == number)
  where
    by_test : (v : Bool) → IfOk (if v then Ok method else Err causes.Label) P
    by_test true = p
    by_test false = tt

moved : (a b : Bool) (m n : ℕ) (rest : List NumberedLine) → a ≡ b → m ≡ n → HasRoom b n rest → HasRoom a m rest
moved a b m n rest e f room = subst (λ (v : Bool). HasRoom v m rest) (sym e) (subst (λ (k : ℕ). HasRoom b k rest) (sym f) room)

not_caught : (caught : Bool) → not caught ≡ true → caught ≡ false
not_caught true is = absurd (cc)
not_caught false is = refl

module _ (method : OpenMethod) (pool : List PoolEntry) (rest : List NumberedLine) (fits : FitsPool pool) (open_so : Open pool method) where
  insn_fits : (operation : Operation) → FitsOperation operation → method.caught ≡ false → HasRoom false (pc_behind (length method.bytes) operation) rest → IfOk (insn_line method pool operation) (Coded pool rest)
  insn_fits operation said caught room =
      and_then _ _ (need_operand operation pool) _ (operand_added operation pool fits said) (λ needed p.
      and_then _ _ (operation_bytes method.settings (length method.bytes) needed.1 operation) _ (has_its_size method.settings (length method.bytes) needed.1 operation) (λ bytes q.
      record {
        pool = p.pool;
        keeps = p.keeps;
        method = record {
          flags = open_so.flags;
          name = open_so.name;
          desc = open_so.desc;
          stack = open_so.stack;
          locals = open_so.locals;
          settings = open_so.settings;
          few_rows = open_so.few_rows;
          rows = open_so.rows;
          text = has_still p.keeps open_so.text;
        };
        room = moved method.caught false (length (method.bytes ++ bytes)) (pc_behind (length method.bytes) operation) rest caught (length-append method.bytes bytes ∙ q) room;
      }))

  row_fits : (start end handler : List ℕ) (class : Option (List ℕ)) → HasRoom true (length method.bytes) rest → IfOk (row_line method pool start end handler class) (Coded pool rest)
  row_fits start end handler class room =
      and_then _ _ (pc_of method.settings start) _ (pc_small method.settings start open_so.settings) (λ first a.
      and_then _ _ (pc_of method.settings end) _ (pc_small method.settings end open_so.settings) (λ last b.
      and_then _ _ (pc_of method.settings handler) _ (pc_small method.settings handler open_so.settings) (λ target d.
      and_then _ _ (or_range (need_caught class pool)) _ (or_range_so (Added pool) (need_caught class pool) (caught_added class pool fits)) (λ needed p.
      let row : RowInfo = record { start = first; end = last; handler = target; catch_type = needed.1 } in
      and_then (λ rows. (length rows < 2 ^ 16) × AllByRecursion FitsRow rows) _ (one_more method.rows row) _
      (one_more_so _ method.rows row (λ few. (longer method.rows row few, all_more FitsRow method.rows row open_so.rows (record { start = a; end = b; handler = d; catch_type = p.index }))))
      (λ rows q.
      record {
        pool = p.pool;
        keeps = p.keeps;
        method = record {
          flags = open_so.flags;
          name = open_so.name;
          desc = open_so.desc;
          stack = open_so.stack;
          locals = open_so.locals;
          settings = open_so.settings;
          few_rows = q.0;
          rows = q.1;
          text = has_still p.keeps open_so.text;
        };
        room = room;
      })))))

  standing_fits : (number : ℕ) (statement : Statement) → FitsStatement statement → stands method.caught statement ≡ true → HasRoom (is_catch statement) (pc_after (length method.bytes) statement) rest
      → IfOk (standing_line method pool number statement) (Coded pool rest)
  standing_fits number (Label name) said is room =
      and_then (λ same. Coded pool rest (same, pool)) (Coded pool rest) (set_here number (setting_of method.settings name) method) _
      (here_so (λ same. Coded pool rest (same, pool)) number (setting_of method.settings name) method
      (record { pool = fits; keeps = itself pool; method = open_so; room = moved method.caught false (length method.bytes) (length method.bytes) rest (not_caught method.caught is) refl room }))
      (λ same p. p)
  standing_fits number (Instruction operation) said is room = insn_fits operation said (not_caught method.caught is) room
  standing_fits number (Catch start end handler class) said is room = row_fits start end handler class room
  standing_fits number _ said is room = tt

  said_fits : (number : ℕ) (statement : Statement) (v : Bool) → stands method.caught statement ≡ v → FitsStatement statement
      → HasRoom (cond v (is_catch statement) method.caught) (cond v (pc_after (length method.bytes) statement) (length method.bytes)) rest
      → IfOk (if v then standing_line method pool number statement else Err causes.Line) (Coded pool rest)
  said_fits number statement true is said room = standing_fits number statement said is room
  said_fits number statement false is said room = tt

  pub code_fits : (number : ℕ) (said : Option Statement) → FitsSaid said → HasRoom (next_caught method.caught said) (next_pc method.caught (length method.bytes) said) rest → IfOk (code_line method pool number said) (Coded pool rest)
  unfolding code_line
  code_fits number None said room = tt
  code_fits number (Some statement) said room = said_fits number statement (stands method.caught statement) refl said room
