-- Sizes of code that are cut off at 2^20, and labels behind each other.
use Rattle.std.proofs.Common.{◌≡◌, ℕ, suc, ◌+◌, ◌<◌, ◌≤◌, ◌^◌, Bool, true, false, cond, nat_le, min, List, [], ◌∷◌, length, drop, get_or, add-one, drop-cons, Option, Some, None, refl, sym, ap, ◌∙◌, arith}
use Rattle.std.proofs.lemmas.Bool.Decides.{nat_tests}
use Rattle.asm_text.specs.declared.statements.Operation.{Operation}
use Rattle.asm_text.specs.declared.statements.Operation.TheVariants.{Plain, Local, Iinc, Push, Load, OfClass, OfMember, NewArray, Jump, TableSwitch, LookupSwitch}
use Rattle.asm_text.specs.declared.statements.Statement.{Statement}
use Rattle.asm_text.specs.declared.statements.Statement.TheVariants.{Class, Implements, Field, Method, Label, Instruction, Catch, End}
use Rattle.asm_text.specs.declared.texts.NumberedLine.{NumberedLine}
use Rattle.class_asm.specs.Layout.{Setting, settings_by, next_settings, where_stands, stands, pc_behind, pc_after, next_caught, next_pc, size_from}

further : (pc : ℕ) (operation : Operation) → pc ≤ pc_behind pc operation
further pc (Plain op) = omega arith
further pc (Local op index wide) = omega arith
further pc (Iinc index by wide) = omega arith
further pc (Push op value) = omega arith
further pc (Load op constant) = omega arith
further pc (OfClass op class) = omega arith
further pc (OfMember op member) = omega arith
further pc (NewArray kind) = omega arith
further pc (Jump op label) = omega arith
further pc (TableSwitch low other labels) = omega arith
further pc (LookupSwitch other cases) = omega arith

behind_it : (pc : ℕ) (statement : Statement) → pc ≤ pc_after pc statement
behind_it pc (Instruction operation) = further pc operation
behind_it pc (Class name above flags) = omega arith
behind_it pc (Implements name) = omega arith
behind_it pc (Field name desc flags constant) = omega arith
behind_it pc (Method name desc flags limits) = omega arith
behind_it pc (Label name) = omega arith
behind_it pc (Catch start end handler caught) = omega arith
behind_it pc End = omega arith

-- what is said of a line is said where it stands, and where it doesn't
by_standing : (P : ℕ → Type 0) (caught : Bool) (said : Option Statement) (skipped : ℕ) (counted : Statement → ℕ) → P skipped → ((s : Statement) → P (counted s)) → P (where_stands caught said skipped counted)
by_standing P caught None skipped counted a b = a
by_standing P caught (Some s) skipped counted a b = elim (stands caught s) as (λ v. P (cond v (counted s) skipped)) [ true ↦ b s | false ↦ a ]

counted_one : (v : Bool) (pc : ℕ) (s t : Statement) → cond v (Some t) None ≡ Some s → cond v (pc_after pc t) pc ≡ pc_after pc s
counted_one true pc s t h =
    let same : t ≡ s = cc in
    ap (pc_after pc) same
counted_one false pc s t h = absurd (cc)

pub stands_pc : (caught : Bool) (pc : ℕ) (said : Option Statement) (s : Statement) → where_stands caught said None Some ≡ Some s → next_pc caught pc said ≡ pc_after pc s
stands_pc caught pc None s h = absurd (cc)
stands_pc caught pc (Some t) s h = counted_one (stands caught t) pc s t h

behind_line : (caught : Bool) (pc : ℕ) (said : Option Statement) → pc ≤ next_pc caught pc said
behind_line caught pc said = by_standing (λ n. pc ≤ n) caught said pc (pc_after pc) (omega arith) (behind_it pc)

pub at_least : (caught : Bool) (pc : ℕ) (body : List NumberedLine) → pc ≤ size_from caught pc body
at_least caught pc [] = omega arith
at_least caught pc (line ∷ more) =
    let first = behind_line caught pc line.said in
    let others = at_least (next_caught caught line.said) (next_pc caught pc line.said) more in
    omega arith

-- what is past the end stays there
capped_size : (caught : Bool) (m n : ℕ) (body : List NumberedLine) → m ≡ min n (2 ^ 20) → min (size_from caught m body) (2 ^ 20) ≡ min (size_from caught n body) (2 ^ 20)
capped_size caught m n body h = by_test (nat_le n (2 ^ 20)) refl
  where
    by_test : (v : Bool) → nat_le n (2 ^ 20) ≡ v → min (size_from caught m body) (2 ^ 20) ≡ min (size_from caught n body) (2 ^ 20)
    by_test true is =
        let small : n ≤ 2 ^ 20 = grind (arith, nat_tests) in
        let same : m ≡ n = omega arith in
        ap (λ k. min (size_from caught k body) (2 ^ 20)) same
    by_test false is =
        let large : 2 ^ 20 < n = grind (arith, nat_tests) in
        let first : m ≤ size_from caught m body = at_least caught m body in
        let second : n ≤ size_from caught n body = at_least caught n body in
        omega arith

line_front : (i : ℕ) (body : List NumberedLine) (line : NumberedLine) → i < length body → line ≡ get_or body i line → drop i body ≡ line ∷ drop (i + 1) body
line_front i body line h is = rw (add-one, drop-cons body i line) (ap (λ x. x ∷ drop (suc i) body) (sym is))

-- one line more
pub next_size : (caught : Bool) (pc next i : ℕ) (body : List NumberedLine) (line : NumberedLine) → i < length body → line ≡ get_or body i line → next ≡ min (next_pc caught pc line.said) (2 ^ 20)
    → min (size_from (next_caught caught line.said) next (drop (i + 1) body)) (2 ^ 20) ≡ min (size_from caught pc (drop i body)) (2 ^ 20)
next_size caught pc next i body line h is e =
    let front = line_front i body line h is in
    capped_size (next_caught caught line.said) next (next_pc caught pc line.said) (drop (i + 1) body) e ∙ sym (ap (λ ls. min (size_from caught pc ls) (2 ^ 20)) front)

-- the pc behind a line of code that isn't too long
pub next_place : (caught : Bool) (pc next i size : ℕ) (body : List NumberedLine) (line : NumberedLine) → i < length body → line ≡ get_or body i line → next ≡ min (next_pc caught pc line.said) (2 ^ 20)
    → size_from caught pc (drop i body) ≡ size → size < 65536 → next ≡ next_pc caught pc line.said
next_place caught pc next i size body line h is e whole small =
    let front = line_front i body line h is in
    let rest = at_least (next_caught caught line.said) (next_pc caught pc line.said) (drop (i + 1) body) in
    let same : size_from (next_caught caught line.said) (next_pc caught pc line.said) (drop (i + 1) body) ≡ size = sym (ap (λ ls. size_from caught pc ls) front) ∙ whole in
    omega arith

pub next_whole : (caught : Bool) (pc next i : ℕ) (body : List NumberedLine) (line : NumberedLine) → i < length body → line ≡ get_or body i line → next ≡ next_pc caught pc line.said
    → size_from (next_caught caught line.said) next (drop (i + 1) body) ≡ size_from caught pc (drop i body)
next_whole caught pc next i body line h is e = rw (line_front i body line h is, e) refl

pub next_labels : (settings : List Setting) (caught : Bool) (pc next i : ℕ) (body : List NumberedLine) (line : NumberedLine) → i < length body → line ≡ get_or body i line → next ≡ next_pc caught pc line.said
    → settings_by (next_settings settings caught pc line) (next_caught caught line.said) next (drop (i + 1) body) ≡ settings_by settings caught pc (drop i body)
next_labels settings caught pc next i body line h is e = rw (line_front i body line h is, e) refl
