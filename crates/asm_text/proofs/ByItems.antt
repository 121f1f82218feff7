-- What a line is read as is what its items say.
use Rattle.std.proofs.Common.{◌≡◌, ◌↔◌, ◌∙◌, ℕ, ◌-◌, Bool, true, false, ◌&&◌, not, List, [], ◌∷◌, length, take, Option, Some, None, option_map, refl, sym, ap, subst}
use Rattle.std.specs.Prelude.{if◌then◌else◌, codes, IfSome}
use Rattle.std.specs.Str.{bytes_eq}
use Rattle.std.proofs.lemmas.Slice.Eq.{bytes_eq-Decides}
use Rattle.jo_insn.specs.Opcodes.{Opcode, opcodes, first_row, operands_of, opcode_named}
use Rattle.asm_text.specs.declared.statements.Constant.{Constant}
use Rattle.asm_text.specs.declared.statements.Limits.{Limits}
use Rattle.asm_text.specs.declared.statements.Statement.{Statement}
use Rattle.asm_text.specs.declared.statements.Statement.TheVariants.{Class, Implements, Field, Method, Label, Instruction, Catch, End}
use Rattle.asm_text.specs.declared.words.Kind.TheVariants.{ClassName, MemberName, FieldDesc, MethodDesc}
use Rattle.asm_text.specs.Lines.{items_of, ends_in_space}
use Rattle.asm_text.specs.Words.{◌>>=◌, passing, name_of_kind, label_in, number_in, flags_in}
use Rattle.asm_text.specs.Statements.{Items, item_by, named, behind_word, at_end, flag_words, constant_in, class_words, implements_words, value_words, field_words, limit_words, method_words, caught_in, catch_words, operand_words, insn_words, ends_in_colon, label_set, words, line_words, statement_of}
use Rattle.asm_text.specs.Grammar.{Says, IsLine}
use Rattle.asm_text.specs.Grammar.Says.{class as says_class, implements as says_implements, field as says_field, field_with_value as says_field_with_value, method as says_method, method_with_code as says_method_with_code, label as says_label, instruction as says_instruction, catch as says_catch, end as says_end}

-- ---- what holds of what is read, if anything is

and_then : {A B : Type 0} (P : A → Type 0) (Q : B → Type 0) (read : Option A) (more : A → Option B) → IfSome read P → ((x : A) → P x → IfSome (more x) Q) → IfSome (read >>= more) Q
and_then P Q None more p goes = tt
and_then P Q (Some x) more p goes = goes x p

weaker : {A : Type 0} (P Q : A → Type 0) (read : Option A) → IfSome read P → ((x : A) → P x → Q x) → IfSome read Q
weaker P Q None p goes = tt
weaker P Q (Some x) p goes = goes x p

itself : {A : Type 0} (read : Option A) → IfSome read (λ x. read ≡ Some x)
itself None = tt
itself (Some x) = refl

at_some : {A : Type 0} (P : A → Type 0) (read : Option A) (x : A) → IfSome read P → read ≡ Some x → P x
at_some P read x p is = let F : Option _ → Type 0 = λ o. IfSome o P in subst F is p

same_words : (a b : List ℕ) → bytes_eq a b ≡ true → a ≡ b
same_words a b is = (bytes_eq-Decides a b).0 is

on : {A : Type 0} (x : A) {xs ys : List A} → xs ≡ ys → x ∷ xs ≡ x ∷ ys
on {A} x e = ap (λ (zs : List A). x ∷ zs) e

-- ---- items

-- the first item, and what is read of it
abbrev First : {A : Type 0} → (List ℕ → Option A) → Items → A × Items → Type 0
First read items r = (item : List ℕ) × (items ≡ item ∷ r.1) × (read item ≡ Some r.0)

item_so : {A : Type 0} (read : List ℕ → Option A) (items : Items) → IfSome (item_by read items) (First read items)
item_so read [] = tt
item_so {A} read (item ∷ more) = by (read item) refl
  where
    by : (o : Option A) → read item ≡ o → IfSome (o >>= (λ x. Some (x, more))) (First read (item ∷ more))
    by None e = tt
    by (Some x) e = (item, refl, e)

word_so : (word : List ℕ) (items : Items) → IfSome (behind_word word items) (λ rest. items ≡ word ∷ rest)
word_so word [] = tt
word_so word (item ∷ more) = by (bytes_eq item word) refl
  where
    by : (v : Bool) → bytes_eq item word ≡ v → IfSome (passing v more) (λ rest. item ∷ more ≡ word ∷ rest)
    by true e = ap (λ w. w ∷ more) (same_words item word e)
    by false e = tt

end_so : {A : Type 0} (Q : A → Type 0) (items : Items) (x : A) → (items ≡ [] → Q x) → IfSome (at_end items x) Q
end_so Q [] x p = p refl
end_so Q (item ∷ more) x p = tt

-- `flags` and the flags
abbrev FlagsFirst : Items → ℕ × Items → Type 0
FlagsFirst items r = (f : List ℕ) × (items ≡ codes "flags" ∷ f ∷ r.1) × (flags_in f ≡ Some r.0)

flags_so : (items : Items) → IfSome (flag_words items) (FlagsFirst items)
flags_so items =
    and_then (λ rest. items ≡ codes "flags" ∷ rest) (FlagsFirst items) (behind_word (codes "flags") items) (λ rest. item_by flags_in rest) (word_so (codes "flags") items) (λ rest e.
    weaker (First flags_in rest) (FlagsFirst items) (item_by flags_in rest) (item_so flags_in rest) (λ r p. (p.0, e ∙ on (codes "flags") p.1, p.2)))

-- ---- lines of the class

class_so : (items : Items) → IfSome (class_words items) (λ s. Says s (codes "class" ∷ items))
class_so items =
    and_then (First (name_of_kind ClassName) items) _ (named ClassName items) _ (item_so (name_of_kind ClassName) items) (λ name p.
    and_then (λ rest. name.1 ≡ codes "super" ∷ rest) _ (behind_word (codes "super") name.1) _ (word_so (codes "super") name.1) (λ rest q.
    and_then (First (name_of_kind ClassName) rest) _ (named ClassName rest) _ (item_so (name_of_kind ClassName) rest) (λ above r.
    and_then (FlagsFirst above.1) _ (flag_words above.1) _ (flags_so above.1) (λ flags t.
    end_so (λ s. Says s (codes "class" ∷ items)) flags.1 (Class name.0 above.0 flags.0) (λ none.
    let e : items ≡ p.0 ∷ codes "super" ∷ r.0 ∷ codes "flags" ∷ t.0 ∷ [] = p.1 ∙ on p.0 (q ∙ on (codes "super") (r.1 ∙ on r.0 (t.1 ∙ on (codes "flags") (on t.0 none)))) in
    let P : Items → Type 0 = λ xs. Says (Class name.0 above.0 flags.0) (codes "class" ∷ xs) in
    subst P (sym e) (says_class p.2 r.2 t.2))))))

implements_so : (items : Items) → IfSome (implements_words items) (λ s. Says s (codes "implements" ∷ items))
implements_so items =
    and_then (First (name_of_kind ClassName) items) _ (named ClassName items) _ (item_so (name_of_kind ClassName) items) (λ name p.
    end_so (λ s. Says s (codes "implements" ∷ items)) name.1 (Implements name.0) (λ none.
    let e : items ≡ p.0 ∷ [] = p.1 ∙ on p.0 none in
    let P : Items → Type 0 = λ xs. Says (Implements name.0) (codes "implements" ∷ xs) in
    subst P (sym e) (says_implements p.2)))

-- `value` and a constant, or nothing
Value : Items → Option Constant → Type 0
Value items None = items ≡ []
Value items (Some constant) = (c : List ℕ) × (items ≡ codes "value" ∷ c ∷ []) × (constant_in c ≡ Some constant)

value_so : (items : Items) → IfSome (value_words items) (Value items)
unfolding Value
value_so [] = refl
value_so (item ∷ more) =
    and_then (λ rest. item ∷ more ≡ codes "value" ∷ rest) (Value (item ∷ more)) (behind_word (codes "value") (item ∷ more)) _ (word_so (codes "value") (item ∷ more)) (λ rest q.
    and_then (First constant_in rest) (Value (item ∷ more)) (item_by constant_in rest) _ (item_so constant_in rest) (λ constant p.
    end_so (Value (item ∷ more)) constant.1 (Some constant.0) (λ none. (p.0, q ∙ on (codes "value") (p.1 ∙ on p.0 none), p.2))))

field_so : (items : Items) → IfSome (field_words items) (λ s. Says s (codes "field" ∷ items))
unfolding Value
field_so items =
    and_then (First (name_of_kind MemberName) items) _ (named MemberName items) _ (item_so (name_of_kind MemberName) items) (λ name p.
    and_then (First (name_of_kind FieldDesc) name.1) _ (named FieldDesc name.1) _ (item_so (name_of_kind FieldDesc) name.1) (λ desc q.
    and_then (FlagsFirst desc.1) _ (flag_words desc.1) _ (flags_so desc.1) (λ flags t.
    and_then (Value flags.1) _ (value_words flags.1) _ (value_so flags.1) (λ constant v.
    by name.0 desc.0 flags.0 p.0 q.0 t.0 flags.1 (p.1 ∙ on p.0 (q.1 ∙ on q.0 t.1)) p.2 q.2 t.2 constant v))))
  where
    by : (name desc : List ℕ) (flags : ℕ) (n d f : List ℕ) (rest : Items) → items ≡ n ∷ d ∷ codes "flags" ∷ f ∷ rest → name_of_kind MemberName n ≡ Some name → name_of_kind FieldDesc d ≡ Some desc → flags_in f ≡ Some flags
        → (constant : Option Constant) → Value rest constant → Says (Field name desc flags constant) (codes "field" ∷ items)
    by name desc flags n d f rest e a b c None v =
        let P : Items → Type 0 = λ xs. Says (Field name desc flags None) (codes "field" ∷ xs) in
        subst P (sym (e ∙ on n (on d (on (codes "flags") (on f v))))) (says_field a b c)
    by name desc flags n d f rest e a b c (Some constant) v =
        let P : Items → Type 0 = λ xs. Says (Field name desc flags (Some constant)) (codes "field" ∷ xs) in
        subst P (sym (e ∙ on n (on d (on (codes "flags") (on f v.1))))) (says_field_with_value a b c v.2)

-- `stack` and `locals` with their numbers, or nothing
Limited : Items → Option Limits → Type 0
Limited items None = items ≡ []
Limited items (Some limits) =
    (s : List ℕ) × (l : List ℕ) × (items ≡ codes "stack" ∷ s ∷ codes "locals" ∷ l ∷ []) × (number_in s ≡ Some limits.stack) × (number_in l ≡ Some limits.locals)

limits_so : (items : Items) → IfSome (limit_words items) (Limited items)
unfolding Limited
limits_so [] = refl
limits_so (item ∷ more) =
    and_then (λ rest. item ∷ more ≡ codes "stack" ∷ rest) (Limited (item ∷ more)) (behind_word (codes "stack") (item ∷ more)) _ (word_so (codes "stack") (item ∷ more)) (λ first q.
    and_then (First number_in first) (Limited (item ∷ more)) (item_by number_in first) _ (item_so number_in first) (λ stack p.
    and_then (λ rest. stack.1 ≡ codes "locals" ∷ rest) (Limited (item ∷ more)) (behind_word (codes "locals") stack.1) _ (word_so (codes "locals") stack.1) (λ second r.
    and_then (First number_in second) (Limited (item ∷ more)) (item_by number_in second) _ (item_so number_in second) (λ locals t.
    end_so (Limited (item ∷ more)) locals.1 (Some (record { stack = stack.0; locals = locals.0 })) (λ none.
    (p.0, t.0, q ∙ on (codes "stack") (p.1 ∙ on p.0 (r ∙ on (codes "locals") (t.1 ∙ on t.0 none))), p.2, t.2))))))

method_so : (items : Items) → IfSome (method_words items) (λ s. Says s (codes "method" ∷ items))
unfolding Limited
method_so items =
    and_then (First (name_of_kind MemberName) items) _ (named MemberName items) _ (item_so (name_of_kind MemberName) items) (λ name p.
    and_then (First (name_of_kind MethodDesc) name.1) _ (named MethodDesc name.1) _ (item_so (name_of_kind MethodDesc) name.1) (λ desc q.
    and_then (FlagsFirst desc.1) _ (flag_words desc.1) _ (flags_so desc.1) (λ flags t.
    and_then (Limited flags.1) _ (limit_words flags.1) _ (limits_so flags.1) (λ limits v.
    by name.0 desc.0 flags.0 p.0 q.0 t.0 flags.1 (p.1 ∙ on p.0 (q.1 ∙ on q.0 t.1)) p.2 q.2 t.2 limits v))))
  where
    by : (name desc : List ℕ) (flags : ℕ) (n d f : List ℕ) (rest : Items) → items ≡ n ∷ d ∷ codes "flags" ∷ f ∷ rest → name_of_kind MemberName n ≡ Some name → name_of_kind MethodDesc d ≡ Some desc → flags_in f ≡ Some flags
        → (limits : Option Limits) → Limited rest limits → Says (Method name desc flags limits) (codes "method" ∷ items)
    by name desc flags n d f rest e a b c None v =
        let P : Items → Type 0 = λ xs. Says (Method name desc flags None) (codes "method" ∷ xs) in
        subst P (sym (e ∙ on n (on d (on (codes "flags") (on f v))))) (says_method a b c)
    by name desc flags n d f rest e a b c (Some limits) v =
        let P : Items → Type 0 = λ xs. Says (Method name desc flags (Some limits)) (codes "method" ∷ xs) in
        subst P (sym (e ∙ on n (on d (on (codes "flags") (on f v.2))))) (says_method_with_code a b c v.3 v.4)

-- ---- lines of code

catch_so : (items : Items) → IfSome (catch_words items) (λ s. Says s (codes "catch" ∷ items))
catch_so items =
    and_then (First label_in items) _ (item_by label_in items) _ (item_so label_in items) (λ start p.
    and_then (First label_in start.1) _ (item_by label_in start.1) _ (item_so label_in start.1) (λ end q.
    and_then (First label_in end.1) _ (item_by label_in end.1) _ (item_so label_in end.1) (λ handler r.
    and_then (First caught_in handler.1) _ (item_by caught_in handler.1) _ (item_so caught_in handler.1) (λ caught t.
    end_so (λ s. Says s (codes "catch" ∷ items)) caught.1 (Catch start.0 end.0 handler.0 caught.0) (λ none.
    let e : items ≡ p.0 ∷ q.0 ∷ r.0 ∷ t.0 ∷ [] = p.1 ∙ on p.0 (q.1 ∙ on q.0 (r.1 ∙ on r.0 (t.1 ∙ on t.0 none))) in
    let P : Items → Type 0 = λ xs. Says (Catch start.0 end.0 handler.0 caught.0) (codes "catch" ∷ xs) in
    subst P (sym e) (says_catch p.2 q.2 r.2 t.2))))))

end_line_so : (items : Items) → IfSome (at_end items End) (λ s. Says s (codes "end" ∷ items))
end_line_so items = end_so (λ s. Says s (codes "end" ∷ items)) items End (λ none. let P : Items → Type 0 = λ xs. Says End (codes "end" ∷ xs) in subst P (sym none) says_end)

label_so : (word : List ℕ) (items : Items) → ends_in_colon word ≡ true → IfSome (label_set word items) (λ s. Says s (word ∷ items))
label_so word items colon =
    and_then (λ name. label_in (take (length word - 1) word) ≡ Some name) _ (label_in (take (length word - 1) word)) _ (itself (label_in (take (length word - 1) word))) (λ name p.
    end_so (λ s. Says s (word ∷ items)) items (Label name) (λ none. let P : Items → Type 0 = λ xs. Says (Label name) (word ∷ xs) in subst P (sym none) (says_label colon p)))

insn_so : (word : List ℕ) (items : Items) → IfSome (insn_words word items) (λ s. Says s (word ∷ items))
insn_so word items =
    and_then (λ op. opcode_named word ≡ Some op) _ (opcode_named word) _ (itself (opcode_named word)) (λ op p.
    and_then (λ operation. operand_words op items (operands_of op) ≡ Some operation) _ (operand_words op items (operands_of op)) _ (itself (operand_words op items (operands_of op))) (λ operation q.
    says_instruction p q))

-- ---- any line

keyed : (word key : List ℕ) (items : Items) (this other : Option Statement) → IfSome this (λ s. Says s (key ∷ items)) → IfSome other (λ s. Says s (word ∷ items))
    → IfSome (if bytes_eq word key then this else other) (λ s. Says s (word ∷ items))
keyed word key items this other p q = by (bytes_eq word key) refl
  where
    by : (v : Bool) → bytes_eq word key ≡ v → IfSome (if v then this else other) (λ s. Says s (word ∷ items))
    by true e = let P : List ℕ → Type 0 = λ w. IfSome this (λ s. Says s (w ∷ items)) in subst P (sym (same_words word key e)) p
    by false e = q

words_so : (word : List ℕ) (items : Items) → IfSome (words word items) (λ s. Says s (word ∷ items))
unfolding words
words_so word items =
    keyed word (codes "class") items _ _ (class_so items) (keyed word (codes "implements") items _ _ (implements_so items) (keyed word (codes "field") items _ _ (field_so items) (keyed word (codes "method") items _ _ (method_so items)
    (keyed word (codes "catch") items _ _ (catch_so items) (keyed word (codes "end") items _ _ (end_line_so items) (by (ends_in_colon word) refl))))))
  where
    by : (v : Bool) → ends_in_colon word ≡ v → IfSome (if v then label_set word items else insn_words word items) (λ s. Says s (word ∷ items))
    by true e = label_so word items e
    by false e = insn_so word items

-- ---- words that are no keywords

abbrev all_rows : (Opcode → Bool) → List Opcode → Bool
all_rows test [] = true
all_rows test (row ∷ rows) = test row && all_rows test rows

both : (a b : Bool) → (a && b) ≡ true → (a ≡ true) × (b ≡ true)
both true b e = (refl, e)
both false b e = absurd (cc)

first_row_is : (test passes : Opcode → Bool) (rows : List Opcode) (found : Opcode) → all_rows test rows ≡ true → first_row passes rows ≡ Some found → (test found ≡ true) × (passes found ≡ true)
first_row_is test passes [] found all is = absurd (cc)
first_row_is test passes (row ∷ rows) found all is = by (passes row) refl is (λ later. first_row_is test passes rows found parts.1 later)
  where
    parts : (test row ≡ true) × (all_rows test rows ≡ true)
    parts = both (test row) (all_rows test rows) all

    by : (v : Bool) → passes row ≡ v → (if v then Some row else first_row passes rows) ≡ Some found
        → (first_row passes rows ≡ Some found → (test found ≡ true) × (passes found ≡ true)) → (test found ≡ true) × (passes found ≡ true)
    by true passed this again =
        let same : row ≡ found = cc in
        let P : Opcode → Type 0 = λ r. (test r ≡ true) × (passes r ≡ true) in
        subst P same (parts.0, passed)
    by false passed later again = again later

-- no opcode's name is a keyword or ends in a `:`
abbrev is_keyword : List ℕ → Bool
is_keyword word =
    if bytes_eq word (codes "class") then true
    else if bytes_eq word (codes "implements") then true
    else if bytes_eq word (codes "field") then true
    else if bytes_eq word (codes "method") then true
    else if bytes_eq word (codes "catch") then true
    else if bytes_eq word (codes "end") then true
    else ends_in_colon word

none_is_keyword : all_rows (λ row. not (is_keyword row.name)) opcodes ≡ true
unfolding opcodes
none_is_keyword = refl

not_keyword : (word : List ℕ) (op : ℕ) → opcode_named word ≡ Some op → is_keyword word ≡ false
unfolding opcode_named
not_keyword word op is = by (first_row (λ row. bytes_eq row.name word) opcodes) refl is
  where
    turned : (v : Bool) → not v ≡ true → v ≡ false
    turned true e = absurd (cc)
    turned false e = refl

    by : (o : Option Opcode) → first_row (λ row. bytes_eq row.name word) opcodes ≡ o → option_map (λ (row : Opcode). row.code) o ≡ Some op → is_keyword word ≡ false
    by None e so = absurd (cc)
    by (Some row) e so =
        let found = first_row_is (λ r. not (is_keyword r.name)) (λ r. bytes_eq r.name word) opcodes row none_is_keyword e in
        let P : List ℕ → Type 0 = λ w. is_keyword w ≡ false in
        subst P (same_words row.name word found.1) (turned (is_keyword row.name) found.0)

-- a word that is none is read as an opcode
passed : (p q r s t u v : Bool) (a b c d e f g x : Option Statement) → (if p then true else if q then true else if r then true else if s then true else if t then true else if u then true else v) ≡ false
    → (if p then a else if q then b else if r then c else if s then d else if t then e else if u then f else if v then g else x) ≡ x
passed true q r s t u v a b c d e f g x z = absurd (cc)
passed false true r s t u v a b c d e f g x z = absurd (cc)
passed false false true s t u v a b c d e f g x z = absurd (cc)
passed false false false true t u v a b c d e f g x z = absurd (cc)
passed false false false false true u v a b c d e f g x z = absurd (cc)
passed false false false false false true v a b c d e f g x z = absurd (cc)
passed false false false false false false true a b c d e f g x z = absurd (cc)
passed false false false false false false false a b c d e f g x z = refl

-- and one that ends in a `:` as a label
no_key : (word key : List ℕ) → ends_in_colon word ≡ true → ends_in_colon key ≡ false → bytes_eq word key ≡ false
no_key word key colon none = by (bytes_eq word key) refl
  where
    by : (v : Bool) → bytes_eq word key ≡ v → v ≡ false
    by true e = let same : ends_in_colon word ≡ ends_in_colon key = ap ends_in_colon (same_words word key e) in absurd (cc)
    by false e = refl

-- ---- what is said so is read

says_back : (statement : Statement) (items : Items) → Says statement items → line_words false items ≡ Some (Some statement)
unfolding words
says_back _ _ (says_class a b c) = rw (a, b, c) refl
says_back _ _ (says_implements a) = rw a refl
says_back _ _ (says_field a b c) = rw (a, b, c) refl
says_back _ _ (says_field_with_value a b c d) = rw (a, b, c, d) refl
says_back _ _ (says_method a b c) = rw (a, b, c) refl
says_back _ _ (says_method_with_code a b c d e) = rw (a, b, c, d, e) refl
says_back _ _ (says_label {word = word} colon p) =
    rw (no_key word (codes "class") colon refl, no_key word (codes "implements") colon refl, no_key word (codes "field") colon refl, no_key word (codes "method") colon refl, no_key word (codes "catch") colon refl, no_key word (codes "end") colon refl, colon, p) refl
says_back _ _ (says_instruction {word = word} {op = op} {items = items} {operation = operation} p q) =
    let reads : insn_words word items ≡ Some (Instruction operation) = rw (p, q) refl in
    ap (option_map Some) (passed (bytes_eq word (codes "class")) (bytes_eq word (codes "implements")) (bytes_eq word (codes "field")) (bytes_eq word (codes "method")) (bytes_eq word (codes "catch")) (bytes_eq word (codes "end")) (ends_in_colon word) _ _ _ _ _ _ _ (insn_words word items) (not_keyword word op p) ∙ reads)
says_back _ _ (says_catch a b c d) = rw (a, b, c, d) refl
says_back _ _ says_end = refl

unmapped : (o : Option Statement) (statement : Statement) → option_map (λ (s : Statement). Some s) o ≡ Some (Some statement) → o ≡ Some statement
unmapped None statement e = absurd (cc)
unmapped (Some s) statement e = cc

pub line_is : (line : List ℕ) (statement : Statement) → (statement_of line ≡ Some (Some statement)) ↔ IsLine line statement
unfolding statement_of
line_is line statement = (λ is. to (ends_in_space line) (items_of line) refl refl is, λ l. rw l.spaced (says_back statement (items_of line) l.says))
  where
    to : (v : Bool) (items : Items) → ends_in_space line ≡ v → items_of line ≡ items → line_words v items ≡ Some (Some statement) → IsLine line statement
    to v [] e f so = absurd (cc)
    to true (word ∷ items) e f so = absurd (cc)
    to false (word ∷ items) e f so =
        let P : Items → Type 0 = Says statement in
        record { spaced = e; says = subst P (sym f) (at_some (λ s. Says s (word ∷ items)) (words word items) statement (words_so word items) (unmapped (words word items) statement so)) }

not_nothing : (o : Option Statement) → option_map (λ (s : Statement). Some s) o ≡ Some None → ⊥
not_nothing None e = absurd (cc)
not_nothing (Some s) e = absurd (cc)

pub empty_is : (line : List ℕ) → (statement_of line ≡ Some None) ↔ (items_of line ≡ [])
unfolding statement_of
empty_is line = (λ is. to (ends_in_space line) (items_of line) refl is, λ e. rw e refl)
  where
    to : (v : Bool) (items : Items) → items_of line ≡ items → line_words v items ≡ Some None → items_of line ≡ []
    to v [] f so = f
    to true (word ∷ items) f so = absurd (cc)
    to false (word ∷ items) f so = absurd (not_nothing (words word items) so)
