-- What was read so far, in front of what is read behind it.
use Rattle.std.proofs.Common.{◌≡◌, ◌<◌, ◌≤◌, ◌+◌, ◌==◌, Bool, true, false, cond, ℕ, suc, List, [], ◌∷◌, ◌++◌, length, Option, Some, None, refl, ap, ◌∙◌, append_assoc, append-nil, arith}
use Rattle.asm_text.specs.ItemScan.{first_of}
use Rattle.asm_text.specs.declared.statements.Number.{Number}
use Rattle.asm_text.specs.declared.statements.Case.{Case}
use Rattle.asm_text.specs.Words.{◌>>=◌, label_in, number_in}
use Rattle.asm_text.specs.declared.statements.Statement.{Statement}
use Rattle.asm_text.specs.declared.texts.NumberedLine.{NumberedLine}
use Rattle.asm_text.specs.Lines.{onto, lines_of}
use Rattle.asm_text.specs.Statements.{Items, cases, statement_of}
use Rattle.asm_text.specs.Numbered.{numbered}

abbrev pub with_front : {X : Type 0} → List X → Option (List X) → Option (List X)
with_front front None = None
with_front front (Some more) = Some (front ++ more)

pub nothing_behind : {X : Type 0} (front : List X) → with_front front (Some []) ≡ Some front
nothing_behind front = ap Some (append-nil front)

pub one_behind : {X : Type 0} (front : List X) (x : X) (more : Option (List X)) → with_front (front ++ x ∷ []) more ≡ with_front front (more >>= (λ xs. Some (x ∷ xs)))
one_behind front x None = refl
one_behind front x (Some more) = ap Some (append_assoc front (x ∷ []) more)

same_pair : {A B : Type 0} (p q : A × B) → Some p ≡ Some q → p ≡ q
same_pair p q h = cc

-- a list that has a first item
pub one_more : {X : Type 0} (items rest : List X) (item : X) → first_of items ≡ Some (item, rest) → items ≡ item ∷ rest
one_more [] rest item h = absurd (cc)
one_more (i ∷ is) rest item h =
    let pair = same_pair (i, is) (item, rest) h in
    let first : i ≡ item = ap (λ p. p.0) pair in
    let others : is ≡ rest = ap (λ p. p.1) pair in
    cc

pub no_more : {X : Type 0} (items : List X) → first_of items ≡ None → items ≡ []
no_more [] h = refl
no_more (i ∷ is) h = absurd (cc)

pub fewer : {X : Type 0} (items rest : List X) (item : X) → first_of items ≡ Some (item, rest) → length rest < length items
fewer items rest item h =
    let same : length items ≡ length (item ∷ rest) = ap length (one_more items rest item h) in
    omega arith

pub next_case : (items behind rest : Items) (first second : List ℕ) (key : Number) (name : List ℕ) (front : List Case)
    → first_of items ≡ Some (first, behind) → first_of behind ≡ Some (second, rest) → number_in first ≡ Some key → label_in second ≡ Some name
    → with_front (front ++ record { key = key; label = name } ∷ []) (cases rest) ≡ with_front front (cases items)
next_case items behind rest first second key name front a b c d =
    let whole : items ≡ first ∷ second ∷ rest = one_more items behind first a ∙ ap (λ is. first ∷ is) (one_more behind rest second b) in
    rw (whole, c, d) (one_behind front (record { key = key; label = name }) (cases rest))

-- ---- lines with their numbers

pub line_outside : (front : List NumberedLine) (n : ℕ) (lines behind : List (List ℕ)) (line : List ℕ) → first_of lines ≡ Some (line, behind) → statement_of line ≡ None
    → (front ++ record { number = n; said = None } ∷ []) ++ numbered (n + 1) behind ≡ front ++ numbered n lines
line_outside front n lines behind line a b = rw (one_more lines behind line a, b) (append_assoc front _ _)

pub line_empty : (front : List NumberedLine) (n : ℕ) (lines behind : List (List ℕ)) (line : List ℕ) → first_of lines ≡ Some (line, behind) → statement_of line ≡ Some None
    → front ++ numbered (n + 1) behind ≡ front ++ numbered n lines
line_empty front n lines behind line a b = rw (one_more lines behind line a, b) refl

pub line_said : (front : List NumberedLine) (n : ℕ) (lines behind : List (List ℕ)) (line : List ℕ) (said : Statement) → first_of lines ≡ Some (line, behind) → statement_of line ≡ Some (Some said)
    → (front ++ record { number = n; said = Some said } ∷ []) ++ numbered (n + 1) behind ≡ front ++ numbered n lines
line_said front n lines behind line said a b = rw (one_more lines behind line a, b) (append_assoc front _ _)

onto_one : (b : ℕ) (texts : List (List ℕ)) → length (onto b texts) ≤ suc (length texts)
onto_one b [] = omega arith
onto_one b (t ∷ ts) = omega arith

one_line : (v : Bool) (b : ℕ) (texts : List (List ℕ)) → length (cond v ([] ∷ texts) (onto b texts)) ≤ suc (length texts)
one_line true b texts = omega arith
one_line false b texts = onto_one b texts

-- a text has no more lines than bytes
pub few_lines : (text : List ℕ) → length (lines_of text) ≤ length text
unfolding lines_of
few_lines [] = omega arith
few_lines (b ∷ bs) =
    let others : length (lines_of bs) ≤ length bs = few_lines bs in
    let first = one_line (b == 10) b (lines_of bs) in
    omega arith
