-- The first line of a text and the first item of a line.
use Rattle.std.proofs.Common.{◌≡◌, ◌≢◌, ℕ, suc, ◌+◌, ◌<◌, Bool, true, false, cond, not, ◌==◌, List, [], ◌∷◌, length, take, drop, get_or, filter, Some, None, refl, sym, ap, ◌∙◌, arith}
use Rattle.std.specs.List.{prefix_len}
use Rattle.std.proofs.lemmas.Bool.Decides.{nat_tests}
use Rattle.asm_text.specs.Lines.{onto, lines_of, pieces, items_of, is_parting, quoted_behind, is_some_text}
use Rattle.asm_text.specs.ItemScan.{item_length, first_of}

front : (b n k : ℕ) (bs : List ℕ) → k ≡ suc n → take k (b ∷ bs) ≡ b ∷ take n bs
front b n k bs e = rw e refl

behind : (b n k : ℕ) (bs : List ℕ) → k ≡ suc n → drop k (b ∷ bs) ≡ drop n bs
behind b n k bs e = rw e refl

-- ---- lines

line_end : (v : Bool) (b : ℕ) → cond v ([] ∷ []) ((b ∷ []) ∷ []) ≡ take (cond (not v) 1 0) (b ∷ []) ∷ lines_of (drop (cond (not v) 1 0 + 1) (b ∷ []))
unfolding lines_of
line_end true b = refl
line_end false b = refl

line_more : (v : Bool) (b n : ℕ) (bs : List ℕ) → lines_of bs ≡ take n bs ∷ lines_of (drop (n + 1) bs)
    → cond v ([] ∷ lines_of bs) (onto b (lines_of bs)) ≡ take (cond (not v) (1 + n) 0) (b ∷ bs) ∷ lines_of (drop (cond (not v) (1 + n) 0 + 1) (b ∷ bs))
line_more true b n bs e = refl
line_more false b n bs e =
    let k : 1 + n ≡ suc n = omega arith in
    let l : 1 + n + 1 ≡ suc (n + 1) = omega arith in
    ap (onto b) e ∙ sym (ap (λ x. x ∷ lines_of (drop (1 + n + 1) (b ∷ bs))) (front b n (1 + n) bs k) ∙ ap (λ x. (b ∷ take n bs) ∷ lines_of x) (behind b (n + 1) (1 + n + 1) bs l))

first_line : (b : ℕ) (bs : List ℕ) → lines_of (b ∷ bs) ≡ take (prefix_len (λ b. not (b == 10)) (b ∷ bs)) (b ∷ bs) ∷ lines_of (drop (prefix_len (λ b. not (b == 10)) (b ∷ bs) + 1) (b ∷ bs))
unfolding lines_of
first_line b [] = line_end (b == 10) b
first_line b (c ∷ cs) = line_more (b == 10) b (prefix_len (λ b. not (b == 10)) (c ∷ cs)) (c ∷ cs) (first_line c cs)

pub no_line : (text : List ℕ) → length text ≡ 0 → first_of (lines_of text) ≡ None
unfolding lines_of
no_line [] h = refl
no_line (b ∷ bs) h = absurd (omega arith)

pub next_line : (text : List ℕ) (n : ℕ) → 0 < length text → n ≡ prefix_len (λ b. not (b == 10)) text → first_of (lines_of text) ≡ Some (take n text, lines_of (drop (n + 1) text))
next_line [] n some e = absurd (omega arith)
next_line (b ∷ bs) n some e = rw e (ap first_of (first_line b bs))

-- ---- items

piece_end : (v : Bool) (b : ℕ) → cond v ([] ∷ []) ((b ∷ []) ∷ []) ≡ take (cond v 0 1) (b ∷ []) ∷ pieces false (drop (cond v 0 1 + 1) (b ∷ []))
unfolding pieces
piece_end true b = refl
piece_end false b = refl

piece_more : (v : Bool) (b n : ℕ) (bs : List ℕ) (parts : List (List ℕ)) → parts ≡ take n bs ∷ pieces false (drop (n + 1) bs)
    → cond v ([] ∷ pieces false bs) (onto b parts) ≡ take (cond v 0 (suc n)) (b ∷ bs) ∷ pieces false (drop (cond v 0 (suc n) + 1) (b ∷ bs))
piece_more true b n bs parts e = refl
piece_more false b n bs parts e =
    let l : suc n + 1 ≡ suc (n + 1) = omega arith in
    ap (onto b) e ∙ sym (ap (λ x. (b ∷ take n bs) ∷ pieces false x) (behind b (n + 1) (suc n + 1) bs l))

first_piece : (quoted : Bool) (b : ℕ) (bs : List ℕ) → pieces quoted (b ∷ bs) ≡ take (item_length quoted (b ∷ bs)) (b ∷ bs) ∷ pieces false (drop (item_length quoted (b ∷ bs) + 1) (b ∷ bs))
unfolding pieces
first_piece quoted b [] = piece_end (is_parting quoted b) b
first_piece quoted b (c ∷ cs) =
    piece_more (is_parting quoted b) b (item_length (quoted_behind quoted b) (c ∷ cs)) (c ∷ cs) (pieces (quoted_behind quoted b) (c ∷ cs)) (first_piece (quoted_behind quoted b) c cs)

pub no_item : (line : List ℕ) → length line ≡ 0 → first_of (items_of line) ≡ None
unfolding items_of pieces
no_item [] h = refl
no_item (b ∷ bs) h = absurd (omega arith)

-- a space begins no item
pub space_parts : (line : List ℕ) → 0 < length line → get_or line 0 0 ≡ 32 → items_of (drop 1 line) ≡ items_of line
unfolding items_of pieces
space_parts [] some is = absurd (omega arith)
space_parts (b ∷ bs) some is = rw is refl

parts_no_other : (b : ℕ) → b ≢ 32 → is_parting false b ≡ false
parts_no_other b h = grind (arith, nat_tests)

item_here : (v : Bool) (b m n : ℕ) (bs : List ℕ) → v ≡ false → n ≡ cond v 0 (suc m) → filter is_some_text (take n (b ∷ bs) ∷ pieces false (drop (n + 1) (b ∷ bs))) ≡ take n (b ∷ bs) ∷ items_of (drop (n + 1) (b ∷ bs))
unfolding items_of
item_here true b m n bs h e = absurd (cc)
item_here false b m n bs h e = rw e refl

pub next_item : (line : List ℕ) (n : ℕ) → 0 < length line → get_or line 0 0 ≢ 32 → n ≡ item_length false line → first_of (items_of line) ≡ Some (take n line, items_of (drop (n + 1) line))
unfolding items_of
next_item [] n some other e = absurd (omega arith)
next_item (b ∷ bs) n some other e =
    let whole : pieces false (b ∷ bs) ≡ take n (b ∷ bs) ∷ pieces false (drop (n + 1) (b ∷ bs)) = rw e (first_piece false b bs) in
    ap (λ ps. first_of (filter is_some_text ps)) whole ∙ ap first_of (item_here (is_parting false b) b (item_length (quoted_behind false b) bs) n bs (parts_no_other b other) e)
