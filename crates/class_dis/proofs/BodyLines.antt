-- The lines of items, one behind another, and those of a method's code.
use Rattle.std.proofs.Common.{◌≡◌, ℕ, suc, ◌+◌, ◌<◌, Bool, List, [], ◌∷◌, ◌++◌, length, drop, get_or, sym, ap, ◌∙◌, add-one, drop-cons, append_assoc, arith}
use Rattle.std.specs.Prelude.{pos, codes}
use Rattle.jo_insn.specs.Marks.{is_marked}
use Rattle.std.specs.List.{AllByRecursion, flat_map}
use Rattle.class_pool.specs.declared.entries.PoolEntry.{PoolEntry}
use Rattle.class_pool.specs.declared.classes.CodeInfo.{CodeInfo}
use Rattle.class_dis.specs.Insns.{insns_of}
use Rattle.class_dis.specs.Labels.{has_label, AreLabels}
use Rattle.class_dis.specs.Words.{line}
use Rattle.class_dis.specs.Listing.{insn_lines, label_line, catch_line, body_lines}
use Rattle.class_dis.proofs.InsnSteps.{all_placed, same_lines}
use Rattle.class_dis.proofs.Pieces.{body_pieces}

-- an item is the next of a list
module _ {X : Type 0} (xs : List X) (i : ℕ) (x : X) (below : i < length xs) (is : x ≡ get_or xs i x) where
  next_item : drop i xs ≡ x ∷ drop (i + 1) xs
  next_item = rw (add-one, drop-cons xs i x) (ap (λ y. y ∷ drop (suc i) xs) (sym is))

  pub later_items : (P : X → Type 0) → AllByRecursion P (drop i xs) → AllByRecursion P (drop (i + 1) xs)
  later_items P all = (rw next_item at all).1

  pub item_lines : (lines : X → List ℕ) (before now all : List ℕ) → now ≡ before ++ lines x → before ++ flat_map lines (drop i xs) ≡ all → now ++ flat_map lines (drop (i + 1) xs) ≡ all
  item_lines lines before now all adds so_far =
      ap (λ (text : List ℕ). text ++ flat_map lines (drop (i + 1) xs)) adds ∙ append_assoc before (lines x) (flat_map lines (drop (i + 1) xs))
      ∙ sym (ap (λ (items : List X). before ++ flat_map lines items) next_item) ∙ so_far

pub body_is : (pool : List PoolEntry) (code : CodeInfo) (marks : List Bool) (o0 o1 o2 o3 o4 : List ℕ) → AreLabels code marks
    → o1 ≡ o0 ++ flat_map (insn_lines pool code.bytes (λ pc. is_marked marks (pos pc))) (insns_of code.bytes)
    → o2 ≡ o1 ++ label_line (is_marked marks (pos (length code.bytes))) (length code.bytes)
    → o3 ≡ o2 ++ flat_map (catch_line pool) code.rows → o4 ≡ o3 ++ line (codes "end" ∷ []) → o4 ≡ o0 ++ body_lines pool code
body_is pool code marks o0 o1 o2 o3 o4 are e1 e2 e3 e4 =
    let size : ℕ = length code.bytes in
    let insns = same_lines code.bytes pool (λ pc. is_marked marks (pos pc)) (has_label code) are.each (insns_of code.bytes) (all_placed code.bytes size 0) in
    let at_end = are.each size (omega arith) in
    body_pieces (flat_map (insn_lines pool code.bytes (has_label code)) (insns_of code.bytes)) (label_line (has_label code size) size) (flat_map (catch_line pool) code.rows) (line (codes "end" ∷ []))
    o0 o1 o2 o3 o4 (e1 ∙ ap (λ (text : List ℕ). o0 ++ text) insns) (e2 ∙ ap (λ (labelled : Bool). o1 ++ label_line labelled size) at_end) e3 e4
