-- A text says the lines of one report at most.
use Rattle.std.proofs.Common.{◌≡◌, ◌⊎◌, inl, inr, ℕ, List, [], ◌∷◌, ◌++◌, Ok, Err, refl, sym, ap, ◌∙◌, subst, append_assoc}
use Rattle.std.specs.List.{flat_map}
use Rattle.std.proofs.lemmas.List.{append_cancel_left}
use Rattle.report_texts.specs.Reading.{Left, tail}
use Rattle.report_texts.specs.Reports.{spelled_head, head_of, tail_of, line_text, behind, AreRest}
use Rattle.report_texts.specs.declared.lines.ReportLine.{ReportLine}
use Rattle.report_texts.specs.declared.words.Awaited.{Awaited}
use Rattle.report_texts.specs.declared.words.Awaited.TheVariants as Awaits
use Rattle.report_texts.specs.declared.words.Head.{Head}
use Rattle.report_texts.proofs.LineReads.{RestText, FirstLine, TailOf, good_tail, cut_line, same_line, same_head, tail_spelled, nothing_awaited}
use Rattle.report_texts.proofs.Steps.{alike_same, Reads}

-- a part that is read is one
one_part : (P K : List ℕ → Type 0) (text : List ℕ) (read : Left) → Reads P K text read → (x k y l : List ℕ) → P x → K k → P y → K l → x ++ k ≡ text → y ++ l ≡ text → x ≡ y
one_part P K text (Ok rest) g x k y l p h q i first second = g.alone x k rest (alike_same rest) p h (first ∙ g.parts) ∙ sym (g.alone y l rest (alike_same rest) q i (second ∙ g.parts))
one_part P K text (Err rest) s x k y l p h q i first second = absurd (s.none x k rest (alike_same rest) p h (first ∙ s.parts))

pub same_lines : (one : List ReportLine) (awaited : Awaited) (text : List ℕ) (other : List ReportLine) → AreRest awaited one text → AreRest awaited other text → one ≡ other
same_lines [] awaited text other a b = by (cut_line awaited other text b)
  where
    by : ((awaited ≡ Awaits.Nothing) × (text ≡ []) × (other ≡ [])) ⊎ ((f : FirstLine awaited text) × (other ≡ f.line ∷ f.others)) → [] ≡ other
    by (inl none) = sym none.2
    by (inr f) = absurd (nothing_awaited awaited (head_of f.0.line) a.order f.0.there)
same_lines (line ∷ lines) awaited text other a b = by (λ aw t o c d. same_lines lines aw t o c d) (cut_line awaited other text b)
  where
    parts : text ≡ spelled_head (head_of line) ++ (tail_of line ++ (flat_map line_text lines))
    parts = a.whole ∙ append_assoc (spelled_head (head_of line)) (tail_of line) (flat_map line_text lines)

    goes : AreRest (behind awaited (head_of line)) lines (flat_map line_text lines)
    goes = record { order = a.order.1; spelled = a.spelled.1; whole = refl }

    by : ((aw : Awaited) (t : List ℕ) (o : List ReportLine) → AreRest aw lines t → AreRest aw o t → lines ≡ o)
        → ((awaited ≡ Awaits.Nothing) × (text ≡ []) × (other ≡ [])) ⊎ ((f : FirstLine awaited text) × (other ≡ f.line ∷ f.others)) → line ∷ lines ≡ other
    by inner (inl none) = absurd (nothing_awaited awaited (head_of line) none.0 a.order.0)
    by inner (inr pair) =
        let f = pair.0 in
        let is : spelled_head (head_of line) ++ (tail_of line ++ (flat_map line_text lines)) ≡ spelled_head (head_of f.line) ++ (tail_of f.line ++ f.left) = sym parts ∙ f.parts in
        let heads : head_of line ≡ head_of f.line = same_head awaited (head_of line) (head_of f.line) a.order.0 f.there _ _ is in
        let K : List ℕ → Type 0 = RestText (behind awaited (head_of line)) in
        let tails_are : tail_of line ++ (flat_map line_text lines) ≡ tail_of f.line ++ f.left =
        append_cancel_left (spelled_head (head_of f.line)) _ _ (ap (λ (h : Head). spelled_head h ++ (tail_of line ++ (flat_map line_text lines))) (sym heads) ∙ is) in
        let others : AreRest (behind awaited (head_of line)) f.others f.left = subst (λ (h : Head). AreRest (behind awaited h) f.others f.left) (sym heads) f.goes in
        let read = (good_tail (head_of line)).reads K (λ k h. tt) (flat_map line_text lines) (lines, goes) (tail_of line ++ (flat_map line_text lines)) in
        let spelled : TailOf (head_of line) (tail_of f.line) = subst (λ (h : Head). TailOf h (tail_of f.line)) (sym heads) (tail_spelled f.line f.spelled) in
        let tails : tail_of line ≡ tail_of f.line =
        one_part (TailOf (head_of line)) K (tail_of line ++ (flat_map line_text lines)) (tail (head_of line) (tail_of line ++ (flat_map line_text lines))) read (tail_of line) (flat_map line_text lines) (tail_of f.line) f.left (tail_spelled line a.spelled.0) (lines, goes) spelled (f.others, others) refl (sym tails_are) in
        let lefts : (flat_map line_text lines) ≡ f.left = append_cancel_left (tail_of f.line) _ _ (ap (λ (t : List ℕ). t ++ (flat_map line_text lines)) (sym tails) ∙ tails_are) in
        let same : lines ≡ f.others = inner (behind awaited (head_of line)) (flat_map line_text lines) f.others goes (subst (AreRest (behind awaited (head_of line)) f.others) (sym lefts) others) in
        ap (λ (l : ReportLine). l ∷ lines) (same_line line f.line heads tails) ∙ ap (λ (ls : List ReportLine). f.line ∷ ls) same ∙ sym pair.1
