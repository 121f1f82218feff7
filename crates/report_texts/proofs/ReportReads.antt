-- The lines of a report that have been read, and where the text stops being one.
use Rattle.std.proofs.Common.{◌≡◌, ◌⊎◌, inl, inr, ℕ, suc, ◌+◌, ◌-◌, ◌<◌, ◌≤◌, true, List, [], ◌∷◌, ◌++◌, length, take, refl, sym, ap, ◌∙◌, subst, arith, append_assoc, append-nil, length-append}
use Rattle.std.proofs.lemmas.Bool.{true≢false}
use Rattle.std.proofs.lemmas.List.{append_cancel_left, take_at}
use Rattle.jo_text.specs.Texts.{BeginsText, StopsAt}
use Rattle.report_texts.specs.Parts.{IsOneOf}
use Rattle.report_texts.specs.Reports.{spelled_step, spelled_refusal, spelled_head, head_of, tail_of, heads_of, behind, AreRest, IsReport, IsReportText}
use Rattle.report_texts.specs.Reading.{shown, line_of, ends}
use Rattle.report_texts.specs.declared.lines.ReportKind.{ReportKind}
use Rattle.report_texts.specs.declared.lines.ReportKind.TheVariants.{Chain, Order, Data}
use Rattle.report_texts.specs.declared.lines.ReportLine.{ReportLine}
use Rattle.report_texts.specs.declared.words.Head.{Head}
use Rattle.report_texts.specs.declared.words.Head.TheVariants.{Title, Refused, Observer, Fork, In, After, From, Step, End}
use Rattle.report_texts.specs.declared.words.Awaited.{Awaited}
use Rattle.report_texts.specs.declared.words.Awaited.TheVariants as Awaits
use Rattle.dep_nodes.specs.declared.kinds.EdgeKind.TheVariants as Edges
use Rattle.dep_nodes.specs.declared.chains.Word.{Word}
use Rattle.dep_nodes.specs.declared.chains.Word.TheVariants.{Edge, Pass}
use Rattle.report_texts.proofs.LineReads.{LineGoes, LineStops, FirstLine, TailOf, IsMade, line_made, put_line, cut_line, same_line, same_head, tail_spelled, nothing_awaited}
use Rattle.report_texts.proofs.Steps.{Alike, alike_same, alike_behind}

-- what has been read is the only way to read it, and this is left
pub record ReadSoFar (text : List ℕ) (lines : List ReportLine) (awaited : Awaited) (rest : List ℕ) : Type 0 where
  pub front : List ℕ
  pub parts : text ≡ front ++ rest
  pub back : (more : List ReportLine) (left : List ℕ) → AreRest awaited more left → IsReport (lines ++ more) (front ++ left)
  pub forth : (all : List ReportLine) (left : List ℕ) → Alike left rest → IsReport all (front ++ left) → (more : List ReportLine) × (all ≡ lines ++ more) × AreRest awaited more left

pub nothing_read_yet : (text : List ℕ) → ReadSoFar text [] Awaits.Title text
nothing_read_yet text = record { front = []; parts = refl; back = λ more left r. r; forth = λ all left alike r. (all, refl, r) }

module _ (text : List ℕ) (lines : List ReportLine) (awaited : Awaited) (rest : List ℕ) (r : ReadSoFar text lines awaited rest) where
  -- ---- a line more

  module _ (head : Head) (left after : List ℕ) (g : LineGoes awaited rest head left after) where
    abbrev Line : ReportLine
    Line = line_of head (shown left after)

    made : IsMade head g.tail.front Line
    made = line_made head left after g.tail.front g.tail.parts g.tail.is

    abbrev Read : List ℕ
    Read = spelled_head head ++ g.tail.front

    rest_is : rest ≡ Read ++ after
    rest_is = g.parts ∙ ap (λ (t : List ℕ). spelled_head head ++ t) g.tail.parts ∙ sym (append_assoc (spelled_head head) g.tail.front after)

    line_put : (more : List ReportLine) (t : List ℕ) → AreRest (behind awaited head) more t → AreRest awaited (Line ∷ more) (Read ++ t)
    line_put more t a =
        let m = made in
        let at : IsOneOf (heads_of awaited) (head_of Line) = subst (IsOneOf (heads_of awaited)) (sym m.head_is) g.there in
        let others : AreRest (behind awaited (head_of Line)) more t = subst (λ (h : Head). AreRest (behind awaited h) more t) (sym m.head_is) a in
        subst (AreRest awaited (Line ∷ more))
        (ap (λ (h : Head). spelled_head h ++ (tail_of Line ++ t)) m.head_is ∙ ap (λ (u : List ℕ). spelled_head head ++ (u ++ t)) m.tail_is ∙ sym (append_assoc (spelled_head head) g.tail.front t))
        (put_line awaited Line more t at m.spelled others)

    -- the first line of what is left is this one
    line_only : (more : List ReportLine) (t : List ℕ) → Alike t after → AreRest awaited more (Read ++ t) → (others : List ReportLine) × (more ≡ Line ∷ others) × AreRest (behind awaited head) others t
    line_only more t alike a = by (cut_line awaited more (Read ++ t) a)
      where
        by : ((awaited ≡ Awaits.Nothing) × (Read ++ t ≡ []) × (more ≡ [])) ⊎ ((f : FirstLine awaited (Read ++ t)) × (more ≡ f.line ∷ f.others)) → (others : List ReportLine) × (more ≡ Line ∷ others) × AreRest (behind awaited head) others t
        by (inl none) = absurd (nothing_awaited awaited head none.0 g.there)
        by (inr pair) =
            let f = pair.0 in
            let is : spelled_head (head_of f.line) ++ (tail_of f.line ++ f.left) ≡ spelled_head head ++ (g.tail.front ++ t) = sym f.parts ∙ append_assoc (spelled_head head) g.tail.front t in
            let same : head_of f.line ≡ head = same_head awaited (head_of f.line) head f.there g.there _ _ is in
            let behind_is : tail_of f.line ++ f.left ≡ g.tail.front ++ t = append_cancel_left (spelled_head head) _ _ (ap (λ (h : Head). spelled_head h ++ (tail_of f.line ++ f.left)) (sym same) ∙ is) in
            let goes : AreRest (behind awaited head) f.others f.left = subst (λ (h : Head). AreRest (behind awaited h) f.others f.left) same f.goes in
            let tails : tail_of f.line ≡ g.tail.front = g.tail.alone (tail_of f.line) f.left t alike (subst (λ (h : Head). TailOf h (tail_of f.line)) same (tail_spelled f.line f.spelled)) (f.others, goes) behind_is in
            let lefts : f.left ≡ t = append_cancel_left g.tail.front _ _ (ap (λ (u : List ℕ). u ++ f.left) (sym tails) ∙ behind_is) in
            let m = made in
            let line : f.line ≡ Line = same_line f.line Line (same ∙ sym m.head_is) (tails ∙ sym m.tail_is) in
            (f.others, pair.1 ∙ ap (λ (l : ReportLine). l ∷ f.others) line, subst (AreRest (behind awaited head) f.others) lefts goes)

    pub line_more : ReadSoFar text (lines ++ Line ∷ []) (behind awaited head) after
    line_more = record {
      front = r.front ++ Read;
      parts = r.parts ∙ ap (λ (t : List ℕ). r.front ++ t) rest_is ∙ sym (append_assoc r.front Read after);
      back = λ more t a. subst (λ (all : List ReportLine). IsReport all ((r.front ++ Read) ++ t)) (sym (append_assoc lines (Line ∷ []) more))
          (subst (IsReport (lines ++ Line ∷ more)) (sym (append_assoc r.front Read t)) (r.back (Line ∷ more) (Read ++ t) (line_put more t a)));
      forth = λ all t alike a.
          let near : Alike (Read ++ t) rest = subst (λ (u : List ℕ). Alike (Read ++ t) u) (sym rest_is) (alike_behind Read t after alike) in
          let f = r.forth all (Read ++ t) near (subst (IsReport all) (append_assoc r.front Read t) a) in
          let o = line_only f.0 t alike f.2 in
          (o.0, f.1 ∙ ap (λ (more : List ReportLine). lines ++ more) o.1 ∙ sym (append_assoc lines (Line ∷ []) o.0), o.2);
    }

    pub shorter_left : length after < length rest
    shorter_left =
        let size : length rest ≡ (length (spelled_head head) + length g.tail.front) + length after =
        ap length rest_is ∙ length-append (spelled_head head ++ g.tail.front) after ∙ ap (λ (n : ℕ). n + length after) (length-append (spelled_head head) g.tail.front) in
        let some = has_bytes head in
        omega arith
      where
        step_bytes : (word : Word) → 0 < length (spelled_step word)
        step_bytes (Edge Edges.Data) = omega arith
        step_bytes (Edge Edges.Control) = omega arith
        step_bytes (Edge Edges.Out) = omega arith
        step_bytes (Edge Edges.Arg) = omega arith
        step_bytes (Edge Edges.Call) = omega arith
        step_bytes (Edge Edges.Ret) = omega arith
        step_bytes (Edge Edges.Heap) = omega arith
        step_bytes (Edge Edges.Fork) = omega arith
        step_bytes Pass = omega arith

        refusal_bytes : (kind : ReportKind) → 0 < length (spelled_refusal kind)
        refusal_bytes Chain = omega arith
        refusal_bytes Order = omega arith
        refusal_bytes Data = omega arith

        has_bytes : (head : Head) → 0 < length (spelled_head head)
        has_bytes Title = omega arith
        has_bytes (Refused kind) = refusal_bytes kind
        has_bytes Observer = omega arith
        has_bytes Fork = omega arith
        has_bytes In = omega arith
        has_bytes After = omega arith
        has_bytes From = omega arith
        has_bytes (Step word) = step_bytes word
        has_bytes End = omega arith

  -- ---- where the text stops being a report

  abbrev pub IsStopAt : List ℕ → Type 0
  IsStopAt stop = (length stop ≤ length text) × StopsAt IsReportText text (length text - length stop)

  stops_behind : (stop front more : List ℕ) → text ≡ front ++ stop → IsReportText (front ++ more) → ((left : List ℕ) → Alike left stop → IsReportText (front ++ left) → ⊥) → IsStopAt stop
  stops_behind stop front more parts some none =
      let size : length text ≡ length front + length stop = ap length parts ∙ length-append front stop in
      let up_to : take (length text - length stop) text ≡ front = ap (λ (t : List ℕ). take (length text - length stop) t) parts ∙ take_at front stop (length text - length stop) (omega arith) in (
        omega arith,
        record {
          inside = omega arith;
          before = subst (BeginsText IsReportText) (sym up_to) (more, some);
          there = λ lt begins. by stop size parts none lt begins;
          whole = λ is. none stop (alike_same stop) (subst IsReportText parts is);
        },
      )
    where
      by : (stop : List ℕ) → length text ≡ length front + length stop → text ≡ front ++ stop → ((left : List ℕ) → Alike left stop → IsReportText (front ++ left) → ⊥) → length text - length stop < length text → BeginsText IsReportText (take (length text - length stop + 1) text) → ⊥
      by [] size parts none lt begins = absurd (omega arith)
      by (b ∷ stop) size parts none lt begins =
          let sizes : length text ≡ length front + suc (length stop) = size in
          let front_size : length (front ++ b ∷ []) ≡ length front + 1 = length-append front (b ∷ []) in
          let whole : text ≡ (front ++ b ∷ []) ++ stop = parts ∙ sym (append_assoc front (b ∷ []) stop) in
          let up_to : take (length text - length (b ∷ stop) + 1) text ≡ front ++ b ∷ [] =
          ap (λ (t : List ℕ). take (length text - suc (length stop) + 1) t) whole ∙ take_at (front ++ b ∷ []) stop (length text - suc (length stop) + 1) (omega arith) in
          none (b ∷ begins.0) refl (subst IsReportText (ap (λ (t : List ℕ). t ++ begins.0) up_to ∙ append_assoc front (b ∷ []) begins.0) begins.1)

  pub line_stops : (stop : List ℕ) → LineStops awaited rest stop → IsStopAt stop
  line_stops stop s =
      let some = r.back s.goes.0 (s.front ++ s.more) s.goes.1 in
      stops_behind stop (r.front ++ s.front) s.more (r.parts ∙ ap (λ (t : List ℕ). r.front ++ t) s.parts ∙ sym (append_assoc r.front s.front stop))
      (lines ++ s.goes.0, subst (IsReport (lines ++ s.goes.0)) (sym (append_assoc r.front s.front s.more)) some)
      (λ left alike is.
      let near : Alike (s.front ++ left) rest = subst (λ (t : List ℕ). Alike (s.front ++ left) t) (sym s.parts) (alike_behind s.front left stop alike) in
      let f = r.forth is.0 (s.front ++ left) near (subst (IsReport is.0) (append_assoc r.front s.front left) is.1) in
      s.none left alike (f.0, f.2))

  is_nothing : (a : Awaited) → ends a ≡ true → a ≡ Awaits.Nothing
  is_nothing Awaits.Title e = absurd (true≢false (sym e))
  is_nothing Awaits.Refused e = absurd (true≢false (sym e))
  is_nothing (Awaits.Observer kind) e = absurd (true≢false (sym e))
  is_nothing (Awaits.Fork kind) e = absurd (true≢false (sym e))
  is_nothing (Awaits.In kind) e = absurd (true≢false (sym e))
  is_nothing (Awaits.After kind) e = absurd (true≢false (sym e))
  is_nothing Awaits.FirstChain e = absurd (true≢false (sym e))
  is_nothing Awaits.FirstSteps e = absurd (true≢false (sym e))
  is_nothing Awaits.LastChain e = absurd (true≢false (sym e))
  is_nothing Awaits.LastSteps e = absurd (true≢false (sym e))
  is_nothing Awaits.End e = absurd (true≢false (sym e))
  is_nothing Awaits.Nothing e = refl

  module _ (last : ends awaited ≡ true) where
    no_lines : AreRest awaited [] []
    no_lines = record { order = is_nothing awaited last; spelled = tt; whole = refl }

    pub report_read : rest ≡ [] → IsReport lines text
    report_read none =
        let whole : r.front ++ [] ≡ text = ap (λ (t : List ℕ). r.front ++ t) (sym none) ∙ sym r.parts in
        subst (λ (all : List ReportLine). IsReport all text) (append-nil lines) (subst (IsReport (lines ++ [])) whole (r.back [] [] no_lines))

    pub more_stops : (rest ≡ [] → ⊥) → IsStopAt rest
    more_stops some = stops_behind rest r.front [] r.parts (lines ++ [], r.back [] [] no_lines) (λ left alike is. by left alike (r.forth is.0 left alike is.1))
      where
        nothing_left : (left : List ℕ) → Alike left rest → left ≡ [] → ⊥
        nothing_left left alike none = some (by rest (subst (λ (t : List ℕ). Alike t rest) none alike))
          where
            by : (rest : List ℕ) → Alike [] rest → rest ≡ []
            by [] alike = refl
            by (b ∷ rest) alike = absurd alike

        by : {all : List ReportLine} (left : List ℕ) → Alike left rest → (more : List ReportLine) × (all ≡ lines ++ more) × AreRest awaited more left → ⊥
        by left alike f = cases (cut_line awaited f.0 left f.2)
          where
            cases : ((awaited ≡ Awaits.Nothing) × (left ≡ []) × (f.0 ≡ [])) ⊎ ((first : FirstLine awaited left) × (f.0 ≡ first.line ∷ first.others)) → ⊥
            cases (inl none) = nothing_left left alike none.1
            cases (inr first) = nothing_awaited awaited (head_of first.0.line) (is_nothing awaited last) first.0.there
