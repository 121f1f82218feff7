-- A report is read line by line: what has been read is the only way to read it.
use Rattle.std.proofs.Common.{◌≡◌, ◌⊎◌, inl, inr, ℕ, suc, ◌+◌, ◌-◌, false, List, [], ◌∷◌, ◌++◌, length, take, Result, Ok, Err, refl, sym, ap, ◌∙◌, subst, arith, append_assoc, append-nil, length-append}
use Rattle.std.specs.Prelude.{codes}
use Rattle.std.specs.List.{flat_map}
use Rattle.std.proofs.lemmas.Bool.{true≢false}
use Rattle.std.proofs.lemmas.List.{append_cancel_left, take_at}
use Rattle.dep_nodes.specs.declared.kinds.EdgeKind.TheVariants as Edges
use Rattle.dep_nodes.specs.declared.chains.Word.TheVariants.{Edge}
use Rattle.report_texts.specs.Parts.{Is, Joined, IsOneOf}
use Rattle.report_texts.specs.NodeTexts.{IsNameText, IsNodeText}
use Rattle.report_texts.specs.Reports.{spelled_head, head_of, ended, tail_of, line_text, IsSpelled, heads_of, behind, AreRest}
use Rattle.report_texts.specs.Reading.{Left, ◌>>=◌, among, tail, row_of, rows_of, scan, shown, line_of, ends}
use Rattle.report_texts.specs.declared.lines.ReportKind.{ReportKind}
use Rattle.report_texts.specs.declared.lines.ReportKind.TheVariants.{Chain, Order, Data}
use Rattle.report_texts.specs.declared.lines.ReportLine.{ReportLine}
use Rattle.report_texts.specs.declared.lines.ReportLine.TheVariants as Lines
use Rattle.report_texts.specs.declared.words.Head.{Head}
use Rattle.report_texts.specs.declared.words.Head.TheVariants.{Title, Refused, Observer, Fork, In, After, From, Step, End}
use Rattle.report_texts.specs.declared.words.Awaited.{Awaited}
use Rattle.report_texts.specs.declared.words.Awaited.TheVariants as Awaits
use Rattle.report_texts.proofs.NameReads.{no_name_yet}
use Rattle.report_texts.proofs.SiteReads.{nothing_read}
use Rattle.report_texts.proofs.AmongReads.{Apart, apart_by_test, BreaksOff, Chosen, row_read}
use Rattle.report_texts.proofs.NodeReads.{NodeLine, LevelLine, good_node, good_level, from_map, to_map}
use Rattle.report_texts.proofs.Steps.{Any, Alike, Goes, Stops, Reads, Good}

-- ---- what stands behind a head

abbrev pub TailOf : Head → List ℕ → Type 0
TailOf Title text = Is [] text
TailOf (Refused kind) text = Is [] text
TailOf Observer text = LevelLine text
TailOf Fork text = NodeLine text
TailOf In text = NodeLine text
TailOf After text = NodeLine text
TailOf From text = NodeLine text
TailOf (Step word) text = NodeLine text
TailOf End text = Is [] text

pub good_tail : (head : Head) → Good Any (TailOf head) (tail head)
unfolding tail
good_tail Title = nothing_read
good_tail (Refused kind) = nothing_read
good_tail Observer = good_level
good_tail Fork = good_node
good_tail In = good_node
good_tail After = good_node
good_tail From = good_node
good_tail (Step word) = good_node
good_tail End = nothing_read

line_ended : {P : List ℕ → Type 0} (text : List ℕ) → P text → Joined P (λ t. Is (codes "\n") t) (ended text)
line_ended text is = record { front = text; rest = codes "\n"; parts = refl; first = is; second = refl }

pub tail_spelled : (line : ReportLine) → IsSpelled line → TailOf (head_of line) (tail_of line)
tail_spelled Lines.Title is = refl
tail_spelled (Lines.Refused kind) is = refl
tail_spelled (Lines.Observer level) is = line_ended level is
tail_spelled (Lines.Fork node) is = line_ended node is
tail_spelled (Lines.In node) is = line_ended node is
tail_spelled (Lines.After node) is = line_ended node is
tail_spelled (Lines.From node) is = line_ended node is
tail_spelled (Lines.Step word node) is = line_ended node is
tail_spelled Lines.End is = refl

-- ---- the line that is made of a head and a tail

shown_is : (text rest front : List ℕ) → text ≡ ended front ++ rest → shown text rest ≡ front
shown_is text rest front parts =
    let whole : text ≡ front ++ (10 ∷ rest) = parts ∙ append_assoc front (10 ∷ []) rest in
    let size : length text ≡ length front + suc (length rest) = ap length whole ∙ length-append front (10 ∷ rest) in
    ap (λ (t : List ℕ). take (length text - length rest - 1) t) whole ∙ take_at front (10 ∷ rest) (length text - length rest - 1) (omega arith)

pub record IsMade (head : Head) (front : List ℕ) (line : ReportLine) : Type 0 where
  pub head_is : head_of line ≡ head
  pub tail_is : tail_of line ≡ front
  pub spelled : IsSpelled line

made_of : {P : List ℕ → Type 0} (text rest front : List ℕ) → text ≡ front ++ rest → Joined P (λ t. Is (codes "\n") t) front → (ended (shown text rest) ≡ front) × P (shown text rest)
made_of {P} text rest front parts j =
    let whole : front ≡ ended j.front = j.parts ∙ ap (λ (t : List ℕ). j.front ++ t) j.second in
    let same : shown text rest ≡ j.front = shown_is text rest j.front (parts ∙ ap (λ (t : List ℕ). t ++ rest) whole) in
    (ap ended same ∙ sym whole, subst P (sym same) j.first)

pub line_made : (head : Head) (text rest front : List ℕ) → text ≡ front ++ rest → TailOf head front → IsMade head front (line_of head (shown text rest))
line_made Title text rest front parts is = record { head_is = refl; tail_is = sym is; spelled = tt }
line_made (Refused kind) text rest front parts is = record { head_is = refl; tail_is = sym is; spelled = tt }
line_made Observer text rest front parts j = let m = made_of {P = IsNameText} text rest front parts j in record { head_is = refl; tail_is = m.0; spelled = m.1 }
line_made Fork text rest front parts j = let m = made_of {P = IsNodeText} text rest front parts j in record { head_is = refl; tail_is = m.0; spelled = m.1 }
line_made In text rest front parts j = let m = made_of {P = IsNodeText} text rest front parts j in record { head_is = refl; tail_is = m.0; spelled = m.1 }
line_made After text rest front parts j = let m = made_of {P = IsNodeText} text rest front parts j in record { head_is = refl; tail_is = m.0; spelled = m.1 }
line_made From text rest front parts j = let m = made_of {P = IsNodeText} text rest front parts j in record { head_is = refl; tail_is = m.0; spelled = m.1 }
line_made (Step word) text rest front parts j = let m = made_of {P = IsNodeText} text rest front parts j in record { head_is = refl; tail_is = m.0; spelled = m.1 }
line_made End text rest front parts is = record { head_is = refl; tail_is = sym is; spelled = tt }

-- a line is known by its head and its tail
bare : (text : List ℕ) → text ≡ shown (ended text) []
bare text = sym (shown_is (ended text) [] text (sym (append-nil (ended text))))

line_is : (line : ReportLine) → line ≡ line_of (head_of line) (shown (tail_of line) [])
line_is Lines.Title = refl
line_is (Lines.Refused kind) = refl
line_is (Lines.Observer level) = ap Lines.Observer (bare level)
line_is (Lines.Fork node) = ap Lines.Fork (bare node)
line_is (Lines.In node) = ap Lines.In (bare node)
line_is (Lines.After node) = ap Lines.After (bare node)
line_is (Lines.From node) = ap Lines.From (bare node)
line_is (Lines.Step word node) = ap (Lines.Step word) (bare node)
line_is Lines.End = refl

pub same_line : (one other : ReportLine) → head_of one ≡ head_of other → tail_of one ≡ tail_of other → one ≡ other
same_line one other heads tails =
    line_is one ∙ ap (λ (h : Head). line_of h (shown (tail_of one) [])) heads ∙ ap (λ (t : List ℕ). line_of (head_of other) (shown t [])) tails ∙ sym (line_is other)

-- ---- heads

rows_apart : (awaited : Awaited) → Apart (rows_of awaited)
unfolding rows_of
rows_apart Awaits.Title = apart_by_test (rows_of Awaits.Title) refl
rows_apart Awaits.Refused = apart_by_test (rows_of Awaits.Refused) refl
rows_apart (Awaits.Observer kind) = apart_by_test (rows_of (Awaits.Observer kind)) refl
rows_apart (Awaits.Fork kind) = apart_by_test (rows_of (Awaits.Fork kind)) refl
rows_apart (Awaits.In kind) = apart_by_test (rows_of (Awaits.In kind)) refl
rows_apart (Awaits.After kind) = apart_by_test (rows_of (Awaits.After kind)) refl
rows_apart Awaits.FirstChain = apart_by_test (rows_of Awaits.FirstChain) refl
rows_apart Awaits.FirstSteps = apart_by_test (rows_of Awaits.FirstSteps) refl
rows_apart Awaits.LastChain = apart_by_test (rows_of Awaits.LastChain) refl
rows_apart Awaits.LastSteps = apart_by_test (rows_of Awaits.LastSteps) refl
rows_apart Awaits.End = apart_by_test (rows_of Awaits.End) refl
rows_apart Awaits.Nothing = apart_by_test (rows_of Awaits.Nothing) refl

row_there : (awaited : Awaited) (head : Head) → IsOneOf (heads_of awaited) head → IsOneOf (rows_of awaited) (row_of head)
unfolding rows_of
row_there awaited head there = to_map row_of (heads_of awaited) head there

head_there : (awaited : Awaited) (row : List ℕ × Head) → IsOneOf (rows_of awaited) row → (head : Head) × IsOneOf (heads_of awaited) head × (row ≡ row_of head)
unfolding rows_of
head_there awaited row there = from_map row_of (heads_of awaited) row there

pub same_head : (awaited : Awaited) (one other : Head) → IsOneOf (heads_of awaited) one → IsOneOf (heads_of awaited) other → (r s : List ℕ) → spelled_head one ++ r ≡ spelled_head other ++ s → one ≡ other
same_head awaited one other first second r s is =
    ap (λ (row : List ℕ × Head). row.1) (rows_apart awaited (row_of one) (row_of other) (row_there awaited one first) (row_there awaited other second) r s is)

pub nothing_awaited : (awaited : Awaited) (head : Head) → awaited ≡ Awaits.Nothing → IsOneOf (heads_of awaited) head → ⊥
nothing_awaited awaited head is there = subst (λ (a : Awaited). IsOneOf (heads_of a) head) is there

-- ---- texts of lines

abbrev pub RestText : Awaited → List ℕ → Type 0
RestText awaited text = (lines : List ReportLine) × AreRest awaited lines text

pub put_line : (awaited : Awaited) (line : ReportLine) (lines : List ReportLine) (text : List ℕ) → IsOneOf (heads_of awaited) (head_of line) → IsSpelled line → AreRest (behind awaited (head_of line)) lines text
    → AreRest awaited (line ∷ lines) (spelled_head (head_of line) ++ (tail_of line ++ text))
put_line awaited line lines text there spelled rest = record {
  order = (there, rest.order);
  spelled = (spelled, rest.spelled);
  whole = sym (append_assoc (spelled_head (head_of line)) (tail_of line) text) ∙ ap (λ (t : List ℕ). line_text line ++ t) rest.whole;
}

pub record FirstLine (awaited : Awaited) (text : List ℕ) : Type 0 where
  pub line : ReportLine
  pub others : List ReportLine
  pub there : IsOneOf (heads_of awaited) (head_of line)
  pub spelled : IsSpelled line
  pub left : List ℕ
  pub parts : text ≡ spelled_head (head_of line) ++ (tail_of line ++ left)
  pub goes : AreRest (behind awaited (head_of line)) others left

pub cut_line : (awaited : Awaited) (lines : List ReportLine) (text : List ℕ) → AreRest awaited lines text → ((awaited ≡ Awaits.Nothing) × (text ≡ []) × (lines ≡ [])) ⊎ ((f : FirstLine awaited text) × (lines ≡ f.line ∷ f.others))
cut_line awaited [] text rest = inl (rest.order, rest.whole, refl)
cut_line awaited (line ∷ lines) text rest = inr (
  record {
    line = line;
    others = lines;
    there = rest.order.0;
    spelled = rest.spelled.0;
    left = flat_map line_text lines;
    parts = rest.whole ∙ append_assoc (spelled_head (head_of line)) (tail_of line) (flat_map line_text lines);
    goes = record { order = rest.order.1; spelled = rest.spelled.1; whole = refl };
  },
  refl,
)

-- ---- some text of each

abbrev HasRest : Awaited → Type 0
HasRest awaited = (text : List ℕ) × RestText awaited text

add_line : (awaited : Awaited) (line : ReportLine) → IsOneOf (heads_of awaited) (head_of line) → IsSpelled line → HasRest (behind awaited (head_of line)) → HasRest awaited
add_line awaited line there spelled rest = (spelled_head (head_of line) ++ (tail_of line ++ rest.0), (line ∷ rest.1.0, put_line awaited line rest.1.0 rest.0 there spelled rest.1.1))

a_node : (node : List ℕ) × IsNodeText node
a_node = let j = good_node.is_some in (j.front, j.first)

rest_nothing : HasRest Awaits.Nothing
rest_nothing = ([], ([], record { order = refl; spelled = tt; whole = refl }))

rest_end : HasRest Awaits.End
rest_end = add_line Awaits.End Lines.End (inl refl) tt rest_nothing

rest_last_steps : HasRest Awaits.LastSteps
rest_last_steps = add_line Awaits.LastSteps Lines.End (inr (inr (inr (inr (inr (inr (inr (inr (inr (inl refl)))))))))) tt rest_nothing

rest_last_chain : HasRest Awaits.LastChain
rest_last_chain = add_line Awaits.LastChain (Lines.From a_node.0) (inl refl) a_node.1 rest_last_steps

rest_first_steps : HasRest Awaits.FirstSteps
rest_first_steps = add_line Awaits.FirstSteps (Lines.From a_node.0) (inr (inr (inr (inr (inr (inr (inr (inr (inr (inl refl)))))))))) a_node.1 rest_last_steps

rest_first_chain : HasRest Awaits.FirstChain
rest_first_chain = add_line Awaits.FirstChain (Lines.From a_node.0) (inl refl) a_node.1 rest_first_steps

rest_after : (kind : ReportKind) → HasRest (Awaits.After kind)
rest_after Chain = add_line (Awaits.After Chain) (Lines.After a_node.0) (inl refl) a_node.1 rest_end
rest_after Order = add_line (Awaits.After Order) (Lines.After a_node.0) (inl refl) a_node.1 rest_end
rest_after Data = add_line (Awaits.After Data) (Lines.After a_node.0) (inl refl) a_node.1 rest_first_chain

rest_in : (kind : ReportKind) → HasRest (Awaits.In kind)
rest_in kind = add_line (Awaits.In kind) (Lines.In a_node.0) (inl refl) a_node.1 (rest_after kind)

rest_fork : (kind : ReportKind) → HasRest (Awaits.Fork kind)
rest_fork kind = add_line (Awaits.Fork kind) (Lines.Fork a_node.0) (inl refl) a_node.1 (rest_in kind)

rest_observer : (kind : ReportKind) → HasRest (Awaits.Observer kind)
rest_observer Chain = add_line (Awaits.Observer Chain) (Lines.Observer []) (inl refl) no_name_yet rest_last_chain
rest_observer Order = add_line (Awaits.Observer Order) (Lines.Observer []) (inl refl) no_name_yet (rest_fork Order)
rest_observer Data = add_line (Awaits.Observer Data) (Lines.Observer []) (inl refl) no_name_yet (rest_fork Data)

rest_refused : HasRest Awaits.Refused
rest_refused = add_line Awaits.Refused (Lines.Refused Chain) (inl refl) tt (rest_observer Chain)

pub rest_there : (awaited : Awaited) → HasRest awaited
rest_there Awaits.Title = add_line Awaits.Title Lines.Title (inl refl) tt rest_refused
rest_there Awaits.Refused = rest_refused
rest_there (Awaits.Observer kind) = rest_observer kind
rest_there (Awaits.Fork kind) = rest_fork kind
rest_there (Awaits.In kind) = rest_in kind
rest_there (Awaits.After kind) = rest_after kind
rest_there Awaits.FirstChain = rest_first_chain
rest_there Awaits.FirstSteps = rest_first_steps
rest_there Awaits.LastChain = rest_last_chain
rest_there Awaits.LastSteps = rest_last_steps
rest_there Awaits.End = rest_end
rest_there Awaits.Nothing = rest_nothing

-- ---- one line

-- the line is the only one that the text begins with
pub record LineGoes (awaited : Awaited) (text : List ℕ) (head : Head) (behind_head rest : List ℕ) : Type 0 where
  pub there : IsOneOf (heads_of awaited) head
  pub parts : text ≡ spelled_head head ++ behind_head
  pub tail : Goes (TailOf head) (RestText (behind awaited head)) behind_head rest

pub record LineStops (awaited : Awaited) (text stop : List ℕ) : Type 0 where
  pub front : List ℕ
  pub parts : text ≡ front ++ stop
  pub more : List ℕ
  pub goes : RestText awaited (front ++ more)
  pub none : (more : List ℕ) → Alike more stop → RestText awaited (front ++ more) → ⊥

abbrev pub LineReads : Awaited → List ℕ → Result (Head × (List ℕ × List ℕ)) (List ℕ) → Type 0
LineReads awaited text (Ok line) = LineGoes awaited text line.0 line.1.0 line.1.1
LineReads awaited text (Err stop) = LineStops awaited text stop

module _ (awaited : Awaited) (text : List ℕ) where
  -- a tail of the head, and what stands behind it
  whole_line : (head : Head) (t left : List ℕ) → IsOneOf (heads_of awaited) head → TailOf head t → RestText (behind awaited head) left → RestText awaited (spelled_head head ++ (t ++ left))
  whole_line head t left there is rest =
      let m = line_made head (t ++ []) [] t refl is in
      let line = line_of head (shown (t ++ []) []) in
      let at : IsOneOf (heads_of awaited) (head_of line) = subst (IsOneOf (heads_of awaited)) (sym m.head_is) there in
      let others : AreRest (behind awaited (head_of line)) rest.0 left = subst (λ (h : Head). AreRest (behind awaited h) rest.0 left) (sym m.head_is) rest.1 in (
        line ∷ rest.0,
        subst (λ (x : List ℕ). AreRest awaited (line ∷ rest.0) x) (ap (λ (h : Head). spelled_head h ++ (tail_of line ++ left)) m.head_is ∙ ap (λ (u : List ℕ). spelled_head head ++ (u ++ left)) m.tail_is)
            (put_line awaited line rest.0 left at m.spelled others),
      )

  head_breaks : (stop : List ℕ) → BreaksOff text (rows_of awaited) stop → LineStops awaited text stop
  head_breaks stop b =
      let found = head_there awaited b.row b.there in
      let head = found.0 in
      let rest = rest_there (behind awaited head) in
      let t = (good_tail head).some in
      let begins : spelled_head head ≡ b.front ++ b.more = ap (λ (r : List ℕ × Head). r.0) (sym found.2) ∙ b.begins in
      record {
        front = b.front;
        parts = b.parts;
        more = b.more ++ (t ++ rest.0);
        goes = subst (RestText awaited) (ap (λ (u : List ℕ). u ++ (t ++ rest.0)) begins ∙ append_assoc b.front b.more (t ++ rest.0)) (whole_line head t rest.0 found.1 (good_tail head).is_some rest.1);
        none = λ more alike r. by head more alike (cut_line awaited r.0 (b.front ++ more) r.1) found.1;
      }
    where
      by : (head : Head) {lines : List ReportLine} (more : List ℕ) → Alike more stop → ((awaited ≡ Awaits.Nothing) × (b.front ++ more ≡ []) × (lines ≡ [])) ⊎ ((f : FirstLine awaited (b.front ++ more)) × (lines ≡ f.line ∷ f.others)) → IsOneOf (heads_of awaited) head → ⊥
      by head more alike (inl none) there = nothing_awaited awaited head none.0 there
      by head more alike (inr f) there = b.none (row_of (head_of f.0.line)) (row_there awaited (head_of f.0.line) f.0.there) (tail_of f.0.line ++ f.0.left) more alike (sym f.0.parts)

  module _ (head : Head) (left : List ℕ) (there : IsOneOf (heads_of awaited) head) (parts : text ≡ spelled_head head ++ left) where
    tail_breaks : (stop : List ℕ) → Stops (TailOf head) (RestText (behind awaited head)) left stop → LineStops awaited text stop
    tail_breaks stop s = record {
      front = spelled_head head ++ s.front;
      parts = parts ∙ ap (λ (t : List ℕ). spelled_head head ++ t) s.parts ∙ sym (append_assoc (spelled_head head) s.front stop);
      more = s.more;
      goes = subst (RestText awaited) (ap (λ (t : List ℕ). spelled_head head ++ t) (sym s.goes.parts) ∙ sym (append_assoc (spelled_head head) s.front s.more))
          (whole_line head s.goes.front s.goes.rest there s.goes.first s.goes.second);
      none = λ more alike r. by more alike (cut_line awaited r.0 ((spelled_head head ++ s.front) ++ more) r.1);
    }
      where
        by : {lines : List ReportLine} (more : List ℕ) → Alike more stop → ((awaited ≡ Awaits.Nothing) × ((spelled_head head ++ s.front) ++ more ≡ []) × (lines ≡ [])) ⊎ ((f : FirstLine awaited ((spelled_head head ++ s.front) ++ more)) × (lines ≡ f.line ∷ f.others)) → ⊥
        by more alike (inl none) = nothing_awaited awaited head none.0 there
        by more alike (inr pair) =
            let f = pair.0 in
            let is : spelled_head (head_of f.line) ++ (tail_of f.line ++ f.left) ≡ spelled_head head ++ (s.front ++ more) = sym f.parts ∙ append_assoc (spelled_head head) s.front more in
            let same : head_of f.line ≡ head = same_head awaited (head_of f.line) head f.there there _ _ is in
            let behind_is : tail_of f.line ++ f.left ≡ s.front ++ more = append_cancel_left (spelled_head head) _ _ (ap (λ (h : Head). spelled_head h ++ (tail_of f.line ++ f.left)) (sym same) ∙ is) in
            s.none (tail_of f.line) f.left more alike (subst (λ (h : Head). TailOf h (tail_of f.line)) same (tail_spelled f.line f.spelled))
            (f.others, subst (λ (h : Head). AreRest (behind awaited h) f.others f.left) same f.goes) behind_is

  tail_then : (head : Head) (left : List ℕ) → IsOneOf (heads_of awaited) head → text ≡ spelled_head head ++ left → (read : Left) → Reads (TailOf head) (RestText (behind awaited head)) left read → LineReads awaited text (read >>= λ rest. Ok (head, (left, rest)))
  tail_then head left there parts (Ok rest) g = record { there = there; parts = parts; tail = g }
  tail_then head left there parts (Err stop) s = tail_breaks head left there parts stop s

  head_then : (o : Result (Head × List ℕ) (List ℕ)) → Chosen text (rows_of awaited) o → LineReads awaited text (o >>= λ row. tail row.0 row.1 >>= λ rest. Ok (row.0, (row.1, rest)))
  head_then (Err stop) b = head_breaks stop b
  head_then (Ok row) f =
      let found = head_there awaited (f.found, row.0) f.there in
      let same : row.0 ≡ found.0 = ap (λ (r : List ℕ × Head). r.1) found.2 in
      let there : IsOneOf (heads_of awaited) row.0 = subst (IsOneOf (heads_of awaited)) (sym same) found.1 in
      let spelled : f.found ≡ spelled_head row.0 = ap (λ (r : List ℕ × Head). r.0) found.2 ∙ ap spelled_head (sym same) in
      let rest = rest_there (behind awaited row.0) in
      tail_then row.0 row.1 there (f.parts ∙ ap (λ (t : List ℕ). t ++ row.1) spelled) (tail row.0 row.1) ((good_tail row.0).reads (RestText (behind awaited row.0)) (λ k h. tt) rest.0 rest.1 row.1)

some_head : (awaited : Awaited) → ends awaited ≡ false → (head : Head) × IsOneOf (heads_of awaited) head
some_head Awaits.Title e = (Title, inl refl)
some_head Awaits.Refused e = (Refused Chain, inl refl)
some_head (Awaits.Observer kind) e = (Observer, inl refl)
some_head (Awaits.Fork kind) e = (Fork, inl refl)
some_head (Awaits.In kind) e = (In, inl refl)
some_head (Awaits.After kind) e = (After, inl refl)
some_head Awaits.FirstChain e = (From, inl refl)
some_head Awaits.FirstSteps e = (Step (Edge Edges.Data), inl refl)
some_head Awaits.LastChain e = (From, inl refl)
some_head Awaits.LastSteps e = (Step (Edge Edges.Data), inl refl)
some_head Awaits.End e = (End, inl refl)
some_head Awaits.Nothing e = absurd (true≢false e)

pub line_read : (awaited : Awaited) (text : List ℕ) → ends awaited ≡ false → LineReads awaited text (scan awaited text)
unfolding scan
line_read awaited text e =
    let first = some_head awaited e in
    head_then awaited text (among text (rows_of awaited) text) (row_read text (rows_of awaited) (row_of first.0) (row_there awaited first.0 first.1))
