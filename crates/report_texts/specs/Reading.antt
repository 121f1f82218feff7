-- Reports read from left to right: what follows a part, or what is left where the part breaks off. Private functions
-- compute these; the public contract cites `Reports` alone.
use Rattle.std.specs.Prelude.{◌≡◌, ℕ, ◌+◌, ◌-◌, ◌*◌, ◌≤◌, ◌==◌, nat_lt, Bool, true, false, ◌&&◌, ◌||◌, not, if◌then◌else◌, List, [], ◌∷◌, ◌++◌, length, take, map, codes, Option, Some, None, Result, Ok, Err}
use Rattle.std.specs.Borrow.{Bor}
use Rattle.std.specs.Int.{is_in_range}
use Rattle.std.specs.Str.{bytes_eq}
use Rattle.jo_text.specs.Escapes.{is_escaped}
use Rattle.jo_text.specs.Texts.{StopsAt}
use Rattle.report_texts.specs.NodeTexts.{is_digit, kinds}
use Rattle.report_texts.specs.Reports.{spelled_head, heads_of, IsReport, IsReportText}
use Rattle.report_texts.specs.declared.lines.ReportLine.{ReportLine}
use Rattle.report_texts.specs.declared.lines.ReportLine.TheVariants as Lines
use Rattle.report_texts.specs.declared.reading.Reading.{Reading}
use Rattle.report_texts.specs.declared.reading.Reading.TheVariants.{Whole, Stops}
use Rattle.report_texts.specs.declared.reading.Scanned.{Scanned}
use Rattle.report_texts.specs.declared.names.Escape.{Escape}
use Rattle.report_texts.specs.declared.names.Escape.TheVariants.{Plain, Percent, High}
use Rattle.report_texts.specs.declared.names.Turn.{Turn}
use Rattle.report_texts.specs.declared.names.Turn.TheVariants.{GoesOn, Ends, Breaks}
use Rattle.report_texts.specs.declared.words.Numbers.{Numbers}
use Rattle.report_texts.specs.declared.words.Numbers.TheVariants.{Zero, One, Two}
use Rattle.report_texts.specs.declared.words.Head.{Head}
use Rattle.report_texts.specs.declared.words.Head.TheVariants.{Title, Refused, Observer, Fork, In, After, From, Step, End}
use Rattle.report_texts.specs.declared.words.Awaited.{Awaited}
use Rattle.report_texts.specs.declared.words.Awaited.TheVariants as Awaits

-- what follows, or what is left where the text breaks off
abbrev pub Left : Type 0
Left = Result (List ℕ) (List ℕ)

-- what a reader returned is what the definition gives
abbrev pub Leaves : Result (Bor (List ℕ)) (Bor (List ℕ)) → Left → Type 0
Leaves (Ok rest) left = left ≡ Ok rest.now
Leaves (Err rest) left = left ≡ Err rest.now

infixl 10 ◌>>=◌
abbrev pub ◌>>=◌ : {A B : Type 0} → Result A (List ℕ) → (A → Result B (List ℕ)) → Result B (List ℕ)
(Err rest) >>= f = Err rest
(Ok x) >>= f = f x

-- ---- words

unfoldable pub word : List ℕ → List ℕ → Left
word [] text = Ok text
word (a ∷ others) [] = Err []
word (a ∷ others) (b ∷ text) = if b == a then word others text else Err (b ∷ text)

abbrev pub shorter : List ℕ → List ℕ → List ℕ
shorter one other = if nat_lt (length other) (length one) then other else one

-- the first row whose word begins the text; else what is left where the longest beginning of one breaks off
unfoldable pub among : {T : Type 0} → List ℕ → List (List ℕ × T) → List ℕ → Result (T × List ℕ) (List ℕ)
among stop [] text = Err stop
among stop (row ∷ rows) text = elim (word row.0 text) [ Ok rest ↦ Ok (row.1, rest) | Err left ↦ among (shorter stop left) rows text ]

-- ---- names

-- the value of a digit to the base sixteen
abbrev pub hex_value : ℕ → Option ℕ
hex_value digit = if is_in_range 48 57 digit then Some (digit - 48) else if is_in_range 65 70 digit then Some (digit - 55) else None

-- some byte that needs an escape has this digit first
abbrev pub begins_escape : Option ℕ → Bool
begins_escape None = false
begins_escape (Some high) = nat_lt high 3 || (high == 4 || (high == 5 || nat_lt 6 high))

-- the byte of these digits needs an escape
abbrev pub is_escape : Option ℕ → Option ℕ → Bool
is_escape None low = false
is_escape (Some high) None = false
is_escape (Some high) (Some low) = is_escaped (high * 16 + low)

-- what a byte is to a name
abbrev pub turn : Escape → ℕ → Turn
turn Plain byte = if byte == 37 then GoesOn Percent else if is_escaped byte then Ends else GoesOn Plain
turn Percent byte = if begins_escape (hex_value byte) then GoesOn (High byte) else Breaks
turn (High high) byte = if is_escape (hex_value high) (hex_value byte) then GoesOn Plain else Breaks

abbrev pub at_end : Escape → Left
at_end Plain = Ok []
at_end _ = Err []

-- what follows the longest name
unfoldable pub name_from : Escape → List ℕ → Left
name_from escape [] = at_end escape
name_from escape (byte ∷ rest) = elim (turn escape byte) [ GoesOn next ↦ name_from next rest | Ends ↦ Ok (byte ∷ rest) | Breaks ↦ Err (byte ∷ rest) ]

abbrev pub name : List ℕ → Left
name text = name_from Plain text

abbrev pub some_name : List ℕ → Left
some_name text = do
  rest ← name text
  if length rest == length text then Err text else Ok rest

-- ---- numbers

unfoldable pub digits : List ℕ → List ℕ
digits [] = []
digits (byte ∷ rest) = if is_digit byte then digits rest else byte ∷ rest

unfoldable pub number : List ℕ → Left
number [] = Err []
number (byte ∷ rest) = if byte == 48 then Ok rest else if is_in_range 49 57 byte then Ok (digits rest) else Err (byte ∷ rest)

-- ---- nodes

abbrev pub begins_with : ℕ → List ℕ → Bool
begins_with byte [] = false
begins_with byte (b ∷ rest) = b == byte

unfoldable pub raised : List ℕ → Left
raised text = if begins_with 33 text then word (codes "!") text >>= some_name else Ok text

-- what stands before the rest
abbrev pub before : List ℕ → List ℕ → List ℕ
before rest text = take (length text - length rest) text

abbrev pub is_constant : List ℕ → Bool
is_constant text = bytes_eq text (codes "string") || bytes_eq text (codes "args")

unfoldable pub behind_site_name : List ℕ → List ℕ → Left
behind_site_name text rest =
    if is_constant (before rest text) && not (begins_with 64 rest) then Ok rest else do
      pc ← word (codes "@") rest
      after ← number pc
      raised after

unfoldable pub site : List ℕ → Left
site text = do
  rest ← some_name text
  behind_site_name text rest

unfoldable pub last_site : List ℕ → Left
last_site text = do
  rest ← word (codes ",") text
  after ← site rest
  word (codes "]") after

unfoldable pub behind_site : List ℕ → Left
behind_site text = if begins_with 44 text then last_site text else word (codes "]") text

unfoldable pub behind_bracket : List ℕ → Left
behind_bracket text = if begins_with 93 text then word (codes "]") text else do
  rest ← site text
  behind_site rest

unfoldable pub context : List ℕ → Left
context text = do
  rest ← word (codes "[") text
  behind_bracket rest

-- each kind with the byte that follows it
abbrev pub closing : Numbers → List ℕ
closing Zero = 10 ∷ []
closing _ = 32 ∷ []

abbrev pub closed : List ℕ × Numbers → List ℕ × Numbers
closed kind = (kind.0 ++ closing kind.1, kind.1)

unfoldable pub closed_kinds : List (List ℕ × Numbers)
closed_kinds = map closed kinds

unfoldable pub numbers_line : Numbers → List ℕ → Left
numbers_line Zero text = Ok text
numbers_line One text = do
  rest ← number text
  word (codes "\n") rest
numbers_line Two text = do
  rest ← number text
  second ← word (codes " ") rest
  after ← number second
  word (codes "\n") after

unfoldable pub kind_line : List ℕ → Left
kind_line text = do
  row ← among text closed_kinds text
  numbers_line row.0 row.1

-- a node and a line feed
unfoldable pub node_line : List ℕ → Left
node_line text = do
  a ← some_name text
  b ← word (codes " ") a
  c ← context b
  d ← word (codes " ") c
  kind_line d

-- a level and a line feed
unfoldable pub level_line : List ℕ → Left
level_line text = do
  rest ← name text
  word (codes "\n") rest

-- ---- lines

unfoldable pub tail : Head → List ℕ → Left
tail Title text = Ok text
tail (Refused kind) text = Ok text
tail End text = Ok text
tail Observer text = level_line text
tail _ text = node_line text

abbrev pub row_of : Head → List ℕ × Head
row_of head = (spelled_head head, head)

unfoldable pub rows_of : Awaited → List (List ℕ × Head)
rows_of awaited = map row_of (heads_of awaited)

-- the line that the text begins with: its head, the text behind that, and what follows
unfoldable pub scan : Awaited → List ℕ → Result (Head × (List ℕ × List ℕ)) (List ℕ)
scan awaited text = do
  row ← among text (rows_of awaited) text
  rest ← tail row.0 row.1
  Ok (row.0, (row.1, rest))

-- a tail without its line feed
abbrev pub shown : List ℕ → List ℕ → List ℕ
shown text rest = take (length text - length rest - 1) text

abbrev pub line_of : Head → List ℕ → ReportLine
line_of Title text = Lines.Title
line_of (Refused kind) text = Lines.Refused kind
line_of Observer text = Lines.Observer text
line_of Fork text = Lines.Fork text
line_of In text = Lines.In text
line_of After text = Lines.After text
line_of From text = Lines.From text
line_of (Step word) text = Lines.Step word text
line_of End text = Lines.End

-- ---- what readers return

abbrev pub LeavesRow : {T : Type 0} → Result (T × Bor (List ℕ)) (Bor (List ℕ)) → Result (T × List ℕ) (List ℕ) → Type 0
LeavesRow (Ok row) left = left ≡ Ok (row.0, row.1.now)
LeavesRow (Err rest) left = left ≡ Err rest.now

abbrev pub LeavesLine : Result (Scanned) (Bor (List ℕ)) → Result (Head × (List ℕ × List ℕ)) (List ℕ) → Type 0
LeavesLine (Ok line) left = left ≡ Ok (line.head, (line.tail.now, line.rest.now))
LeavesLine (Err rest) left = left ≡ Err rest.now

-- a report was read, or this is left where the text stops being one
abbrev pub IsRead : List ℕ → Reading → Type 0
IsRead text (Whole report) = IsReport report text
IsRead text (Stops rest) = (length rest.now ≤ length text) × StopsAt IsReportText text (length text - length rest.now)

abbrev pub ends : Awaited → Bool
ends Awaits.Nothing = true
ends _ = false
