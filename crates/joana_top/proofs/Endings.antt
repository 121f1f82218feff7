-- From what was put to what the status of the run says.
use Rattle.std.proofs.Common.{◌≡◌, ◌⊎◌, ◌∙◌, ◌≤◌, inl, inr, ℕ, List, Option, Some, Err, sym, subst, arith}
use Rattle.jo_io.specs.Counts.{Rose}
use Rattle.joana_base.specs.Files.{Held}
use Rattle.joana_base.specs.Notes.{refusal_line, file_line}
use Rattle.joana_base.specs.Reading.{FilesChange}
use Rattle.joana_base.specs.Status.{status_for, status_of, text_of}
use Rattle.joana_base.specs.declared.status.Status.{Status}
use Rattle.joana_base.specs.declared.status.Status.TheVariants as statuses
use Rattle.joana_base.specs.declared.status.OutsideFault.TheVariants as outside
use Rattle.joana_base.specs.declared.status.Refusal.{Refusal}
use Rattle.joana_base.specs.declared.status.Refusal.TheVariants as refusals
use Rattle.joana_base.specs.declared.answers.Answer.{Answer}
use Rattle.joana_base.specs.declared.answers.Answer.TheVariants.{Yes, No}
use Rattle.joana_base.specs.declared.answers.Stop.{Stop}
use Rattle.joana_base.specs.declared.answers.Stop.TheVariants.{Faulty, Unread, Memory}
use Rattle.joana_top.specs.Words.{Command}
use Rattle.joana_top.specs.Words.Command.{check, run, asm, dis, help}
use Rattle.joana_top.specs.Sinks.{SinkChange, TookAll, TookPart, TookNothing, TookAllOrPart}
use Rattle.joana_top.specs.Answers.{Puts, IsPut, IsNoted, NotesOfPut}
use Rattle.joana_top.specs.Commands.{IsTextOf, IsAnswerOf, AfterCommandReads, IsCommandOutcome}
use Rattle.joana_top.specs.Top.{FitsReads, FitsOutput, FitsNotes, FitsRefusals, FitsVerdict, IsSecureIfAccepted, FitsTrace, FitsAssembly, FitsListing}
use Rattle.joana_top.proofs.Outcomes.{check_text, check_secure, run_shown}

-- ---- an answer

-- where an answer was put, the notes were given nothing
pub quiet_answer : (answer : Answer) (notes : SinkChange) → TookNothing notes → NotesOfPut (status_of answer) notes
quiet_answer (Yes text) notes none = none
quiet_answer (No text) notes none = none

pub puts : (IsText : Status → List ℕ → Type 0) (answer : Answer) (status : Status) (out : SinkChange) → IsText (status_of answer) (text_of answer) → IsPut answer status out → Puts IsText status out
puts IsText (Yes text) status out says put =
    let P : Status → Type 0 = λ s. Puts IsText s out in
    elim put [ inl e ↦ subst P (sym e.0) (text.items, says, e.1) | inr e ↦ subst P (sym e.0) (statuses.Done, text.items, says, e.1) ]
puts IsText (No text) status out says put =
    let P : Status → Type 0 = λ s. Puts IsText s out in
    elim put [ inl e ↦ subst P (sym e.0) (text.items, says, e.1) | inr e ↦ subst P (sym e.0) (statuses.Refused, text.items, says, e.1) ]

-- ---- no answer

-- the ends of a refusal
refused_ends : (P : Status → Type 0) (refusal : Refusal) (status : Status) (notes : SinkChange) → IsNoted (Faulty refusal) status notes
    → (TookAll notes (refusal_line refusal) → P (status_for refusal)) → (TookPart notes (refusal_line refusal) → P (statuses.Outside outside.Notes)) → (TookNothing notes → P statuses.Memory) → P status
refused_ends P refusal status notes noted all part none =
    elim noted [ inl e ↦ subst P (sym e.0) (all e.1) | inr e ↦ elim e [ inl d ↦ subst P (sym d.0) (part d.1) | inr d ↦ subst P (sym d.0) (none d.1) ] ]

-- the ends of a read that failed
unread_ends : (P : Status → Type 0) (number : ℕ) (status : Status) (notes : SinkChange) (line : List ℕ) → ((status ≡ statuses.Outside (outside.File number)) × TookAllOrPart notes line) ⊎ ((status ≡ statuses.Memory) × TookNothing notes)
    → (TookAllOrPart notes line → P (statuses.Outside (outside.File number))) → (TookNothing notes → P statuses.Memory) → P status
unread_ends P number status notes line noted tried none = elim noted [ inl e ↦ subst P (sym e.0) (tried e.1) | inr e ↦ subst P (sym e.0) (none e.1) ]

rises : (before after : ℕ) → Rose before after → before ≤ after
rises before after rose = elim rose [ inl e ↦ omega (arith, e) | inr e ↦ let same : before ≡ after = e.0 ∙ sym e.1 in omega (arith, same) ]

-- nothing is put where there is no answer
pub stopped_puts : (IsText : Status → List ℕ → Type 0) (stop : Stop) (status : Status) (notes out : SinkChange) → IsNoted stop status notes → TookNothing out → Puts IsText status out
stopped_puts IsText (Faulty (refusals.Input fault)) status notes out noted none =
    refused_ends (λ s. Puts IsText s out) (refusals.Input fault) status notes noted (λ _. none) (λ _. none) (λ _. none)
stopped_puts IsText (Faulty (refusals.Limit kind)) status notes out noted none =
    refused_ends (λ s. Puts IsText s out) (refusals.Limit kind) status notes noted (λ _. none) (λ _. none) (λ _. none)
stopped_puts IsText (Unread unread) status notes out noted none =
    unread_ends (λ s. Puts IsText s out) unread.number status notes _ noted (λ _. none) (λ _. none)
stopped_puts IsText Memory status notes out noted none = let P : Status → Type 0 = λ s. Puts IsText s out in subst P (sym noted.0) none

pub stopped_reads : (command : Command) (stop : Stop) (status : Status) (notes : SinkChange) (files : FilesChange) → IsNoted stop status notes → AfterCommandReads {T = Answer} command (Err stop) files
    → FitsReads (Some command) status files
stopped_reads command (Faulty (refusals.Input fault)) status notes files noted after =
    refused_ends (λ s. FitsReads (Some command) s files) (refusals.Input fault) status notes noted (λ _. after) (λ _. after) (λ _. omega (arith, after))
stopped_reads command (Faulty (refusals.Limit kind)) status notes files noted after =
    refused_ends (λ s. FitsReads (Some command) s files) (refusals.Limit kind) status notes noted (λ _. after) (λ _. after) (λ _. omega (arith, after))
stopped_reads command (Unread unread) status notes files noted after =
    unread_ends (λ s. FitsReads (Some command) s files) unread.number status notes _ noted (λ _. (after.0, after.1)) (λ _. rises files.faults_before files.faults_after after.0)
stopped_reads command Memory status notes files noted after = let P : Status → Type 0 = λ s. FitsReads (Some command) s files in subst P (sym noted.0) after

pub stopped_notes : (command : Command) (stop : Stop) (status : Status) (notes : SinkChange) (files : FilesChange) → IsNoted stop status notes → AfterCommandReads {T = Answer} command (Err stop) files
    → FitsNotes (Some command) status files.last_failed notes
stopped_notes command (Faulty (refusals.Input fault)) status notes files noted after =
    refused_ends (λ s. FitsNotes (Some command) s files.last_failed notes) (refusals.Input fault) status notes noted (λ all. all) (λ part. (refusals.Input fault, part)) (λ none. none)
stopped_notes command (Faulty (refusals.Limit kind)) status notes files noted after =
    refused_ends (λ s. FitsNotes (Some command) s files.last_failed notes) (refusals.Limit kind) status notes noted (λ all. all) (λ part. (refusals.Limit kind, part)) (λ none. none)
stopped_notes command (Unread unread) status notes files noted after =
    let Line : List ℕ → Type 0 = λ name. TookAllOrPart notes (file_line name) in
    unread_ends (λ s. FitsNotes (Some command) s files.last_failed notes) unread.number status notes _ noted (λ tried. subst Line after.2 tried) (λ none. none)
stopped_notes command Memory status notes files noted after =
    let P : Status → Type 0 = λ s. FitsNotes (Some command) s files.last_failed notes in subst P (sym noted.0) noted.1

pub stopped_refusals : (held : Held) (command : Command) (stop : Stop) (status : Status) (notes : SinkChange) → IsNoted stop status notes → IsCommandOutcome held command (Err stop)
    → FitsRefusals held (Some command) status notes
stopped_refusals held command (Faulty (refusals.Input fault)) status notes noted refuses =
    refused_ends (λ s. FitsRefusals held (Some command) s notes) (refusals.Input fault) status notes noted (λ _. refuses) (λ part. (refusals.Input fault, refuses, part)) (λ _. tt)
stopped_refusals held command (Faulty (refusals.Limit kind)) status notes noted refuses =
    refused_ends (λ s. FitsRefusals held (Some command) s notes) (refusals.Limit kind) status notes noted (λ _. refuses) (λ part. (refusals.Limit kind, refuses, part)) (λ _. tt)
stopped_refusals held command (Unread unread) status notes noted refuses =
    unread_ends (λ s. FitsRefusals held (Some command) s notes) unread.number status notes _ noted (λ _. tt) (λ _. tt)
stopped_refusals held command Memory status notes noted refuses =
    let P : Status → Type 0 = λ s. FitsRefusals held (Some command) s notes in subst P (sym noted.0) tt

-- ---- from what was put to the clauses

-- what is said of a text that was put
weaker : (A B : Status → List ℕ → Type 0) (status : Status) (out : SinkChange) → ((s : Status) (text : List ℕ) → A s text → B s text) → Puts A status out → Puts B status out
weaker A B statuses.Done out f p = (p.0, f statuses.Done p.0 p.1, p.2)
weaker A B statuses.Refused out f p = (p.0, f statuses.Refused p.0 p.1, p.2)
weaker A B (statuses.Outside outside.Output) out f p = (p.0, p.1, f p.0 p.1 p.2, p.3)
weaker A B (statuses.Outside outside.Notes) out f p = p
weaker A B (statuses.Outside (outside.File number)) out f p = p
weaker A B statuses.Words out f p = p
weaker A B (statuses.Input fault) out f p = p
weaker A B (statuses.Limit kind) out f p = p
weaker A B statuses.Memory out f p = p

text_shown : (held : Held) (command : Command) (status : Status) (text : List ℕ) → IsAnswerOf held command status text → IsTextOf command status text
text_shown held (check names) status text shows = check_text held names status text shows
text_shown held (run names) status text shows = run_shown held names status text shows
text_shown held (asm file) statuses.Done text shows = (shows.2.0, shows.2.2)
text_shown held (asm file) _ text shows = absurd shows.2
text_shown held (dis file) statuses.Done text shows = (shows.2.0, shows.2.3)
text_shown held (dis file) _ text shows = absurd shows.2
text_shown held help status text shows = shows

verdict_shown : (held : Held) (command : Command) (status : Status) (out : SinkChange) → Puts (IsAnswerOf held command) status out → FitsVerdict held (Some command) status out
verdict_shown held (check names) status out p = p
verdict_shown held (run names) status out p = tt
verdict_shown held (asm file) status out p = tt
verdict_shown held (dis file) status out p = tt
verdict_shown held help status out p = tt

trace_shown : (held : Held) (command : Command) (status : Status) (out : SinkChange) → Puts (IsAnswerOf held command) status out → FitsTrace held (Some command) status out
trace_shown held (check names) status out p = tt
trace_shown held (run names) status out p = p
trace_shown held (asm file) status out p = tt
trace_shown held (dis file) status out p = tt
trace_shown held help status out p = tt

assembly_shown : (held : Held) (command : Command) (status : Status) (out : SinkChange) → Puts (IsAnswerOf held command) status out → FitsAssembly held (Some command) status out
assembly_shown held (check names) status out p = tt
assembly_shown held (run names) status out p = tt
assembly_shown held (asm file) status out p = p
assembly_shown held (dis file) status out p = tt
assembly_shown held help status out p = tt

listing_shown : (held : Held) (command : Command) (status : Status) (out : SinkChange) → Puts (IsAnswerOf held command) status out → FitsListing held (Some command) status out
listing_shown held (check names) status out p = tt
listing_shown held (run names) status out p = tt
listing_shown held (asm file) status out p = tt
listing_shown held (dis file) status out p = p
listing_shown held help status out p = tt

secure_shown : (held : Held) (command : Command) (status : Status) (out : SinkChange) → Puts (IsAnswerOf held command) status out → IsSecureIfAccepted held (Some command) status
secure_shown held (check names) statuses.Done out p = check_secure held names p.0 p.1
secure_shown held (check names) _ out p = tt
secure_shown held (run names) status out p = tt
secure_shown held (asm file) status out p = tt
secure_shown held (dis file) status out p = tt
secure_shown held help status out p = tt

module _ (held : Held) (asked : Option Command) (command : Command) (is : Some command ≡ asked) (status : Status) where
  module _ (out : SinkChange) (shown : Puts (IsAnswerOf held command) status out) where
    pub fits_output : FitsOutput asked status out
    fits_output =
        let P : Option Command → Type 0 = λ o. FitsOutput o status out in
        subst P is (weaker (IsAnswerOf held command) (IsTextOf command) status out (text_shown held command) shown)

    pub fits_verdict : FitsVerdict held asked status out
    fits_verdict = let P : Option Command → Type 0 = λ o. FitsVerdict held o status out in subst P is (verdict_shown held command status out shown)

    pub fits_trace : FitsTrace held asked status out
    fits_trace = let P : Option Command → Type 0 = λ o. FitsTrace held o status out in subst P is (trace_shown held command status out shown)

    pub fits_assembly : FitsAssembly held asked status out
    fits_assembly = let P : Option Command → Type 0 = λ o. FitsAssembly held o status out in subst P is (assembly_shown held command status out shown)

    pub fits_listing : FitsListing held asked status out
    fits_listing = let P : Option Command → Type 0 = λ o. FitsListing held o status out in subst P is (listing_shown held command status out shown)

    pub is_secure : IsSecureIfAccepted held asked status
    is_secure = let P : Option Command → Type 0 = λ o. IsSecureIfAccepted held o status in subst P is (secure_shown held command status out shown)

  -- where there is no answer
  module _ (stop : Stop) (notes : SinkChange) (noted : IsNoted stop status notes) where
    pub fits_reads : (files : FilesChange) → AfterCommandReads {T = Answer} command (Err stop) files → FitsReads asked status files
    fits_reads files after = let P : Option Command → Type 0 = λ o. FitsReads o status files in subst P is (stopped_reads command stop status notes files noted after)

    pub fits_notes : (files : FilesChange) → AfterCommandReads {T = Answer} command (Err stop) files → FitsNotes asked status files.last_failed notes
    fits_notes files after = let P : Option Command → Type 0 = λ o. FitsNotes o status files.last_failed notes in subst P is (stopped_notes command stop status notes files noted after)

    pub fits_refusals : IsCommandOutcome held command (Err stop) → FitsRefusals held asked status notes
    fits_refusals refuses = let P : Option Command → Type 0 = λ o. FitsRefusals held o status notes in subst P is (stopped_refusals held command stop status notes noted refuses)
