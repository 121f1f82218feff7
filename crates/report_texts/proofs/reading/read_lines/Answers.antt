use Rattle.std.proofs.Common.{◌≡◌, true, false, List, [], ◌∷◌, ◌++◌, length, sym, subst, rules}
use Rattle.std.proofs.lemmas.List.{nil_from_length}
use Rattle.report_texts.specs.Reports.{behind}
use Rattle.report_texts.specs.Reading.{shown, line_of, ends}
use Rattle.report_texts.specs.declared.lines.ReportLine.{ReportLine}
use Rattle.report_texts.specs.declared.words.Awaited.{Awaited}
use Rattle.report_texts.proofs.LineReads.{LineGoes, LineStops, LineReads, line_read}
use Rattle.report_texts.proofs.ReportReads.{ReadSoFar, line_more, shorter_left, line_stops, report_read, more_stops}
use Rattle.report_texts.proofs.reading.read_lines.Goals as goal

pub returns-in-Err : goal.returns-in-Err
returns-in-Err c =
    let l = c.loop-alloc in
    let more : ends l.awaited ≡ false = search rules in
    let stops : LineStops l.awaited l.rest.now c.in-Err.stop.now = subst (LineReads l.awaited l.rest.now) c.in-Err.ensures (line_read l.awaited l.rest.now more) in
    line_stops c.args.text.now l.lines.items l.awaited l.rest.now l.invariant c.in-Err.stop.now stops

pub loop-alloc-smaller : goal.loop-alloc-smaller
loop-alloc-smaller c =
    let l = c.loop-alloc in
    let line = c.in-Ok.line in
    let more : ends l.awaited ≡ false = search rules in
    let goes : LineGoes l.awaited l.rest.now line.head line.tail.now line.rest.now = subst (LineReads l.awaited l.rest.now) c.in-Ok.ensures (line_read l.awaited l.rest.now more) in
    shorter_left c.args.text.now l.lines.items l.awaited l.rest.now l.invariant line.head line.tail.now line.rest.now goes

pub loop-alloc-preserved : goal.loop-alloc-preserved
loop-alloc-preserved c =
    let l = c.loop-alloc in
    let line = c.in-Ok.line in
    let more : ends l.awaited ≡ false = search rules in
    let goes : LineGoes l.awaited l.rest.now line.head line.tail.now line.rest.now = subst (LineReads l.awaited l.rest.now) c.in-Ok.ensures (line_read l.awaited l.rest.now more) in
    let items : c.push.new.self.items ≡ l.lines.items ++ line_of line.head (shown line.tail.now line.rest.now) ∷ [] = search rules in
    let next : c.behind-awaited.result ≡ behind l.awaited line.head = search rules in
    let read = line_more c.args.text.now l.lines.items l.awaited l.rest.now l.invariant line.head line.tail.now line.rest.now goes in
    subst (λ (lines : List ReportLine). ReadSoFar c.args.text.now lines c.behind-awaited.result line.rest.now) (sym items)
    (subst (λ (a : Awaited). ReadSoFar c.args.text.now (l.lines.items ++ line_of line.head (shown line.tail.now line.rest.now) ∷ []) a line.rest.now) (sym next) read)

pub returns-then-is_empty : goal.returns-then-is_empty
returns-then-is_empty c =
    let l = c.loop-alloc in
    let last : ends l.awaited ≡ true = search rules in
    let none : length l.rest.now ≡ 0 = search rules in
    let report = report_read c.args.text.now l.lines.items l.awaited l.rest.now l.invariant last (nil_from_length l.rest.now none) in
    search (rules, report)

pub returns : goal.returns
returns c =
    let l = c.loop-alloc in
    let last : ends l.awaited ≡ true = search rules in
    more_stops c.args.text.now l.lines.items l.awaited l.rest.now l.invariant last (λ none. search rules)
