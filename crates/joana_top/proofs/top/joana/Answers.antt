use Rattle.std.proofs.Common.{refl}
use Rattle.joana_base.specs.Reading.{files_change}
use Rattle.joana_top.specs.Words.{command_in, as_command}
use Rattle.joana_top.specs.Sinks.{sink_change}
use Rattle.joana_top.specs.Commands.{IsAnswerOf}
use Rattle.joana_top.proofs.Endings.{puts, stopped_puts, fits_reads, fits_output, fits_notes, fits_refusals, fits_verdict, is_secure, fits_trace, fits_assembly, fits_listing}
use Rattle.joana_top.proofs.top.joana.Goals as goal

pub returns-in-Ok-clause-output : goal.returns-in-Ok-clause-output
returns-in-Ok-clause-output g c =
    let held = g.F.Files.held c.args.files.now in
    let command = as_command c.in-Some.command in
    let out = sink_change g.S.Sink.given g.S.Sink.faults c.args.out.now c.put_answer.new.out in
    fits_output held (command_in c.args.words.now) command c.in-Some.ensures c.put_answer.result out
    (puts (IsAnswerOf held command) c.in-Ok.answer c.put_answer.result out c.in-Ok.ensures.outcome c.put_answer.ensures.output)

pub returns-in-Ok-clause-verdict : goal.returns-in-Ok-clause-verdict
returns-in-Ok-clause-verdict g c =
    let held = g.F.Files.held c.args.files.now in
    let command = as_command c.in-Some.command in
    let out = sink_change g.S.Sink.given g.S.Sink.faults c.args.out.now c.put_answer.new.out in
    fits_verdict held (command_in c.args.words.now) command c.in-Some.ensures c.put_answer.result out
    (puts (IsAnswerOf held command) c.in-Ok.answer c.put_answer.result out c.in-Ok.ensures.outcome c.put_answer.ensures.output)

pub returns-in-Ok-clause-secure : goal.returns-in-Ok-clause-secure
returns-in-Ok-clause-secure g c =
    let held = g.F.Files.held c.args.files.now in
    let command = as_command c.in-Some.command in
    let out = sink_change g.S.Sink.given g.S.Sink.faults c.args.out.now c.put_answer.new.out in
    is_secure held (command_in c.args.words.now) command c.in-Some.ensures c.put_answer.result out
    (puts (IsAnswerOf held command) c.in-Ok.answer c.put_answer.result out c.in-Ok.ensures.outcome c.put_answer.ensures.output)

pub returns-in-Ok-clause-trace : goal.returns-in-Ok-clause-trace
returns-in-Ok-clause-trace g c =
    let held = g.F.Files.held c.args.files.now in
    let command = as_command c.in-Some.command in
    let out = sink_change g.S.Sink.given g.S.Sink.faults c.args.out.now c.put_answer.new.out in
    fits_trace held (command_in c.args.words.now) command c.in-Some.ensures c.put_answer.result out
    (puts (IsAnswerOf held command) c.in-Ok.answer c.put_answer.result out c.in-Ok.ensures.outcome c.put_answer.ensures.output)

pub returns-in-Ok-clause-assembly : goal.returns-in-Ok-clause-assembly
returns-in-Ok-clause-assembly g c =
    let held = g.F.Files.held c.args.files.now in
    let command = as_command c.in-Some.command in
    let out = sink_change g.S.Sink.given g.S.Sink.faults c.args.out.now c.put_answer.new.out in
    fits_assembly held (command_in c.args.words.now) command c.in-Some.ensures c.put_answer.result out
    (puts (IsAnswerOf held command) c.in-Ok.answer c.put_answer.result out c.in-Ok.ensures.outcome c.put_answer.ensures.output)

pub returns-in-Ok-clause-listing : goal.returns-in-Ok-clause-listing
returns-in-Ok-clause-listing g c =
    let held = g.F.Files.held c.args.files.now in
    let command = as_command c.in-Some.command in
    let out = sink_change g.S.Sink.given g.S.Sink.faults c.args.out.now c.put_answer.new.out in
    fits_listing held (command_in c.args.words.now) command c.in-Some.ensures c.put_answer.result out
    (puts (IsAnswerOf held command) c.in-Ok.answer c.put_answer.result out c.in-Ok.ensures.outcome c.put_answer.ensures.output)

pub returns-in-Err-clause-reads : goal.returns-in-Err-clause-reads
returns-in-Err-clause-reads g c =
    let held = g.F.Files.held c.args.files.now in
    let notes = sink_change g.N.Sink.given g.N.Sink.faults c.args.notes.now c.stopped.new.notes in
    let files = files_change g.F.Files.held g.F.Files.faults g.F.Files.failed c.args.files.now c.run_command.new.files in
    fits_reads held (command_in c.args.words.now) (as_command c.in-Some.command) c.in-Some.ensures c.stopped.result c.in-Err.stop notes c.stopped.ensures files c.in-Err.ensures.after

pub returns-in-Err-clause-output : goal.returns-in-Err-clause-output
returns-in-Err-clause-output g c =
    let held = g.F.Files.held c.args.files.now in
    let command = as_command c.in-Some.command in
    let out = sink_change g.S.Sink.given g.S.Sink.faults c.args.out.now c.args.out.now in
    let notes = sink_change g.N.Sink.given g.N.Sink.faults c.args.notes.now c.stopped.new.notes in
    fits_output held (command_in c.args.words.now) command c.in-Some.ensures c.stopped.result out
    (stopped_puts (IsAnswerOf held command) c.in-Err.stop c.stopped.result notes out c.stopped.ensures (record { given = refl; faults = refl }))

pub returns-in-Err-clause-notes : goal.returns-in-Err-clause-notes
returns-in-Err-clause-notes g c =
    let held = g.F.Files.held c.args.files.now in
    let notes = sink_change g.N.Sink.given g.N.Sink.faults c.args.notes.now c.stopped.new.notes in
    let files = files_change g.F.Files.held g.F.Files.faults g.F.Files.failed c.args.files.now c.run_command.new.files in
    fits_notes held (command_in c.args.words.now) (as_command c.in-Some.command) c.in-Some.ensures c.stopped.result c.in-Err.stop notes c.stopped.ensures files c.in-Err.ensures.after

pub returns-in-Err-clause-refusals : goal.returns-in-Err-clause-refusals
returns-in-Err-clause-refusals g c =
    let held = g.F.Files.held c.args.files.now in
    let notes = sink_change g.N.Sink.given g.N.Sink.faults c.args.notes.now c.stopped.new.notes in
    fits_refusals held (command_in c.args.words.now) (as_command c.in-Some.command) c.in-Some.ensures c.stopped.result c.in-Err.stop notes c.stopped.ensures c.in-Err.ensures.outcome

pub returns-in-Err-clause-verdict : goal.returns-in-Err-clause-verdict
returns-in-Err-clause-verdict g c =
    let held = g.F.Files.held c.args.files.now in
    let command = as_command c.in-Some.command in
    let out = sink_change g.S.Sink.given g.S.Sink.faults c.args.out.now c.args.out.now in
    let notes = sink_change g.N.Sink.given g.N.Sink.faults c.args.notes.now c.stopped.new.notes in
    fits_verdict held (command_in c.args.words.now) command c.in-Some.ensures c.stopped.result out
    (stopped_puts (IsAnswerOf held command) c.in-Err.stop c.stopped.result notes out c.stopped.ensures (record { given = refl; faults = refl }))

pub returns-in-Err-clause-secure : goal.returns-in-Err-clause-secure
returns-in-Err-clause-secure g c =
    let held = g.F.Files.held c.args.files.now in
    let command = as_command c.in-Some.command in
    let out = sink_change g.S.Sink.given g.S.Sink.faults c.args.out.now c.args.out.now in
    let notes = sink_change g.N.Sink.given g.N.Sink.faults c.args.notes.now c.stopped.new.notes in
    is_secure held (command_in c.args.words.now) command c.in-Some.ensures c.stopped.result out
    (stopped_puts (IsAnswerOf held command) c.in-Err.stop c.stopped.result notes out c.stopped.ensures (record { given = refl; faults = refl }))

pub returns-in-Err-clause-trace : goal.returns-in-Err-clause-trace
returns-in-Err-clause-trace g c =
    let held = g.F.Files.held c.args.files.now in
    let command = as_command c.in-Some.command in
    let out = sink_change g.S.Sink.given g.S.Sink.faults c.args.out.now c.args.out.now in
    let notes = sink_change g.N.Sink.given g.N.Sink.faults c.args.notes.now c.stopped.new.notes in
    fits_trace held (command_in c.args.words.now) command c.in-Some.ensures c.stopped.result out
    (stopped_puts (IsAnswerOf held command) c.in-Err.stop c.stopped.result notes out c.stopped.ensures (record { given = refl; faults = refl }))

pub returns-in-Err-clause-assembly : goal.returns-in-Err-clause-assembly
returns-in-Err-clause-assembly g c =
    let held = g.F.Files.held c.args.files.now in
    let command = as_command c.in-Some.command in
    let out = sink_change g.S.Sink.given g.S.Sink.faults c.args.out.now c.args.out.now in
    let notes = sink_change g.N.Sink.given g.N.Sink.faults c.args.notes.now c.stopped.new.notes in
    fits_assembly held (command_in c.args.words.now) command c.in-Some.ensures c.stopped.result out
    (stopped_puts (IsAnswerOf held command) c.in-Err.stop c.stopped.result notes out c.stopped.ensures (record { given = refl; faults = refl }))

pub returns-in-Err-clause-listing : goal.returns-in-Err-clause-listing
returns-in-Err-clause-listing g c =
    let held = g.F.Files.held c.args.files.now in
    let command = as_command c.in-Some.command in
    let out = sink_change g.S.Sink.given g.S.Sink.faults c.args.out.now c.args.out.now in
    let notes = sink_change g.N.Sink.given g.N.Sink.faults c.args.notes.now c.stopped.new.notes in
    fits_listing held (command_in c.args.words.now) command c.in-Some.ensures c.stopped.result out
    (stopped_puts (IsAnswerOf held command) c.in-Err.stop c.stopped.result notes out c.stopped.ensures (record { given = refl; faults = refl }))
