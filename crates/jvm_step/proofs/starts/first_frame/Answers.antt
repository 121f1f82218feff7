use Rattle.std.proofs.Common.{◌∙◌, sym, ap, Option}
use Rattle.std.specs.Option.{option_to_list}
use Rattle.jo_prog.specs.Machine.{Frame}
use Rattle.jo_prog.specs.Program.{code_at}
use Rattle.jvm_step.proofs.StartLemmas.{frame_with, frame_without}
use Rattle.jvm_step.proofs.starts.first_frame.Goals as goal

pub returns-in_ok-frame : goal.returns-in_ok-frame
returns-in_ok-frame c =
    ap (λ (o : Option Frame). option_to_list o) c.in_ok-frame.ensures
    ∙ frame_with c.args.program.now c.args.entry (code_at c.args.program.now c.args.entry) c.count.result (sym c.takes_arguments.ensures ∙ c.if-takes_arguments.true) c.count.ensures

pub returns-in_ok-frame-2 : goal.returns-in_ok-frame-2
returns-in_ok-frame-2 c =
    ap (λ (o : Option Frame). option_to_list o) c.in_ok-frame-2.ensures
    ∙ frame_without c.args.program.now c.args.entry (code_at c.args.program.now c.args.entry) (sym c.takes_arguments.ensures ∙ c.if-takes_arguments.false)
