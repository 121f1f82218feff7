use Rattle.std.proofs.Common.{◌∙◌, sym, ap, refl, List, None, option_map}
use Rattle.jo_prog.specs.Machine.{Frame}
use Rattle.jvm_values.specs.Values.{value_of}
use Rattle.jvm_step.specs.States.{threads_of, framed}
use Rattle.jvm_step.proofs.StateLemmas.{same_step, resumed_is}
use Rattle.jvm_step.proofs.states.State.return_value.Goals as goal

pub returns-in-Ok-return_at : goal.returns-in-Ok-return_at
returns-in-Ok-return_at c = λ f below top.
    let resumed = resumed_is c.args.setting.now.program.now c.in-Ok.pc (option_map value_of c.args.given) below (c.in-Ok.ensures f below top) in
    same_step None refl refl refl
    (sym (c.in-Ok-return_at.ensures.ok f below top ∙ ap (λ (frames : List Frame). framed (threads_of c.args.self.now.threads.items) c.args.place frames None) resumed))
