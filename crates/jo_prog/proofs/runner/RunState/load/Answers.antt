use Rattle.std.proofs.Common.{arith, ◌∙◌}
use Rattle.std.proofs.lemmas.Grind.{common_steps}
use Rattle.jo_prog.specs.Running.{values_of}
use Rattle.jo_prog.proofs.RunningLemmas.{fetched_local-some, fetched_local-none}
use Rattle.jo_prog.proofs.runner.RunState.load.Goals as goal

pub returns-in_ok-push : goal.returns-in_ok-push
returns-in_ok-push c = λ program labels.
    let r = c.args.self.now in
    let e = c.in-Some.ensures in
    let there = fetched_local-some program r.locals.items c.args.local c.in-Some.value (values_of program r.stack.items) e in
    grind (arith, common_steps)

pub returns-in_default : goal.returns-in_default
returns-in_default c = λ program labels.
    let r = c.args.self.now in
    let nothing = fetched_local-none program r.locals.items c.args.local (values_of program r.stack.items) (λ x e. c.in_default.not-Some x (c.local.ensures ∙ e)) in
    grind (arith, common_steps)
