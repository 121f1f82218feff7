use Rattle.run_plans.proofs.RunAnswers.{next_input}
use Rattle.run_plans.proofs.run_file.place_inputs.Goals as goal

pub loop-input-preserved : goal.loop-input-preserved
loop-input-preserved c =
    next_input c.args.program.now c.args.policy.now.labels c.args.inputs.now c.loop-input.input-index c.input-item.result c.in_ok-one.one c.loop-input.placed c.push.new.self
    c.loop-input-test.true c.input-item.is c.in_ok-one.ensures c.in_ok-push.ensures.ok c.loop-input.invariant
