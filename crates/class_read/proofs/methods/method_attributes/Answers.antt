use Rattle.std.proofs.Common.{◌≡◌, [], ◌∷◌, ◌++◌, append-nil, rules}
use Rattle.std.proofs.lemmas.Result.{err_from_is_err_and}
use Rattle.class_read.proofs.MethodSteps.{takes_attribute, stops_at_attribute, attributes_done}
use Rattle.class_read.proofs.methods.method_attributes.Goals as goal
use Rattle.class_read.proofs.methods.method_attributes.Goals.{in-Some+in_ok-map_err, in_default}

pub returns-in_err-found : goal.returns-in_err-found
returns-in_err-found c =
    let p = err_from_is_err_and c.from_residual.result c.from_residual.ensures.1 in
    rw (p.1, p.2) (stops_at_attribute c.args.size c.args.pool.now c.loop.codes.items c.args.count c.loop.counter c.loop.rest.now _ c.loop.invariant c.in_err-found.field-0.0 c.loop-test.true c.in_err-found.ensures)

pub loop-preserved : goal.loop-preserved
loop-preserved c =
    let taken = takes_attribute c.args.size c.args.pool.now c.loop.codes.items c.args.count c.loop.counter c.loop.rest.now _ c.loop.invariant c.in_ok-found.found c.in_ok-found.behind.now c.loop-test.true c.in_ok-found.ensures in
    elim c.match-found.branch [
      | in-Some+in_ok-map_err w ↦
          let pushed : w.push.new.self.items ≡ c.loop.codes.items ++ w.in-Some.code ∷ [] = search rules in
          rw (w.codes-is, pushed) (rw w.in-Some.is at taken)
      | in_default w ↦ rw w.codes-is (rw (w.in_default.is, append-nil) at taken)
    ]

pub returns : goal.returns
returns c = attributes_done c.args.size c.args.pool.now c.loop.codes.items c.args.count c.loop.counter c.loop.rest.now _ c.loop.invariant c.loop-test.false
