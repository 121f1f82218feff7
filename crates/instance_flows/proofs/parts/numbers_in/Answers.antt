use Rattle.std.proofs.Common.{ℕ, List, sym, subst, arith}
use Rattle.flow_graph.specs.Adding.{HasThose}
use Rattle.instance_flows.proofs.PartLemmas.{IsFoundBelow, found_none, found_more, found_all, fresh_next}
use Rattle.instance_flows.proofs.parts.numbers_in.Goals as goal

pub loop-number-init : goal.loop-number-init
loop-number-init c = subst (λ (xs : List ℕ). HasThose (IsFoundBelow c.args.found.now 0) xs) (sym c.new-numbers.ensures) (found_none c.args.found.now)

pub add_if_found-requires-clause-new : goal.add_if_found-requires-clause-new
add_if_found-requires-clause-new c = fresh_next c.args.found.now c.loop-number.number c.loop-number.numbers c.loop-number.invariant

pub loop-number-preserved : goal.loop-number-preserved
loop-number-preserved c = found_more c.args.found.now c.loop-number.number c.loop-number.numbers c.add_if_found.new.numbers c.loop-number.invariant c.in_ok-add_if_found.ensures

pub returns : goal.returns
returns c = found_all c.args.found.now c.loop-number.number c.loop-number.numbers (omega (arith, c.len-number-end.ensures, c.loop-number-test.false)) c.loop-number.invariant
