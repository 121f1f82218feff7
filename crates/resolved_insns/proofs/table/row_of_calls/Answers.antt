use Rattle.std.proofs.Common.{rules, ◌≡◌, length}
use Rattle.resolved_insns.proofs.TableLemmas.{one_call, all_calls}
use Rattle.resolved_insns.proofs.table.row_of_calls.Goals as goal

pub loop-pc-preserved : goal.loop-pc-preserved
loop-pc-preserved c = record {
  size = search rules;
  calls = rw c.in_ok-push.ensures.items (one_call c.args.program.now c.args.method c.args.code.now c.loop-pc.row.items c.loop-pc.pc c.in_ok-found.found c.loop-pc.invariant.size c.loop-pc.invariant.calls c.in_ok-found.ensures);
}

pub returns-clause-calls : goal.returns-clause-calls
returns-clause-calls c =
    let size : length c.loop-pc.row.items ≡ length c.args.code.now = search rules in
    all_calls c.args.program.now c.args.method c.args.code.now c.loop-pc.row.items size c.loop-pc.invariant.calls
