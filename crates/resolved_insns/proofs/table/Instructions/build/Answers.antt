use Rattle.std.proofs.Common.{rules, ◌≡◌, length}
use Rattle.resolved_insns.specs.Tables.{IsRowOf}
use Rattle.resolved_insns.proofs.TableLemmas.{one_row, are_instructions}
use Rattle.resolved_insns.proofs.table.Instructions.build.Goals as goal

pub loop-method-preserved : goal.loop-method-preserved
loop-method-preserved c =
    let m = c.loop-method.method in
    let is : IsRowOf c.args.program.now m c.in_ok-row.row.items = rw c.of.ensures at c.in_ok-row.ensures in
    record {
      count = search rules;
      rows = rw c.in_ok-push.ensures.items (one_row c.args.program.now c.loop-method.rows.items c.in_ok-row.row m c.loop-method.invariant.count c.loop-method.invariant.rows is);
    }

pub returns : goal.returns
returns c =
    let count : length c.loop-method.rows.items ≡ length c.args.program.now.methods = search rules in
    are_instructions c.args.program.now (record { rows = c.loop-method.rows }) count c.loop-method.invariant.rows
