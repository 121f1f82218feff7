use Rattle.std.proofs.Common.{◌+◌, drop, arith}
use Rattle.std.proofs.lemmas.List.{length-drop}
use Rattle.jo_insn.proofs.SwitchTables.{pairs_end, eight_apart}
use Rattle.resolved_insns.proofs.resolving.lookup_switch.Goals as goal

pub cases_of_pairs-requires-clause-keys : goal.cases_of_pairs-requires-clause-keys
cases_of_pairs-requires-clause-keys c =
    let end = pairs_end c.args.code.now (λ k. (c.type_inv.code k).fits) c.args.pc c.args.next c.args.other c.args.pairs c.args.at c.requires.placed in
    let left = length-drop c.args.at c.args.code.now in
    rw c.behind-keys.ensures (eight_apart c.args.pairs (drop c.args.at c.args.code.now) (omega (arith, end.0, end.1)))

pub cases_of_pairs-requires-clause-offsets : goal.cases_of_pairs-requires-clause-offsets
cases_of_pairs-requires-clause-offsets c =
    let end = pairs_end c.args.code.now (λ k. (c.type_inv.code k).fits) c.args.pc c.args.next c.args.other c.args.pairs c.args.at c.requires.placed in
    let left = length-drop (c.args.at + 4) c.args.code.now in
    rw c.behind-offsets.ensures (eight_apart c.args.pairs (drop (c.args.at + 4) c.args.code.now) (omega (arith, end.0, end.1)))
