use Rattle.std.proofs.Common.{◌≡◌, List, ℕ, ◌*◌, ◌%◌, length, arith}
use Rattle.std.proofs.lemmas.List.{length-take, length-drop, length-set}
use Rattle.jo_insn.proofs.EncodedSwitch.{head_of_switch}
use Rattle.jo_insn.proofs.encoder.add_switch.Goals as goal

pub returns-clause-ok : goal.returns-clause-ok
returns-clause-ok c =
    let numbers : List ℕ = c.write_i32_into.new.dst in
    let same = simp (length-take, length-drop, length-set) at c.write_i32_into.auto.dst in
    let whole : length numbers ≡ 4 * length c.args.numbers.now = omega arith in
    let head = head_of_switch (c.args.pc % 4) c.args.op (length c.args.numbers.now) numbers (omega arith) whole in
    let added = rw head at c.add_both.ensures.ok in
    rw c.write_i32_into.ensures at added
