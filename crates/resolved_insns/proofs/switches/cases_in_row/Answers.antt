use Rattle.std.proofs.Common.{rules, ◌≡◌, ◌++◌, ◌∷◌, [], ◌+◌, map, w32, FitsSigned, arith}
use Rattle.std.specs.Prelude.{pos, ◌+ℤ◌}
use Rattle.std.proofs.lemmas.Int.{to_z-of_z, ints}
use Rattle.jo_insn.specs.Jumps.{offsets_of}
use Rattle.jo_insn.proofs.OffsetSteps.{is_there}
use Rattle.machine.specs.Instructions.{cases_of, keys_from, pc_behind}
use Rattle.jvm_values.specs.Resolved.{case_of}
use Rattle.resolved_insns.proofs.SwitchLemmas.{first_of, one_key}
use Rattle.resolved_insns.proofs.switches.cases_in_row.Goals as goal

pub loop-place-preserved : goal.loop-place-preserved
loop-place-preserved c =
    let low = c.args.low in
    let place = c.loop-place.place in
    let table = c.loop-place.table.now in
    let fits : FitsSigned w32 low = search rules in
    let all = cases_of c.args.pc (keys_from low c.args.count) (offsets_of c.args.count 4 c.args.table.now) in
    let added : map case_of c.add_case.new.cases ≡ map case_of c.loop-place.cases ++ (low +ℤ pos place, pc_behind c.args.pc (first_of table)) ∷ [] = search rules in
    let so_far = rw (to_z-of_z w32 low fits) at c.loop-place.invariant.so_far in
    let next : (low +ℤ pos place) +ℤ pos 1 ≡ low +ℤ pos (place + 1) = omega (arith, ints) in
    let step = one_key c.args.pc c.args.count place (map case_of c.loop-place.cases) (map case_of c.add_case.new.cases) all (low +ℤ pos place) table c.loop-place-test.true added so_far in
    rw (to_z-of_z w32 low fits, c.behind-table.ensures) (record {
      there = (is_there c.args.count place table 4 c.loop-place-test.true c.loop-place.invariant.there).1;
      so_far = rw next at step;
    })
